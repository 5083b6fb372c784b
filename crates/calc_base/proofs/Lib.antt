-- Lemmas on three subjects: the texts that are written to a sink; sources and sinks in memory; and the numbers that are combined into one for
-- hashing.
pub mod PutsLaws
pub mod Memory
pub mod Written
pub mod PutsListed
mod MixedNumbers
