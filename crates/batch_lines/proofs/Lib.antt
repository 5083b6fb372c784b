pub mod Parts
pub mod NextLines
pub mod Lines
-- Lemmas about the lines of a batch, about their blocks (the texts of their answers or refusals), and about the lines that are generated for `work`.
pub mod Words
pub mod Blocks
