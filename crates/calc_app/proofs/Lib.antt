-- Lemmas about the call `run`: the blocks of a batch, the sums that the command `work` writes over the lines that it generates, the bytes in a sink
-- at the end, and faults.
pub mod CommandKinds
pub mod Faults
pub mod Outcomes
pub mod LinesAlone
pub mod LinesRead
pub mod Batches
pub mod Ends
pub mod WorkSums
