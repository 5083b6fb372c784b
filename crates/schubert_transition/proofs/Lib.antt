pub mod Acted
pub mod FinalSums
pub mod VariableShares
pub mod KeptEntries
