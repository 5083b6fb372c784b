pub mod Rows
pub mod Removal
pub mod Pairs
