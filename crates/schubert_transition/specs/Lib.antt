pub mod TermLists
pub mod Kept
