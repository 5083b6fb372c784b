pub mod Words
pub mod Signed
pub mod Removed
pub mod PlainTerm
pub mod PlainLists
pub mod Pairs
