pub mod CoverLists
pub mod Limits
