-- The definitions that the contracts of this crate cite.
pub mod Answers
pub mod Refusal
pub mod ReadingPlaces
pub mod SignedTerms
pub mod Gathering
pub mod Blocks
