-- The definitions that the contracts of this crate cite.
pub mod Trees
pub mod Weights
pub mod Symbols
pub mod Offences
pub mod ScanSteps
pub mod Building
pub mod Reading
pub mod Signs
