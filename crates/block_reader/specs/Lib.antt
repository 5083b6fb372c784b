-- The definitions that the contracts of this crate cite.
pub mod Parts
pub mod Fitting
pub mod Readings
pub mod Lines
