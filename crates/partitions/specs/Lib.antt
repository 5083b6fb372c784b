pub mod Limits
pub mod Listing
pub mod Stage
pub mod Arranging
pub mod FactorList
