pub mod Walks
pub mod Positions
pub mod Listings
pub mod Fits
pub mod NextLetters
pub mod ReadRows
pub mod LatticeWords
