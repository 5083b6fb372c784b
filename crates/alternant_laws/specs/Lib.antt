pub mod GoodSums
pub mod BenderKnuth
pub mod StraightenedTerms
