pub mod Sizes
pub mod CommonDivisors
pub mod FractionSteps
pub mod CommonMultiples
pub mod LowestTerms
pub mod CheckedResults
