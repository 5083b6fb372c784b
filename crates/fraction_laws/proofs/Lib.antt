pub mod Divisors
pub mod Fractions
pub mod Cleared
pub mod FractionLaws
pub mod Whole
pub mod FractionAnswers
