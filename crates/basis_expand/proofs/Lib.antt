pub mod Evaluations
pub mod Parts
pub mod Making
pub mod Conversions
pub mod AtomLists
pub mod StripLists
pub mod AbsoluteTerms
pub mod StripTables
pub mod SchurSums
pub mod ContentCounts
mod Weights
mod SchurExpansions
mod SchurTables
mod Expressions
mod ListProducts
mod OneTerms
mod FamilyFactors
mod InMonomials
