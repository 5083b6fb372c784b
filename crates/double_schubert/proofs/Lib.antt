pub mod FactorGains
pub mod FactorLists
pub mod LinearProducts
pub mod Permuted
pub mod EightLetters
pub mod FactorProducts
