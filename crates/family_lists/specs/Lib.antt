pub mod FactorLists
pub mod KeptLists
pub mod ClosedCoefficients
