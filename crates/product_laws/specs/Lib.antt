pub mod FactorSteps
pub mod CountedProducts
pub mod StripLists
