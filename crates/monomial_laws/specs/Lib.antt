pub mod PowerSumProduct
pub mod LoweredPart
pub mod MonomialProduct
pub mod Majorant
pub mod ExpressionTerms
