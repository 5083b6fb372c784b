pub mod SumsOfMonomials
pub mod PowerSumPlethysm
pub mod PositiveExpression
