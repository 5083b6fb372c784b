-- The modules of definitions that the contracts of `double_schubert` refer to.
pub mod ShortMonomials
pub mod ByPermutations
pub mod LinearFactors
