-- The lists of terms that the contracts of `schur_products` refer to.
pub mod ListedTerms
