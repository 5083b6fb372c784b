pub mod NewtonIdentities
pub mod AugmentedMonomials
pub mod MergedParts
pub mod JoinedLists
pub mod NewtonLists
pub mod GrowthBounds
pub mod FactorialQuotients
