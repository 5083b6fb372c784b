-- The modules of definitions that the contracts of `calc_replies` refer to.
pub mod Forms
pub mod Computed
