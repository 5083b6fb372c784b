-- The modules of definitions that the contracts of `calc_app` refer to.
pub mod Top
pub mod Batch
pub mod Work
