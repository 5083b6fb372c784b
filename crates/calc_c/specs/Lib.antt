-- The module of definitions that the contracts of the C library refer to.
pub mod Calls
