-- The modules of definitions that the contracts of `transition_walk` refer to.
pub mod Transitions
pub mod Todo
pub mod Waiting
pub mod Growth
