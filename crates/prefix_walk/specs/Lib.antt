-- The meaning of walks over the prefixes of labels: terms in order, steps, and levels.
pub mod Terms
pub mod Steps
pub mod Levels
pub mod Walking
