pub mod PlethysmLists
pub mod BoundedSums
pub mod PathSums
pub mod Compositions
