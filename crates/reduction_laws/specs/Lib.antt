-- Products of partitions with each partition of a product replaced by its reduction.
pub mod Collected
pub mod ReducedLists
pub mod Reductions
