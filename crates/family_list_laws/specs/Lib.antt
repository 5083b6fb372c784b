pub mod OnePartLists
pub mod SmallPartitions
