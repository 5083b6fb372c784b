pub mod SpecialHooks
pub mod Nodes
pub mod SchurLists
