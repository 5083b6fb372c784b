pub mod TransitionOrder
pub mod ShortPermutations
pub mod Chains
pub mod PathCovers
