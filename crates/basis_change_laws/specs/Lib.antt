pub mod AugmentedMonomial
pub mod JoinedLists
