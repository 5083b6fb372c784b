mod Capped
mod RecordLists
pub mod TermLists
mod Stacks
mod Moves
