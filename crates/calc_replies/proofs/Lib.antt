-- Lemmas about the outcomes of commands: weights of plethysms and expansions, the tableaux that `tab` lists, growth grids, and the outcome of the
-- words of a command.
pub mod Replies
pub mod Delivered
pub mod Compositions
pub mod Expansions
pub mod FewInversions
pub mod GridLines
pub mod Listings
mod WrittenText
