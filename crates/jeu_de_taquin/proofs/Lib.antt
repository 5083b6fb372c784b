pub mod Moves
pub mod Neighbours
pub mod Steps
pub mod WholeSlides
