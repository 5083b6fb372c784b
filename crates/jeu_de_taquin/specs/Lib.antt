pub mod EmptyCell
