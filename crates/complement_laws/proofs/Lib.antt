pub mod Reversed
pub mod Flipped
pub mod SmallExponents
pub mod Complements
