pub mod BinaryPlaces
pub mod BetaSets
pub mod GreatestPlaces
pub mod ShapeSums
pub mod SetNumbers
pub mod WrittenSets
