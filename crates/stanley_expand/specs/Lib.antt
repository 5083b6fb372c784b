pub mod Grassmannian
pub mod SchurPositive
pub mod GreaterBefore
pub mod Walk
pub mod Blocks
