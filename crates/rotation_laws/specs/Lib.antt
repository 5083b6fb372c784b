pub mod Rotation
pub mod Lifting
