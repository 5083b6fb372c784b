pub mod Rotated
pub mod RotatedBack
pub mod FullColumns
pub mod Rotations
pub mod RotatedSteps
pub mod Lifts
pub mod FusionTurns
