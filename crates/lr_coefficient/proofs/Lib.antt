pub mod SameCounts
pub mod TurnedSteps
