pub mod CoverSteps
pub mod Descents
pub mod LetterOrder
pub mod WithinLimits
pub mod NewLetters
pub mod OneSwap
pub mod Prefixes
pub mod InversionCounts
