-- Lemmas about printed texts that are cut into lines, labels and numbers, and read back as answers.
pub mod Cuts
pub mod Digits
pub mod NumberLists
pub mod LabelCauses
pub mod FittingTerms
pub mod LineSteps
pub mod NewFractions
pub mod BlockReadings
pub mod Blocks
pub mod LineReadings
