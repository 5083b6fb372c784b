-- The terms by which the transition rule multiplies a label, for each kind of label.
pub mod MonkTerms
pub mod Acted
pub mod Shifts
