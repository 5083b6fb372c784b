pub mod Fractions
pub mod Room
pub mod Laws
pub mod Answers
pub mod Checked
