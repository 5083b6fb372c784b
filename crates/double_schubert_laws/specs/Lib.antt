pub mod Factors
pub mod ShortShifts
pub mod AtZero
pub mod DiagramRows
pub mod KeptChains
