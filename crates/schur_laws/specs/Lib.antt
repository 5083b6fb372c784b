pub mod Kostka
pub mod InnerShapes
pub mod SymmetricFamily
pub mod PartitionAtoms
pub mod IndependentLabels
