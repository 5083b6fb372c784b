-- The rows of lattice tableaux: the ways to add them, and their bounds.
pub mod LatticeRows
pub mod ProductRule
pub mod ListedProduct
