-- The exponents of the product of a monomial and a variable (`raised`).
pub use Rattle.sym_model.specs.DividedDifference.{raised}
