-- e_k, h_k and p_k in n variables are polynomials in n variables (`In`).
use Rattle.std.proofs.Common.{ℕ, true}
use Rattle.sym_model.specs.Bases.{at_most_one, has}
use Rattle.sym_model.specs.Polynomial.{In}
use Rattle.sym_model.proofs.Monomials.{In-monomials}
use Rattle.sparse_polys.specs.Families.{polynomial_of}
use Rattle.sparse_polys.specs.declared.family.Family.{Family}
use Rattle.sparse_polys.specs.declared.family.Family.TheVariants.{Elementary, Complete, PowerSum}

pub In-family : (family : Family) (n k : ℕ) → In n (polynomial_of family k n)
In-family Elementary n k = In-monomials at_most_one n k
In-family Complete n k = In-monomials (λ α. true) n k
In-family PowerSum n k = In-monomials (has k) n k
