-- The three families e_k, h_k and p_k of symmetric polynomials, whose products over the parts of partitions are bases (Macdonald, I.2).
use Rattle.std.specs.Prelude.{ℕ}
use Rattle.sym_model.specs.Polynomial.{Poly}
use Rattle.sym_model.specs.Bases.{elementary_of, complete_of, power_sum_of}
use Rattle.sym_model.specs.Expansion.{Basis, elementaries, completes, power_sums}
use Rattle.sparse_polys.specs.declared.family.Family.{Family}
use Rattle.sparse_polys.specs.declared.family.Family.TheVariants.{Elementary, Complete, PowerSum}

-- for a family and the numbers k and n: e_k, h_k or p_k in n variables
abbrev pub polynomial_of : Family → ℕ → ℕ → Poly
polynomial_of Elementary = elementary_of
polynomial_of Complete = complete_of
polynomial_of PowerSum = power_sum_of

-- the basis e, h or p that consists of the products of the polynomials of a family
abbrev pub basis_in : Family → Basis
basis_in Elementary = elementaries
basis_in Complete = completes
basis_in PowerSum = power_sums
