-- Augmented monomial symmetric polynomials (Macdonald, I.6; Stanley, 7.7).
use Rattle.std.specs.Prelude.{ℕ, pos, List, map}
use Rattle.sym_model.specs.Polynomial.{Poly, scale}
use Rattle.sym_model.specs.Bases.{monomial}
use Rattle.sym_model.specs.Schur.{times_in}
use Rattle.sym_model.specs.RaisedPart.{distinct}
use Rattle.sym_model.specs.ListWeight.{factorials}

-- the product of the factorials of the multiplicities of the different numbers of a list
abbrev pub multiplicity_factorials : List ℕ → ℕ
multiplicity_factorials parts = factorials (map (λ b. times_in b parts) (distinct parts))

-- the augmented monomial symmetric polynomial of a partition λ in n variables: m_λ times the product of the factorials of the multiplicities of the
-- parts
abbrev pub augmented : List ℕ → ℕ → Poly
augmented parts n = scale (pos (multiplicity_factorials parts)) (monomial parts n)
