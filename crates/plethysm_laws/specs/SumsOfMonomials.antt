-- Sums of monomials, given by a list of exponent lists (Macdonald, I.8).
use Rattle.std.specs.Prelude.{◌≡◌, ℕ, ◌<◌, pos, ◌≤ℤ◌, List, map, length}
use Rattle.sym_model.specs.Sum.{Among}
use Rattle.sym_model.specs.Partition.{size}
use Rattle.sym_model.specs.Polynomial.{Poly, In, coefficient}

-- each exponent list of the list has n places
abbrev pub HavePlaces : ℕ → List (List ℕ) → Type 0
HavePlaces n γs = (γ : List ℕ) → Among γ γs → length γ ≡ n

-- the sum of the x^α over the exponent lists α of a list
abbrev pub monomial_sum : List (List ℕ) → Poly
monomial_sum γs = map (λ (γ : List ℕ). (γ, pos 1)) γs

-- g is a polynomial in n variables of degree at most d without negative coefficients; so it is a sum of monomials, each repeated as often as its
-- coefficient says
pub record IsMonomialSum (d n : ℕ) (g : Poly) : Type 0 where
  pub places : In n g
  pub low : (α : List ℕ) → length α ≡ n → d < size α → coefficient g α ≡ pos 0
  pub natural : (α : List ℕ) → pos 0 ≤ℤ coefficient g α
