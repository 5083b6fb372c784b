-- The leading monomial of a polynomial: the greatest in the lexicographic order of exponent lists.
use Rattle.std.specs.Prelude.{◌≡◌, ℕ, ◌<◌, ◌⊎◌, pos, neg_ℤ, List, [], ◌∷◌}
use Rattle.sym_model.specs.Polynomial.{Poly, coefficient}

-- α is above β in the lexicographic order: at the first place at which they differ, α has the greater exponent; a
-- list is above each of its proper prefixes
abbrev pub Above : List ℕ → List ℕ → Type 0
Above [] β = ⊥
Above (a ∷ α) [] = Unit {0}
Above (a ∷ α) (b ∷ β) = (b < a) ⊎ ((a ≡ b) × Above α β)

-- each monomial x^α with α above `top` has the coefficient 0 in f
abbrev pub IsNoneAbove : Poly → List ℕ → Type 0
IsNoneAbove f top = (α : List ℕ) → Above α top → coefficient f α ≡ pos 0

-- the greatest monomial of f in the lexicographic order of exponents is x^top, and its coefficient is 1 or -1
pub record Leads (f : Poly) (top : List ℕ) : Type 0 where
  pub unit_at_top : (coefficient f top ≡ pos 1) ⊎ (coefficient f top ≡ neg_ℤ (pos 1))
  pub none_above : IsNoneAbove f top
