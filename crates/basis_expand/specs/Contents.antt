-- Contents. If horizontal strips are removed from a shape one after another, the list of the numbers of their cells is a content.
use Rattle.std.specs.Prelude.{◌≡◌, ◌<◌, ◌≤◌, ◌≤ℤ◌, ◌-◌, ◌^◌, ℕ, pos, List, [], ◌∷◌, ◌++◌}
use Rattle.sym_model.specs.Polynomial.{coefficient, pair}
use Rattle.sym_model.specs.WholeTerms.{WholeTerms}
use Rattle.monomial_laws.specs.ExpressionTerms.{absolute}
use Rattle.schur_laws.specs.Kostka.{kostka}

-- the list is a content within the two bounds: its parts are positive and weakly decreasing, the first is at most `largest`, and their sum is at most
-- `left`
abbrev pub IsContent : ℕ → ℕ → List ℕ → Type 0
IsContent largest left [] = Unit {0}
IsContent largest left (part ∷ rest) =
    ((0 < part) × (part ≤ largest) × (part ≤ left)) × IsContent part (left - part) rest

-- let K be the Kostka number: for every list `rest`, the sum of |c|·K(λ, rest) over the terms (λ, c) of `terms` is at most the sum of |c|·K(λ,
-- content ++ rest) over the terms (λ, c) of `start`
abbrev pub Leads : WholeTerms → List ℕ → WholeTerms → Type 0
Leads start content terms = (rest : List ℕ)
    → pair (absolute terms) (λ shape. kostka shape rest)
    ≤ℤ pair (absolute start) (λ shape. kostka shape (content ++ rest))

-- for some content, the sum of |c|·K(λ, content) over the terms (λ, c) of the list is 2^127 or more; K is the Kostka number
abbrev pub HasManyWays : WholeTerms → Type 0
HasManyWays terms =
    (content : List ℕ) × (pos (2 ^ 127) ≤ℤ pair (absolute terms) (λ shape. kostka shape content))

-- the coefficient in `list` is 0 at the label `chosen`, and at each label that begins with `chosen`
abbrev pub HasNoneBehind : List ℕ → WholeTerms → Type 0
HasNoneBehind chosen list = (rest : List ℕ) → coefficient list (chosen ++ rest) ≡ pos 0

-- each label that consists of `chosen` and then of a content `rest` with parts of at most `largest` and a sum of at most `left` has in `new` the
-- coefficient Σ c·K(λ, rest) over the terms (λ, c) of `terms`, with K the Kostka number; every other label has the coefficient in `new` that it has
-- in `old`
pub record CountsContents (terms : WholeTerms) (chosen : List ℕ) (largest left : ℕ)
    (old new : WholeTerms) : Type 0 where
  pub counted : (rest : List ℕ) → IsContent largest left rest
      → coefficient new (chosen ++ rest) ≡ pair terms (λ shape. kostka shape rest)
  pub others : (label : List ℕ)
      → ((rest : List ℕ) → IsContent largest left rest → label ≡ chosen ++ rest → ⊥)
      → coefficient new label ≡ coefficient old label
