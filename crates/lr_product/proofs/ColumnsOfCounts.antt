-- The sum `over_states` over all ways to add the columns of a shape, computed in natural numbers, is equal to the same sum computed in integers.
use Rattle.std.proofs.Common.{◌≡◌, ℕ, Bool, List, [], ◌∷◌, refl, ℤ, pos, rules}
use Rattle.sym_model.proofs.Sums.{total_ext}
use Rattle.tableau_laws.specs.ColumnFold.{over_columns}
use Rattle.sym_model.proofs.NumberSums.{sum_by-total}
use Rattle.lr_product.specs.WeighedSum.{next_states, over_states}
use Rattle.sym_model.proofs.Integers.{pos-cond}

pub over-ext : (n : ℕ) (lines : List (List Bool)) (f g : List ℕ → List ℕ → ℤ) → ((ν right : List ℕ) → f ν right ≡ g ν right)
    → (ν right : List ℕ) → over_columns n lines f ν right ≡ over_columns n lines g ν right
over-ext n [] f g e ν right = e ν right
over-ext n (line ∷ lines) f g e ν right = search rules

pub over-states : (n : ℕ) (lines : List (List Bool)) (f : List ℕ → List ℕ → ℕ) (ν right : List ℕ)
    → pos (over_states n lines f ν right) ≡ over_columns n lines (λ ν' r. pos (f ν' r)) ν right
over-states n [] f ν right = refl
over-states n (line ∷ lines) f ν right =
    search (rules, over-ext, sum_by-total, total_ext, pos-cond, (over-states n lines (next_states n line f) ν right))
