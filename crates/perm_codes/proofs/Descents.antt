-- The place of the last descent of a list.
use Rattle.std.proofs.Common.{◌≡◌, ℕ, zero, suc, ◌<◌, ◌≤◌, List, [], ◌∷◌, length, get_or, refl, ap, ap₂, arith, cond, nat_lt, Some, None, option_map}
use Rattle.std.specs.Option.{option_or}
use Rattle.std.proofs.lemmas.Bool.{lt-ltb, le-ltb}
use Rattle.sym_model.specs.Permutation.{last_descent}

-- no letter at an index of at least k, counted from 0, is greater than the next one
abbrev pub RisesAfter : ℕ → List ℕ → Type 0
RisesAfter k w = (j : ℕ) → k ≤ j → suc j < length w → get_or w j 0 ≤ get_or w (suc j) 0

pub no_descent : (w : List ℕ) → RisesAfter 0 w → last_descent w ≡ None
no_descent [] r = refl
no_descent (a ∷ []) r = refl
no_descent (a ∷ b ∷ w) r =
    ap₂ (λ o t. option_or (option_map suc o) (cond t (Some 1) None)) (no_descent (b ∷ w) (λ j h l. r (suc j) (omega arith) (omega arith)))
    (le-ltb b a (r 0 (omega arith) (omega arith)))

pub descent_here : (w : List ℕ) (q : ℕ) → suc q < length w → get_or w (suc q) 0 < get_or w q 0 → RisesAfter (suc q) w → last_descent w ≡ Some (suc q)
descent_here [] q l f r = absurd (omega arith)
descent_here (a ∷ []) q l f r = absurd (omega arith)
descent_here (a ∷ b ∷ w) zero l f r =
    ap₂ (λ o t. option_or (option_map suc o) (cond t (Some 1) None)) (no_descent (b ∷ w) (λ j h m. r (suc j) (omega arith) (omega arith))) (lt-ltb b a f)
descent_here (a ∷ b ∷ w) (suc q) l f r =
    ap (λ o. option_or (option_map suc o) (cond (nat_lt b a) (Some 1) None)) (descent_here (b ∷ w) q (omega arith) f (λ j h m. r (suc j) (omega arith) (omega arith)))
