-- Subtracting a number from one entry of a list.
use Rattle.std.specs.Prelude.{ℕ, ◌-◌, List, [], ◌∷◌, ◌++◌, map, cond, nat_le}

-- `lowered a α`: the lists obtained by subtracting a from one entry of α that is at least a, one list for each such place
abbrev pub lowered : ℕ → List ℕ → List (List ℕ)
lowered a [] = []
lowered a (c ∷ α) =
    cond (nat_le a c) (((c - a) ∷ α) ∷ []) [] ++ map (λ (γ : List ℕ). c ∷ γ) (lowered a α)
