-- Beta lists in which no entry x can be lowered to x - n (James and Kerber, 2.7: the beta lists of n-cores).
use Rattle.std.specs.Prelude.{◌≡◌, ℕ, ◌-◌, ◌≤◌, true, List, [], ◌∷◌}
use Rattle.sym_model.specs.Bases.{has}

-- for each entry x ≥ n of the list, x - n is a later entry, so x cannot be lowered by n
abbrev pub IsFull : ℕ → List ℕ → Type 0
IsFull n [] = Unit {0}
IsFull n (x ∷ b) = (n ≤ x → has (x - n) b ≡ true) × IsFull n b
