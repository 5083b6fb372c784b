-- Weakly increasing rows of tableaux.
use Rattle.std.specs.Prelude.{ℕ, ◌≤◌, List, [], ◌∷◌}

-- the row is weakly increasing, and its first letter is at least c
abbrev pub RisesFrom : ℕ → List ℕ → Type 0
RisesFrom c [] = Unit {0}
RisesFrom c (a ∷ row) = (c ≤ a) × RisesFrom a row
