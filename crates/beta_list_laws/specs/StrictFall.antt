-- Strictly decreasing lists, such as beta lists.
use Rattle.std.specs.Prelude.{ℕ, ◌<◌, List, [], ◌∷◌}

-- each number is smaller than the one before it
abbrev pub FallsStrictly : List ℕ → Type 0
FallsStrictly [] = Unit {0}
FallsStrictly (a ∷ []) = Unit {0}
FallsStrictly (a ∷ b ∷ list) = (b < a) × FallsStrictly (b ∷ list)
