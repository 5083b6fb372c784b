-- The lengths that the rows of a tableau of shape outer/inner must have in the words of a command.
use Rattle.std.specs.Prelude.{ℕ, List, [], ◌∷◌}
use Rattle.sym_model.specs.Schur.{row_lengths}

-- the lengths of the rows of outer/inner; if outer has no part, one row of length 0
abbrev pub asked_lengths : List ℕ → List ℕ → List ℕ
asked_lengths [] inner = 0 ∷ []
asked_lengths (a ∷ outer) inner = row_lengths (a ∷ outer) inner
