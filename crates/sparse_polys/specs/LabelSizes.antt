-- The sizes of the labels of a list of terms.
use Rattle.std.specs.Prelude.{ℕ, ◌≤◌, List}
use Rattle.sym_model.specs.Sum.{Among}
use Rattle.sym_model.specs.Partition.{size}

-- each label of the list has a size of at most the given number
abbrev pub AreWithin : {R : Type 0} → ℕ → List (List ℕ × R) → Type 0
AreWithin {R} limit terms = (t : List ℕ × R) → Among t terms → size t.0 ≤ limit
