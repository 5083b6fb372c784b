-- The sizes and the numbers of rows of the labels of a list.
use Rattle.std.specs.Prelude.{ℕ, ◌+◌, ◌≤◌, List}
use Rattle.sym_model.specs.Sum.{Among}
use Rattle.sym_model.specs.Partition.{size, rows}

-- each label has at most `cells` cells and at most `lengths` rows
abbrev pub AreWithin : {R : Type 0} → ℕ → ℕ → List (List ℕ × R) → Type 0
AreWithin {R} cells lengths entries =
    (t : List ℕ × R) → Among t entries → (size t.0 ≤ cells) × (rows t.0 ≤ lengths)

-- each label has at most 4,096 - k cells and at most 512 - k rows, so it is within the limits with k more cells
abbrev pub HaveRoomForStrips : {R : Type 0} → ℕ → List (List ℕ × R) → Type 0
HaveRoomForStrips {R} k entries =
    (t : List ℕ × R) → Among t entries → (size t.0 + k ≤ 4096) × (rows t.0 + k ≤ 512)
