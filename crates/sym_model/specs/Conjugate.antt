-- The conjugate of a partition (Macdonald, I.1).
use Rattle.std.specs.Prelude.{ℕ, ◌+◌, nat_le, cond, List, [], ◌∷◌, map}
use Rattle.sym_model.specs.Partition.{columns, after}

-- the number of entries of the list that are at least j
abbrev pub count_from : ℕ → List ℕ → ℕ
count_from j [] = 0
count_from j (a ∷ numbers) = cond (nat_le j a) 1 0 + count_from j numbers

-- the conjugate of the partition λ: its part j is the number of parts of λ that are at least j, which is the length
-- of column j of λ
abbrev pub conjugate : List ℕ → List ℕ
conjugate parts = map (λ j. count_from j parts) (after 0 (columns parts))
