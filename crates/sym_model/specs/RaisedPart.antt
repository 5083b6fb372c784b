-- Partitions with one part removed, increased or added, and the different numbers of a list.
use Rattle.std.specs.Prelude.{ℕ, ◌+◌, ◌==◌, cond, List, [], ◌∷◌}
use Rattle.sym_model.specs.Partition.{insert_part}
use Rattle.sym_model.specs.Bases.{has}

-- the list without the first occurrence of k
abbrev pub without_one : ℕ → List ℕ → List ℕ
without_one k [] = []
without_one k (a ∷ numbers) = cond (a == k) numbers (a ∷ without_one k numbers)

-- the partition with one of its parts b replaced by a + b; for b = 0, with a part a added
abbrev pub raise : ℕ → ℕ → List ℕ → List ℕ
raise a b parts = insert_part (a + b) (without_one b parts)

-- the different numbers of a list, each once
abbrev pub distinct : List ℕ → List ℕ
distinct [] = []
distinct (a ∷ numbers) = cond (has a numbers) (distinct numbers) (a ∷ distinct numbers)
