-- The partitions that remain when a horizontal strip is removed from a partition, and the Kostka numbers (Macdonald, I.5 and I.6).
use Rattle.std.specs.Prelude.{ℕ, zero, suc, ◌-◌, ◌==◌, min, cond, ℤ, pos, List, [], ◌∷◌, ◌++◌, map}
use Rattle.std.specs.Prelude.{flat_map}
use Rattle.sym_model.specs.Sum.{total}
use Rattle.sym_model.specs.Polynomial.{same}
use Rattle.sym_model.specs.Partition.{part, in_front}

-- the numbers 0, 1, .., n - 1
abbrev pub below : ℕ → List ℕ
below zero = []
below (suc n) = below n ++ (n ∷ [])

-- the partitions ρ for which λ/ρ is a horizontal strip of k cells, each once: i cells are removed from the first row of λ, at most those with no cell
-- below them, and k - i cells from the other rows
abbrev pub strips_off : ℕ → List ℕ → List (List ℕ)
strips_off k [] = cond (k == 0) ([] ∷ []) []
strips_off k (a ∷ parts) =
    flat_map (λ i. map (λ rest. in_front (a - i) rest) (strips_off (k - i) parts))
    (below (suc (min k (a - part parts 1))))

-- the number of ways to remove horizontal strips from the partition `parts` until no cell is left, one strip for each entry of `content` in turn,
-- with this number of cells; it is the number of semistandard tableaux of this shape and content
abbrev pub kostka : List ℕ → List ℕ → ℤ
kostka parts [] = cond (same parts []) (pos 1) (pos 0)
kostka parts (k ∷ content) = total (λ rest. kostka rest content) (strips_off k parts)
