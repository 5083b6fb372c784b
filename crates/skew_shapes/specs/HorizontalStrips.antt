-- Lists of the partitions made by adding a horizontal strip to a partition.
use Rattle.std.specs.Prelude.{◌≡◌, ◌↔◌, ℕ, zero, suc, ◌+◌, ◌-◌, ◌==◌, min, max, cond, List, [], ◌∷◌}
use Rattle.std.specs.Prelude.{map, Option, None, slice_get, flat_map}
use Rattle.sym_model.specs.Sum.{Among}
use Rattle.sym_model.specs.Partition.{IsPartition, size}
use Rattle.sym_model.specs.PartitionList.{FallsLexicographically}
use Rattle.sym_model.specs.Strip.{IsHorizontalStrip}

-- the list has exactly the partitions ν such that ν/inner is a horizontal strip of k cells, in decreasing lexicographic order
pub record AreHorizontalStrips (inner : List ℕ) (k : ℕ) (list : List (List ℕ)) : Type 0 where
  pub falls : FallsLexicographically list
  pub members : (ν : List ℕ) → Among ν list
      ↔ (IsPartition ν × (size ν ≡ size inner + k) × IsHorizontalStrip ν inner)

-- the n numbers high, high - 1, .., if n is at most high + 1
abbrev pub counting_down : ℕ → ℕ → List ℕ
counting_down high zero = []
counting_down high (suc n) = high ∷ counting_down (high - 1) n

-- The partitions ν whose first row has at most `most` cells and that result from inner by adding a horizontal strip of `left` cells; those with a
-- longer first row come first. Let a be the first row of inner. Then the first row of ν is from max(a, left) to a + left: the other rows can get at
-- most a cells together, since no row becomes longer than the row above it in inner. If inner is empty, `most` is ignored, and ν is one row of `left`
-- cells, or empty if left is 0.
abbrev pub strips_on : ℕ → ℕ → List ℕ → List (List ℕ)
strips_on most left [] = cond (left == 0) ([] ∷ []) ((left ∷ []) ∷ [])
strips_on most left (a ∷ inner) =
    let longest = min most (a + left) in
    flat_map (λ row. map (λ rest. row ∷ rest) (strips_on a (left + a - row) inner))
    (counting_down longest (longest + 1 - max left a))

-- the i-th of the shapes, counted from 1; None if i is 0 or greater than the number of shapes
abbrev pub last_of : ℕ → List (List ℕ) → Option (List ℕ)
last_of zero shapes = None
last_of (suc i) shapes = slice_get shapes i
