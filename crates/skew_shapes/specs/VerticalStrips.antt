-- Lists of the partitions made by adding a vertical strip to a partition.
use Rattle.std.specs.Prelude.{◌≡◌, ◌↔◌, ℕ, ◌+◌, ◌-◌, min, List, [], ◌∷◌, map, replicate, flat_map}
use Rattle.sym_model.specs.Sum.{Among}
use Rattle.sym_model.specs.Partition.{IsPartition, size}
use Rattle.sym_model.specs.PartitionList.{FallsLexicographically}
use Rattle.sym_model.specs.Strip.{IsVerticalStrip}
use Rattle.skew_shapes.specs.HorizontalStrips.{counting_down}

-- the list has exactly the partitions ν such that ν/inner is a vertical strip of k cells, in decreasing lexicographic order
pub record AreVerticalStrips (inner : List ℕ) (k : ℕ) (list : List (List ℕ)) : Type 0 where
  pub falls : FallsLexicographically list
  pub members : (ν : List ℕ) → Among ν list
      ↔ (IsPartition ν × (size ν ≡ size inner + k) × IsVerticalStrip ν inner)

-- The partitions ν whose first row has at most `most` cells and that result from inner by adding a vertical strip of `left` cells. First come those
-- whose first row is one cell longer than that of inner (if `left` and `most` allow it), and then those with the same first row as inner. If inner is
-- empty, `most` is ignored, and ν has `left` rows of one cell.
abbrev pub vertical_on : ℕ → ℕ → List ℕ → List (List ℕ)
vertical_on most left [] = replicate left 1 ∷ []
vertical_on most left (a ∷ inner) =
    let longest = min most (a + min left 1) in
    flat_map (λ row. map (λ rest. row ∷ rest) (vertical_on row (left + a - row) inner))
    (counting_down longest (longest + 1 - a))
