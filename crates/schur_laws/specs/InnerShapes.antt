-- The partitions inside a partition, as weakly decreasing lists of the same length with zeros at their ends.
use Rattle.std.specs.Prelude.{ℕ, min, List, [], ◌∷◌, map, flat_map}
use Rattle.sym_model.specs.Partition.{after}

-- the numbers 0, 1, .., j
abbrev pub up_to : ℕ → List ℕ
up_to j = 0 ∷ after 0 j

-- the weakly decreasing lists of the length of `outer` in which the first number is at most m, and each number is at most the number of `outer` at
-- its place
abbrev pub shapes_inside : List ℕ → ℕ → List (List ℕ)
shapes_inside [] m = [] ∷ []
shapes_inside (a ∷ outer) m =
    flat_map (λ b. map (λ inner. b ∷ inner) (shapes_inside outer b)) (up_to (min a m))
