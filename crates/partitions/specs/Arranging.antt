-- An arrangement of a list has the same numbers in any order. Here: the arrangements that follow a given one in decreasing lexicographic order.
use Rattle.std.specs.Prelude.{ℕ, zero, suc, ◌+◌, ◌-◌, ◌≤◌, List, [], ◌∷◌, ◌++◌, map, length, filter}
use Rattle.std.specs.Prelude.{flat_map}
use Rattle.sym_model.specs.Polynomial.{same}
use Rattle.sym_model.specs.Partition.{size, insert_part, sorted_parts}
use Rattle.sym_model.specs.Bases.{down_from, exponent_lists}
use Rattle.partitions.specs.declared.listing.Stage.{Stage}
use Rattle.partitions.specs.declared.listing.Stage.TheVariants.{New, Listing, Ended}

-- for a partition `parts` of size d: the lists b ∷ α of n + 1 numbers whose positive numbers, in decreasing order, are `parts`
abbrev pub beginning_with : ℕ → List ℕ → ℕ → ℕ → List (List ℕ)
beginning_with b parts n d =
    map (λ α. b ∷ α) (filter (λ α. same (insert_part b (sorted_parts α)) parts)
    (exponent_lists n (d - b)))

-- for a partition `parts` of size d: the lists b ∷ α of n + 1 numbers with b < a whose positive numbers, in decreasing order, are `parts`; those with
-- a greater b come first
abbrev pub beginning_below : ℕ → List ℕ → ℕ → ℕ → List (List ℕ)
beginning_below zero parts n d = []
beginning_below (suc a) parts n d = flat_map (λ b. beginning_with b parts n d) (down_from a)

-- the arrangements of the numbers of a list that come after the list itself in decreasing lexicographic order: first those with the same first
-- number, then those with a smaller one
unfoldable pub arrangements_after : List ℕ → List (List ℕ)
arrangements_after [] = []
arrangements_after (a ∷ α) =
    map (λ rest. a ∷ rest) (arrangements_after α)
    ++ beginning_below a (sorted_parts (a ∷ α)) (length α) (a + size α)

-- no number is smaller than the one before it
abbrev pub Rises : List ℕ → Type 0
Rises [] = Unit {0}
Rises (a ∷ []) = Unit {0}
Rises (a ∷ b ∷ numbers) = (a ≤ b) × Rises (b ∷ numbers)

-- the arrangements that a lister with these numbers in its buffer is still to list, for each stage of the lister
abbrev pub arrangements_at : Stage → List ℕ → List (List ℕ)
arrangements_at New numbers = numbers ∷ arrangements_after numbers
arrangements_at Listing numbers = arrangements_after numbers
arrangements_at Ended numbers = []
