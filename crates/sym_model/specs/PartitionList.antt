-- The partitions of a number, in decreasing lexicographic order.
use Rattle.std.specs.Prelude.{◌≡◌, ℕ, zero, suc, ◌-◌, min, List, [], ◌∷◌, map, flat_map}
use Rattle.std.specs.declared.cmp.Ordering.TheVariants.{Less}
use Rattle.sym_model.specs.Sum.{Among}
use Rattle.sym_model.specs.PrintedOrder.{falling_lexicographic}

-- the numbers from k down to 1
abbrev pub down_to_one : ℕ → List ℕ
down_to_one zero = []
down_to_one (suc k) = suc k ∷ down_to_one k

-- the partitions of the first argument into at most `rows` parts, each at most `most`, in decreasing lexicographic
-- order: the first part a takes all values from the greatest possible one down to 1, and is followed by each partition
-- of the rest into at most `rows` - 1 parts, each at most a
unfoldable pub partitions_within : ℕ → ℕ → ℕ → List (List ℕ)
partitions_within zero most rows = [] ∷ []
partitions_within (suc left) most zero = []
partitions_within (suc left) most (suc rows) =
    flat_map (λ a. map (λ parts. a ∷ parts) (partitions_within (suc left - a) a rows))
    (down_to_one (min most (suc left)))

-- the partitions of d in decreasing lexicographic order
abbrev pub partitions_of : ℕ → List (List ℕ)
partitions_of d = partitions_within d d d

-- the lists of numbers are in strictly decreasing lexicographic order
abbrev pub FallsLexicographically : List (List ℕ) → Type 0
FallsLexicographically [] = Unit {0}
FallsLexicographically (x ∷ xs) =
    ((y : List ℕ) → Among y xs → falling_lexicographic x y ≡ Less) × FallsLexicographically xs
