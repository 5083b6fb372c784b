-- The orders in which the lines of an answer are printed, by their labels.
use Rattle.std.specs.Prelude.{ℕ, ◌+◌, List, [], ◌∷◌}
use Rattle.std.specs.Ordering.{nat_cmp, ordering_then}
use Rattle.std.specs.declared.cmp.Ordering.{Ordering}
use Rattle.std.specs.declared.cmp.Ordering.TheVariants.{Equal}
use Rattle.sym_model.specs.Partition.{size}
use Rattle.sym_model.specs.PlaceOrders.{inversions}

-- decreasing lexicographic order of two lists, with 0 for a missing number: at the first place at which they differ,
-- the list with the greater number comes first
abbrev pub falling_lexicographic : List ℕ → List ℕ → Ordering
falling_lexicographic [] [] = Equal
falling_lexicographic [] (b ∷ bs) = ordering_then (nat_cmp b 0) (falling_lexicographic [] bs)
falling_lexicographic (a ∷ as') [] = ordering_then (nat_cmp 0 a) (falling_lexicographic as' [])
falling_lexicographic (a ∷ as') (b ∷ bs) =
    ordering_then (nat_cmp b a) (falling_lexicographic as' bs)

-- the printed order of partitions: the greater size first, then decreasing lexicographic order. It
-- is also the order of monomials by their exponents, whose size is the degree.
abbrev pub printed_order : List ℕ → List ℕ → Ordering
printed_order first second =
    ordering_then (nat_cmp (size second) (size first)) (falling_lexicographic first second)

-- the printed order of pairs of partitions: by the first partitions, and if these are equal by the second ones
abbrev pub pair_order : List ℕ × List ℕ → List ℕ × List ℕ → Ordering
pair_order first second =
    ordering_then (printed_order first.0 second.0) (printed_order first.1 second.1)

-- the printed order of partitions with a power of q: the lesser power first, and for equal powers by the partitions
abbrev pub power_order : ℕ × List ℕ → ℕ × List ℕ → Ordering
power_order first second = ordering_then (nat_cmp first.0 second.0) (printed_order first.1 second.1)

-- increasing lexicographic order of two permutations, given by their letters after place i; after the end of its
-- list, a permutation has only fixed letters, each equal to its place
abbrev pub rising_letters : ℕ → List ℕ → List ℕ → Ordering
rising_letters i [] [] = Equal
rising_letters i [] (b ∷ bs) = ordering_then (nat_cmp (i + 1) b) (rising_letters (i + 1) [] bs)
rising_letters i (a ∷ as') [] = ordering_then (nat_cmp a (i + 1)) (rising_letters (i + 1) as' [])
rising_letters i (a ∷ as') (b ∷ bs) = ordering_then (nat_cmp a b) (rising_letters (i + 1) as' bs)

-- the printed order of permutations: fewer inversions first, and for equally many in increasing lexicographic order
-- of the letters
abbrev pub permutation_order : List ℕ → List ℕ → Ordering
permutation_order first second =
    ordering_then (nat_cmp (inversions first) (inversions second)) (rising_letters 0 first second)

-- the printed order of pairs of a permutation and a monomial: by the permutations, and if these are equal by the
-- monomials
abbrev pub shifted_order : List ℕ × List ℕ → List ℕ × List ℕ → Ordering
shifted_order first second =
    ordering_then (permutation_order first.0 second.0) (printed_order first.1 second.1)
