-- The orders of the places 1, 2, .., n, and their signs (permutations; Macdonald, I.3).
use Rattle.std.specs.Prelude.{ℕ, zero, suc, ◌+◌, nat_lt, cond, ℤ, pos, neg_ℤ, List, [], ◌∷◌, map}
use Rattle.std.specs.Prelude.{flat_map}
use Rattle.sym_model.specs.Partition.{after}

-- the lists that result if x is inserted at one place of a list, one for each place, including the front and the end
abbrev pub insertions : ℕ → List ℕ → List (List ℕ)
insertions x [] = (x ∷ []) ∷ []
insertions x (y ∷ ys) = (x ∷ y ∷ ys) ∷ map (λ zs. y ∷ zs) (insertions x ys)

-- all orders (permutations) of the entries of a list: the first entry is inserted at each place of each order of the
-- other entries
abbrev pub orders : List ℕ → List (List ℕ)
orders [] = [] ∷ []
orders (x ∷ xs) = flat_map (insertions x) (orders xs)

-- the places 1, 2, .., n
abbrev pub places : ℕ → List ℕ
places n = after 0 n

-- the number of entries of the list that are smaller than a
abbrev pub smaller : ℕ → List ℕ → ℕ
smaller a [] = 0
smaller a (b ∷ w) = cond (nat_lt b a) 1 0 + smaller a w

-- the number of inversions of a list, that is, of pairs of entries of which the left one is the greater
abbrev pub inversions : List ℕ → ℕ
inversions [] = 0
inversions (a ∷ w) = smaller a w + inversions w

-- (-1)^k
abbrev pub minus_one_to : ℕ → ℤ
minus_one_to zero = pos 1
minus_one_to (suc k) = neg_ℤ (minus_one_to k)

-- the sign of the list w, for example of a permutation: 1 if its number of inversions is even, -1 if it is odd
abbrev pub sign : List ℕ → ℤ
sign w = minus_one_to (inversions w)
