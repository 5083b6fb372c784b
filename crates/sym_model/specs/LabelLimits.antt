-- The labels that a line of an answer may have: partitions, pairs of partitions, permutations and monomials within
-- the limits of this calculator.
use Rattle.std.specs.Prelude.{ℕ, ◌^◌, nat_le, nat_lt, Bool, true, ◌&&◌, not, List, [], ◌∷◌, length}
use Rattle.sym_model.specs.Polynomial.{same}
use Rattle.sym_model.specs.Partition.{size, rows, without_last_zeros}
use Rattle.sym_model.specs.BetaList.{has_equal_entries}
use Rattle.sym_model.specs.Permutation.{kept}

-- whether a list is a partition: weakly decreasing, each number positive
abbrev pub is_partition : List ℕ → Bool
is_partition [] = true
is_partition (a ∷ []) = nat_lt 0 a
is_partition (a ∷ b ∷ parts) = nat_le b a && is_partition (b ∷ parts)

-- whether a list is a partition within the limits of this calculator: at most 512 rows and 4096 cells
abbrev pub is_label : List ℕ → Bool
is_label parts = is_partition parts && nat_le (rows parts) 512 && nat_le (size parts) 4096

-- whether both lists of a pair are partitions of at most 512 rows and 4096 cells
abbrev pub is_pair_label : List ℕ × List ℕ → Bool
is_pair_label pair = is_label pair.0 && is_label pair.1

-- whether the power of q is below 2^32 and the list a partition of at most 512 rows and 4096 cells
abbrev pub is_power_label : ℕ × List ℕ → Bool
is_power_label label = nat_lt label.0 (2 ^ 32) && is_label label.1

-- whether each number of the list is from 1 to n
abbrev pub are_letters : ℕ → List ℕ → Bool
are_letters n [] = true
are_letters n (a ∷ w) = nat_le 1 a && nat_le a n && are_letters n w

-- whether a list may be the label of a permutation: n different letters from 1 to n, for n from 1 to 255, with no
-- fixed letter at the end, except that the identity is the list of the one letter 1
abbrev pub is_permutation_label : List ℕ → Bool
is_permutation_label w =
    are_letters (length w) w && not (has_equal_entries w) && nat_lt 0 (length w) && same (kept w) w
    && nat_le (length w) 255

-- whether a list may be the label of a monomial: exponents without zeros at the end, at most 255 of them and with a
-- sum of at most 32385
abbrev pub is_monomial_label : List ℕ → Bool
is_monomial_label exponents =
    same (without_last_zeros exponents) exponents && nat_le (length exponents) 255
    && nat_le (size exponents) 32385

-- whether the first list may be the label of a permutation and the second list the label of a monomial
abbrev pub is_shifted_label : List ℕ × List ℕ → Bool
is_shifted_label label = is_permutation_label label.0 && is_monomial_label label.1
