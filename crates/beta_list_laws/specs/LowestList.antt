-- The n-core of a partition, to which all removals of rim hooks of n cells lead, computed from the remainders of its beta list modulo n (James and
-- Kerber, 2.7).
use Rattle.std.specs.Prelude.{ℕ, ◌+◌, ◌-◌, ◌*◌, ◌/◌, ◌%◌, ◌==◌, nat_le, cond, ℤ, List, [], ◌∷◌}
use Rattle.std.specs.Prelude.{Option, Some, None}
use Rattle.sym_model.specs.Partition.{size, columns}
use Rattle.sym_model.specs.PlaceOrders.{minus_one_to}
use Rattle.sym_model.specs.BetaList.{beta, from_beta, sorted_falling, rising_pairs}

-- `alike n x b`: the number of entries of b that leave the same remainder modulo n as x
abbrev pub alike : ℕ → ℕ → List ℕ → ℕ
alike n x [] = 0
alike n x (y ∷ b) = cond (y % n == x % n) 1 0 + alike n x b

-- the list with each entry x replaced by r + n·m, with r the remainder of x modulo n, and m the number of later entries with this remainder
abbrev pub lowest : ℕ → List ℕ → List ℕ
lowest n [] = []
lowest n (x ∷ b) = (x % n + alike n x b * n) ∷ lowest n b

-- the n-core of a partition with at most k rows: the partition that remains when no rim hook of n cells can be removed
abbrev pub end_of : ℕ → ℕ → List ℕ → List ℕ
end_of k n shape = from_beta (sorted_falling (lowest n (beta k shape)))

-- the number of rim hooks of n cells whose removals lead from the shape to its n-core
abbrev pub power_of : ℕ → ℕ → List ℕ → ℕ
power_of k n shape = (size shape - size (end_of k n shape)) / n

-- the product of the signs (-1)^(k - h) of the removals of rim hooks that lead from the shape to its n-core; h is the height of the rim hook
abbrev pub end_sign : ℕ → ℕ → List ℕ → ℤ
end_sign k n shape =
    minus_one_to (power_of k n shape * (k + 1) + rising_pairs (lowest n (beta k shape)))

-- the reduction of a partition with at most k rows by rim hooks of n cells: its n-core (what is left when no more can be removed), with the product
-- of the signs and the number of the removals; None if the n-core has more than n - k columns
abbrev pub reduction_by_remainders : ℕ → ℕ → List ℕ → Option (List ℕ × ℤ × ℕ)
reduction_by_remainders k n shape =
    cond (nat_le (k + columns (end_of k n shape)) n)
    (Some (end_of k n shape, end_sign k n shape, power_of k n shape))
    None
