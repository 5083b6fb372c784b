-- The reduction of partitions with at most k rows into the alcove of level n - k, by reflections of
-- the beta list (Kac and Walton: fusion products).
use Rattle.std.specs.Prelude.{ℕ, zero, suc, ◌+◌, ◌-◌, ◌*◌, ◌==◌, nat_lt, nat_le, ◌||◌, cond, ℤ, pos}
use Rattle.std.specs.Prelude.{◌*ℤ◌, List, [], ◌∷◌, length, Option, Some, None}
use Rattle.sym_model.specs.Partition.{part, rows}
use Rattle.sym_model.specs.BetaList.{beta, from_beta, has_equal_entries, sorted_falling}
use Rattle.sym_model.specs.BetaList.{sorting_sign}

-- the first entry of b minus its last entry, or 0 if the last entry is greater
abbrev pub spread : List ℕ → ℕ
spread b = part b 1 - part b (length b)

-- the sum of the squares of the entries of a list
abbrev pub squares : List ℕ → ℕ
squares [] = 0
squares (a ∷ b) = a * a + squares b

-- the list with n added to its last entry
abbrev pub last_raised : ℕ → List ℕ → List ℕ
last_raised n [] = []
last_raised n (a ∷ []) = (a + n) ∷ []
last_raised n (a ∷ c ∷ b) = a ∷ last_raised n (c ∷ b)

-- the reflection of a list with at least two entries, the first of them at least n: n is subtracted from the first
-- entry and added to the last entry
abbrev pub reflected : ℕ → List ℕ → List ℕ
reflected n [] = []
reflected n (a ∷ b) = (a - n) ∷ last_raised n b

-- the given list with its sign multiplied by t; None if there is no list
abbrev pub with_sign : ℤ → Option (List ℕ × ℤ) → Option (List ℕ × ℤ)
with_sign t None = None
with_sign t (Some answer) = Some (answer.0, t *ℤ answer.1)

-- the result, a list with a sign or `None`, of the following rule for the strictly decreasing list b. Let d be its
-- first entry minus its last entry. If d < n, the result is b with the sign 1; if d = n, the result is `None`.
-- Otherwise b is reflected (`reflected`). If the reflected list has two equal entries, the result is `None`; if not,
-- the rule is applied to the reflected list sorted in decreasing order, and the sign of the result is multiplied by
-- the sign of sorting. The rule is applied at most `steps` times; if that is not enough, the result is `None`.
abbrev pub reflected_within : ℕ → ℕ → List ℕ → Option (List ℕ × ℤ)
reflected_within zero n b = None
reflected_within (suc steps) n b =
    let next = reflected n b in
    let later = with_sign (sorting_sign next) (reflected_within steps n (sorted_falling next)) in
    cond (nat_lt (spread b) n) (Some (b, pos 1))
    (cond ((spread b == n) || has_equal_entries next) None later)

-- the result of the rule of `reflected_within` for the strictly decreasing list b, with enough steps. One more step
-- than the sum of the squares of the entries of b is enough if n ≥ 1: this sum is decreased by the reflection of each
-- list whose first entry minus its last entry exceeds n.
abbrev pub reflected_into_alcove : ℕ → List ℕ → Option (List ℕ × ℤ)
reflected_into_alcove n b = reflected_within (suc (squares b)) n b

-- the partition whose beta list is the given strictly decreasing list, with the sign of that list; None if there is no
-- list
abbrev pub as_partition : Option (List ℕ × ℤ) → Option (List ℕ × ℤ)
as_partition None = None
as_partition (Some answer) = Some (from_beta answer.0, answer.1)

-- the reduction of the partition `shape` into the alcove of k rows and level n - k: a partition with a sign, or None
-- if the reduction is 0 or `shape` has more than k rows
abbrev pub alcove_reduction : ℕ → ℕ → List ℕ → Option (List ℕ × ℤ)
alcove_reduction k n shape =
    cond (nat_le (rows shape) k) (as_partition (reflected_into_alcove n (beta k shape))) None
