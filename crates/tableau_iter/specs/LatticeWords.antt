-- Lattice words: words such that in no prefix a letter i + 1 occurs more often than i (Fulton 5.2, with the word reversed).
use Rattle.std.specs.Prelude.{ℕ, ◌-◌, ◌==◌, nat_le, nat_lt, Bool, ◌&&◌, ◌||◌, List, [], slice_index}
use Rattle.sym_model.specs.Schur.{content}
use Rattle.tableau_iter.specs.Fits.{all_fit}

-- whether a is a letter from 1 to k, and either a is 1 or the entry of `counts` for a is smaller than that for a - 1
abbrev pub is_allowed : ℕ → List ℕ → ℕ → Bool
is_allowed k counts a =
    (nat_le 1 a && nat_le a k) && ((a == 1)
    || nat_lt (slice_index counts (a - 1)) (slice_index counts (a - 2)))

-- whether `front` followed by the letter a is a lattice word in letters from 1 to k, if `front` is one
abbrev pub may_follow : ℕ → List ℕ → ℕ → Bool
may_follow k front a = is_allowed k (content k front) a

-- whether a word is a lattice word in letters from 1 to k
abbrev pub is_lattice_word : ℕ → List ℕ → Bool
is_lattice_word k w = all_fit (may_follow k) [] w
