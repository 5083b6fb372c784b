-- The arrangements of a partition, straightened one part after another: the last part a of an arrangement adds a rim hook of a cells that begins in
-- the first column, a special rim hook (Egecioglu and Remmel).
use Rattle.std.specs.Prelude.{◌≡◌, ℕ, ◌-◌, suc, nat_le, cond, ℤ, pos, ◌*ℤ◌, List, [], ◌∷◌, ◌++◌}
use Rattle.std.specs.Prelude.{map}
use Rattle.sym_model.specs.Sum.{total, Among}
use Rattle.sym_model.specs.Polynomial.{pair}
use Rattle.sym_model.specs.Partition.{rows, after}
use Rattle.sym_model.specs.Arrangement.{arrangements}
use Rattle.sym_model.specs.RaisedPart.{without_one, distinct}
use Rattle.sym_model.specs.BetaList.{beta, has_equal_entries, sorted_falling, sorting_sign}
use Rattle.sym_model.specs.BetaList.{from_beta}
use Rattle.sym_model.specs.Straightening.{shifted}
use Rattle.sym_model.specs.WholeTerms.{WholeTerms}

-- the value of g at the straightening of the exponents with this beta list: 0 if two entries are equal; otherwise the sign of sorting the list times
-- the value of g at the partition of the sorted list
abbrev pub straight_value : (List ℕ → ℤ) → List ℕ → ℤ
straight_value g entries =
    cond (has_equal_entries entries) (pos 0)
    (sorting_sign entries *ℤ g (from_beta (sorted_falling entries)))

-- the sum, over the arrangements of the parts of λ in n places, of the value of g at the straightening of the arrangement
abbrev pub arranged_value : (List ℕ → ℤ) → List ℕ → ℕ → ℤ
arranged_value g parts n = total (λ α. straight_value g (shifted α)) (arrangements parts n)

-- for a `count` greater than the number of rows of ν: the beta list of ν in `count` rows with a in place of its last entry, 0. This adds a rim hook
-- of a cells to ν that begins in row `count`.
abbrev pub hooked : List ℕ → ℕ → ℕ → List ℕ
hooked ν count a = map suc (beta (count - 1) ν) ++ a ∷ []

-- the sum of the values of g at the straightenings of `hooked ν count a`, for `count` from l + 1 to l + a, with l the number of rows of ν; a rim hook
-- of a cells cannot begin in a later row
abbrev pub hooks_value : (List ℕ → ℤ) → ℕ → List ℕ → ℤ
hooks_value g a ν = total (λ count. straight_value g (hooked ν count a)) (after (rows ν) a)

-- the function that is g at partitions of at most n rows, and 0 at all other partitions
abbrev pub within_rows : ℕ → (List ℕ → ℤ) → List ℕ → ℤ
within_rows n g ν = cond (nat_le (rows ν) n) (g ν) (pos 0)

-- for every n, the arrangements of λ = `parts` in n places straighten to those terms of the list that have a partition with at most n rows
abbrev pub IsStraightening : List ℕ → WholeTerms → Type 0
IsStraightening parts terms =
    (n : ℕ) (g : List ℕ → ℤ) → arranged_value g parts n ≡ pair terms (within_rows n g)

-- the list has one pair (a, terms) for each different part a of λ = `parts`, and the arrangements of λ without one a straighten to these terms
pub record AreStraightenings (parts : List ℕ) (lists : List (ℕ × WholeTerms)) : Type 0 where
  pub parts_are : map (λ (l : ℕ × WholeTerms). l.0) lists ≡ distinct parts
  pub straightens : (l : ℕ × WholeTerms) → Among l lists
      → IsStraightening (without_one l.0 parts) l.1

-- the sum of the values of g at the results of adding special rim hooks: for each pair of a number a and a list, rim hooks of a cells are added to
-- the terms of the list
abbrev pub all_hooks : (List ℕ → ℤ) → List (ℕ × WholeTerms) → ℤ
all_hooks g lists = total (λ (l : ℕ × WholeTerms). pair l.1 (hooks_value g l.0)) lists
