-- Tables from states to counts, described by the sums of count times f(state), for every function f. A state is the sum reached (n numbers), followed
-- by the column added last.
use Rattle.std.specs.Prelude.{◌≡◌, ℕ, ◌*◌, ◌==◌, nat_le, nat_abs, ℤ, Bool, true, false, ◌&&◌}
use Rattle.std.specs.Prelude.{cond, List, [], ◌∷◌, length, take, drop}
use Rattle.sym_model.specs.Partition.{size, without_last_zeros}
use Rattle.sym_model.specs.Polynomial.{same, join, resize}
use Rattle.sym_model.specs.Schur.{content}
use Rattle.sym_model.specs.GoodTableau.{is_falling}
use Rattle.sym_model.specs.WholeTerms.{WholeTerms}
use Rattle.tableau_laws.specs.Grid.{pass_by_place}
use Rattle.tableau_laws.specs.PaddedRows.{words_over}
use Rattle.sym_model.specs.Sum.{sum_by}
use Rattle.tableau_laws.specs.ColumnFold.{may_be_next}

-- f of a state: f applied to its first n numbers, the sum reached, and to the other numbers, the column added last
abbrev pub at_state : ℕ → (List ℕ → List ℕ → ℕ) → List ℕ → ℕ
at_state n f state = f (take n state) (drop n state)

-- the sum, over the entries (state, count) of a table, of the count times f of the state
abbrev pub weighed : ℕ → (List ℕ → List ℕ → ℕ) → List (List ℕ × ℕ) → ℕ
weighed n f entries = sum_by (λ (e : List ℕ × ℕ). e.1 * at_state n f e.0) entries

-- the sum of |c|·f(ν, []) over the terms c·λ of a list, with ν the list λ resized to n numbers; the empty list says that no column was added yet
abbrev pub started : ℕ → (List ℕ → List ℕ → ℕ) → WholeTerms → ℕ
started n f terms = sum_by (λ (t : List ℕ × ℤ). nat_abs t.1 * f (resize n t.0) []) terms

-- the sum of f(ν + content(c), c) over the columns c that have their cells at the places given by the line and may be next after the sum ν and the
-- column `right`
abbrev pub next_states : ℕ → List Bool → (List ℕ → List ℕ → ℕ) → List ℕ → List ℕ → ℕ
next_states n line f ν right =
    sum_by (λ c. cond (may_be_next n ν right c) (f (join ν (content n c)) c) 0)
    (words_over n line)

-- the sum of f over all ways to add columns with the given lines to the sum ν and the column `right`; the lines are listed from the leftmost column,
-- and columns are added from the rightmost
abbrev pub over_states : ℕ → List (List Bool) → (List ℕ → List ℕ → ℕ) → List ℕ → List ℕ → ℕ
over_states n [] f ν right = f ν right
over_states n (line ∷ lines) f ν right = over_states n lines (next_states n line f) ν right

-- 0 if ν is a weakly decreasing list of n numbers that add up to at most m; otherwise 1
abbrev pub unreached : ℕ → ℕ → List ℕ → List ℕ → ℕ
unreached n m ν right = cond ((length ν == n) && (nat_le (size ν) m && is_falling ν)) 0 1

-- f is 0 at each sum in which some number is greater than the number of `bound` at the same index; `bound` may be shorter than the sum
abbrev pub VanishesOutside : List ℕ → (List ℕ → List ℕ → ℕ) → Type 0
VanishesOutside bound f = (ν right : List ℕ) → pass_by_place nat_le ν bound ≡ false → f ν right ≡ 0

-- f as a function of a sum ν and a column: f(ν, right) if the column is kept (true), otherwise f(ν, [])
abbrev pub seen : Bool → (List ℕ → List ℕ → ℕ) → List ℕ → List ℕ → ℕ
seen true f ν right = f ν right
seen false f ν right = f ν []

-- the total number of places of the lines
abbrev pub places : List (List Bool) → ℕ
places lines = sum_by (λ (line : List Bool). length line) lines

-- 1 if ν without the zeros at its end is the partition `parts`; otherwise 0
abbrev pub comes_to : List ℕ → List ℕ → List ℕ → ℕ
comes_to parts ν right = cond (same (without_last_zeros ν) parts) 1 0
