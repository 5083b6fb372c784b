-- The letters that can follow a prefix of a column reading: they depend on the letters in the cells above and on the right, on the number of cells
-- below, and on the content of the prefix.
use Rattle.std.specs.Prelude.{◌≡◌, ℕ, ◌+◌, ◌-◌, ◌<◌, ◌≤◌, ◌==◌, nat_lt, nat_le, min, Bool, true}
use Rattle.std.specs.Prelude.{◌&&◌, ◌||◌, cond, slice_index, List, [], ◌∷◌, ◌++◌, map, length}
use Rattle.sym_model.specs.Polynomial.{join}
use Rattle.sym_model.specs.Schur.{content}
use Rattle.sym_model.specs.TableauList.{reading_cells}
use Rattle.tableau_iter.specs.declared.rule.Rule.{Rule}
use Rattle.tableau_iter.specs.declared.rule.Rule.TheVariants.{Free, Falling, Limited}

-- whether, for each letter of the word w, the test `fits` accepts this letter after the prefix that consists of `front` and the earlier letters of w
abbrev pub all_fit : (List ℕ → ℕ → Bool) → List ℕ → List ℕ → Bool
all_fit fits front [] = true
all_fit fits front (a ∷ w) = fits front a && all_fit fits (front ++ a ∷ []) w

-- for each index of the column reading: in `above` and `right`, one more than the index of the cell above and of the cell on the right, or 0 if there
-- is no such cell; in `most`, the greatest letter that leaves greater letters for all cells below in the same column
pub record Neighbours : Type 0 where
  pub above : List ℕ
  pub right : List ℕ
  pub most : List ℕ

-- the letter of the word in the cell above the cell at the index p; 0 if there is no such cell
abbrev pub floor_at : List ℕ → List ℕ → ℕ → ℕ
floor_at above word p =
    cond (slice_index above p == 0) 0 (slice_index word (slice_index above p - 1))

-- the smaller of most_p and the letter of the word in the cell on the right of the cell at the index p; most_p if there is no such cell
abbrev pub ceiling_at : List ℕ → List ℕ → List ℕ → ℕ → ℕ
ceiling_at right most word p =
    cond (slice_index right p == 0) (slice_index most p)
    (min (slice_index most p) (slice_index word (slice_index right p - 1)))

-- whether a, as the letter after the prefix `front`, is greater than the letter above it, at most the letter on its right, and at most the entry of
-- `near.most` for this index
abbrev pub stands_right : Neighbours → List ℕ → ℕ → Bool
stands_right near front a =
    nat_lt (floor_at near.above front (length front)) a
    && nat_le a (ceiling_at near.right near.most front (length front))

-- whether the rule allows one more letter a after a prefix, where `sums` is the partition `start` plus the content of the prefix. The rule `Free`
-- always allows a; `Falling` allows a if it is 1 or sums_a < sums_(a-1); `Limited` allows a if sums_a < counts_a.
abbrev pub allows : Rule → List ℕ → List ℕ → ℕ → Bool
allows Free counts sums a = true
allows Falling counts sums a =
    (a == 1) || nat_lt (slice_index sums (a - 1)) (slice_index sums (a - 2))
allows Limited counts sums a = nat_lt (slice_index sums (a - 1)) (slice_index counts (a - 1))

-- whether the letter a can follow the prefix `front`: a respects the letters above and on the right and the cells below (`stands_right`), and the
-- rule allows a, given the partition `start` plus the content of the prefix in letters from 1 to k
abbrev pub fits_by : Rule → List ℕ → List ℕ → ℕ → Neighbours → List ℕ → ℕ → Bool
fits_by rule counts start k near front a =
    stands_right near front a && allows rule counts (join start (content k front)) a

-- `found` is one more than an index before `place` at which the cell is `down` rows above and `left` columns right of the cell at `place`, or 0 if
-- there is no such index. `lines` and `ranks` have the row and the column of each cell.
pub record IsNeighbour (lines ranks : List ℕ) (place down left found : ℕ) : Type 0 where
  pub within : found ≤ place
  pub line : 0 < found → slice_index lines (found - 1) + down ≡ slice_index lines place
  pub rank : 0 < found → slice_index ranks (found - 1) ≡ slice_index ranks place + left
  pub none : found ≡ 0 → (q : ℕ) → q < place → slice_index lines q + down ≡ slice_index lines place
      → slice_index ranks q ≡ slice_index ranks place + left → ⊥

-- the list `found` has an entry for each cell. For the cell at the index p, the entry gives the neighbour that is `down` rows above and `left`
-- columns right of that cell, as in `IsNeighbour`: one more than its index, or 0.
pub record AreNeighbours (lines ranks : List ℕ) (down left : ℕ) (found : List ℕ) : Type 0 where
  pub places : length found ≡ length lines
  pub each : (p : ℕ) → p < length lines → IsNeighbour lines ranks p down left (slice_index found p)

-- there are at least `count` indices after `place`, and the cell at each of the first `count` of them is directly below the cell at the index before
-- it
abbrev pub IsRun : List ℕ → ℕ → ℕ → Type 0
IsRun above place count =
    (d : ℕ) → d < count → (place + d + 1 < length above)
    × (slice_index above (place + d + 1) ≡ place + d + 1)

-- `most` is k - count, for a number `count` of cells that are read directly after the cell at `place`, each of them below the one before: the letters
-- of these cells must be greater than the letter at `place`
pub record IsGreatest (k : ℕ) (above : List ℕ) (place most : ℕ) : Type 0 where
  pub count : ℕ
  pub value : most ≡ k - count
  pub run : IsRun above place count

-- `near` has, for each of the cells with the rows `lines` and the columns `ranks`, the neighbours above and on the right, and a bound for its letter
-- (`IsGreatest`) if all letters are from 1 to k
pub record AreNear (k : ℕ) (lines ranks : List ℕ) (near : Neighbours) : Type 0 where
  pub above : AreNeighbours lines ranks 1 0 near.above
  pub right : AreNeighbours lines ranks 0 1 near.right
  pub places : length near.most ≡ length lines
  pub most : (p : ℕ) → p < length lines → IsGreatest k near.above p (slice_index near.most p)

-- `lines` are the row numbers and `ranks` the column numbers of the cells of outer/inner, in the order of the column reading
pub record AreCells (outer inner lines ranks : List ℕ) : Type 0 where
  pub lines_are : lines ≡ map (λ (c : ℕ × ℕ). c.0) (reading_cells outer inner)
  pub ranks_are : ranks ≡ map (λ (c : ℕ × ℕ). c.1) (reading_cells outer inner)
