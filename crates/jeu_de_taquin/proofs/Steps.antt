-- One step of the loop of `move_letters`: a letter moves into the empty cell, or the slide ends.
use Rattle.std.proofs.Common.{◌≡◌, ℕ, ◌+◌, ◌-◌, ◌<◌, ◌≤◌, List, [], ◌++◌, length, take, drop, get_or, ◌∙◌, ap, ap₂, sym, arith, inl, inr}
use Rattle.std.proofs.Math.ListN.{set}
use Rattle.std.proofs.lemmas.Bool.{cases_lt}
use Rattle.std.proofs.lemmas.List.{length-drop, get_or_past}
use Rattle.sym_model.specs.Partition.{IsCell, part}
use Rattle.sym_model.specs.Slide.{HasInnerCorner, slid_rows}
use Rattle.sym_model.specs.Tableau.{SkewFilling}
use Rattle.skew_shapes.specs.CellFillings.{IsFilling, entry_at, place_in_row, row_of, with_entry}
use Rattle.jeu_de_taquin.specs.declared.empty_cell.Neighbour.TheVariants.{Right, Below, Nobody}
use Rattle.jeu_de_taquin.specs.EmptyCell.{next_of, slid_from}
use Rattle.jeu_de_taquin.proofs.Moves.{slid_at, lower_at, moved_left, moved_up, stopped}
use Rattle.jeu_de_taquin.proofs.Neighbours.{IsAt, is_at, count-rows, count-row, right-is, below-is, left-moves, up-moves, none-moves, head_of}

slid_from-is : (t : SkewFilling) (row column : ℕ) → 1 ≤ row → slid_from t row column ≡ slid_at (row - 1) (place_in_row t.inner row column) t.inner t.rows
slid_from-is t row column h =
    let p = place_in_row t.inner row column in
    let R = row_of t.rows row in
    let e : row ≡ row - 1 + 1 = omega arith in
    ap (λ n. take (row - 1) t.rows ++ slid_rows (drop (row - 1) t.inner) (take p R) (drop (p + 1) R) (drop n t.rows)) e

told : (t : SkewFilling) (row column : ℕ) → IsFilling t → IsAt t row column
    → next_of (entry_at t row (column + 1)) (entry_at t (row + 1) column)
    ≡ next_of (head_of (drop (place_in_row t.inner row column + 1) (get_or t.rows (row - 1) [])))
    (head_of (lower_at (row - 1) (place_in_row t.inner row column) t.inner t.rows))
told t row column f a = ap₂ next_of (right-is t row column a) (below-is t row column f a)

-- t becomes s by a move of a letter into the empty cell (row, column): (row', column') is the next empty cell, and the slide that continues in s with
-- this cell ends with the same rows as that in t with (row, column)
pub record Goes (t s : SkewFilling) (row column row' column' : ℕ) : Type 0 where
  pub cell : IsCell s.outer s.inner row' column'
  pub rows : slid_from t row column ≡ slid_from s row' column'

pub goes_right :
    (t : SkewFilling) (row column a : ℕ) → IsFilling t → IsCell t.outer t.inner row column
    → Right a ≡ next_of (entry_at t row (column + 1)) (entry_at t (row + 1) column)
    → Goes t (with_entry t row column a) row column row (column + 1)
goes_right t row column a f c h =
    let n = row - 1 in
    let p = place_in_row t.inner row column in
    let R = get_or t.rows n [] in
    let at = is_at t row column f c in
    let m = left-moves (drop (p + 1) R) (lower_at n p t.inner t.rows) a (h ∙ told t row column f at) in
    let starts = at.starts in
    let ends = at.ends in
    let some : place_in_row t.inner row column + 1 < length (get_or t.rows (row - 1) []) =
    omega (arith, length-drop (place_in_row t.inner row column + 1) (get_or t.rows (row - 1) []), ap (λ (w : List ℕ). length w) m.is) in
    let next : place_in_row t.inner row (column + 1) ≡ place_in_row t.inner row column + 1 = omega arith in
    let rows = set t.rows n (set R p a) in
    record {
      cell = record { row_counts = c.row_counts; outside = omega arith; within = omega arith };
      rows = slid_from-is t row column c.row_counts
          ∙ sym (slid_from-is (with_entry t row column a) row (column + 1) c.row_counts
          ∙ ap (λ q. slid_at n q t.inner rows) next
          ∙ moved_left n p a t.inner m.rest t.rows at.row_is at.place_is at.falls m.is m.smaller);
    }

pub goes_down :
    (t : SkewFilling) (row column b : ℕ) → IsFilling t → IsCell t.outer t.inner row column
    → Below b ≡ next_of (entry_at t row (column + 1)) (entry_at t (row + 1) column)
    → Goes t (with_entry t row column b) row column (row + 1) column
goes_down t row column b f c h =
    let n = row - 1 in
    let p = place_in_row t.inner row column in
    let q = place_in_row t.inner (row + 1) column in
    let R = get_or t.rows n [] in
    let at = is_at t row column f c in
    let m = up-moves (drop (p + 1) R) (lower_at n p t.inner t.rows) b (h ∙ told t row column f at) in
    let starts = at.starts in
    let falls = at.falls in
    let counts = c.row_counts in
    let next : row + 1 - 1 ≡ row - 1 + 1 = omega arith in
    let inner_next : part t.inner (row + 1) ≡ get_or t.inner (row - 1 + 1) 0 = ap (λ n. get_or t.inner n 0) next in
    let outer_next : part t.outer (row + 1) ≡ get_or t.outer (row - 1 + 1) 0 = ap (λ n. get_or t.outer n 0) next in
    let some : get_or t.inner (row - 1) 0 + place_in_row t.inner row column - get_or t.inner (row - 1 + 1) 0 < length (get_or t.rows (row - 1 + 1) []) =
    omega (
      arith,
      length-drop (get_or t.inner (row - 1) 0 + place_in_row t.inner row column - get_or t.inner (row - 1 + 1) 0) (get_or t.rows (row - 1 + 1) []),
      ap (λ (w : List ℕ). length w) m.is,
    ) in
    let within : row - 1 + 1 < length t.rows =
    elim (cases_lt (row - 1 + 1) (length t.rows)) [
      | inl l ↦ l
      | inr l ↦ absurd (omega (arith, ap (λ (w : List ℕ). length w) (get_or_past t.rows (row - 1 + 1) [] l)))
    ] in
    let long = count-row t (row - 1 + 1) f within in
    let place : place_in_row t.inner (row + 1) column ≡ get_or t.inner (row - 1) 0 + place_in_row t.inner row column - get_or t.inner (row - 1 + 1) 0 = omega arith in
    let rows = set t.rows n (set R p b) in
    record {
      cell = record { row_counts = omega arith; outside = omega arith; within = omega arith };
      rows = slid_from-is t row column c.row_counts
          ∙ sym (slid_from-is (with_entry t row column b) (row + 1) column (omega arith)
          ∙ ap (λ n. slid_at n q t.inner rows) next
          ∙ moved_up n p q b t.inner m.rest t.rows within at.place_is place m.is m.least);
    }

-- no letter moves into the empty cell (row, column): its row ends in a corner of the outer partition, and the slide ends by removing the last cell of
-- this row
pub record Stops (t : SkewFilling) (row column : ℕ) : Type 0 where
  pub corner : HasInnerCorner row t.outer
  pub cell : part t.inner row < part t.outer row
  pub rows : slid_from t row column ≡ set t.rows (row - 1) (take (length (row_of t.rows row) - 1) (row_of t.rows row))

pub stops :
    (t : SkewFilling) (row column : ℕ) → IsFilling t → IsCell t.outer t.inner row column
    → Nobody ≡ next_of (entry_at t row (column + 1)) (entry_at t (row + 1) column) → Stops t row column
stops t row column f c h =
    let n = row - 1 in
    let p = place_in_row t.inner row column in
    let R = get_or t.rows n [] in
    let at = is_at t row column f c in
    let m = none-moves (drop (p + 1) R) (lower_at n p t.inner t.rows) (h ∙ told t row column f at) in
    let starts = at.starts in
    let ends = at.ends in
    let falls = at.falls in
    let place = at.place_is in
    let next : row + 1 - 1 ≡ row - 1 + 1 = omega (arith, c.row_counts) in
    let inner_next : part t.inner (row + 1) ≡ get_or t.inner (row - 1 + 1) 0 = ap (λ n. get_or t.inner n 0) next in
    let outer_next : part t.outer (row + 1) ≡ get_or t.outer (row - 1 + 1) 0 = ap (λ n. get_or t.outer n 0) next in
    let last : length (get_or t.rows (row - 1) []) ≡ place_in_row t.inner row column + 1 =
    omega (arith, length-drop (place_in_row t.inner row column + 1) (get_or t.rows (row - 1) []), ap (λ (w : List ℕ). length w) m.0) in
    let under : part t.outer (row + 1) < column =
    elim (cases_lt (row - 1 + 1) (length t.rows)) [
      | inl l ↦
          omega (
            arith,
            count-row t (row - 1 + 1) f l,
            length-drop (get_or t.inner (row - 1) 0 + place_in_row t.inner row column - get_or t.inner (row - 1 + 1) 0) (get_or t.rows (row - 1 + 1) []),
            ap (λ (w : List ℕ). length w) m.1,
          )
      | inr l ↦ omega (arith, count-rows t f, get_or_past t.outer (row - 1 + 1) 0 (omega (arith, count-rows t f)), c.outside)
    ] in
    record {
      corner = (c.row_counts, omega arith);
      cell = omega arith;
      rows = slid_from-is t row column c.row_counts ∙ stopped n p t.inner t.rows at.row_is last m.1;
    }
