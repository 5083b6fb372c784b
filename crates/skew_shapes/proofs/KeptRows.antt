-- Fillings whose numbers are stored in one list; the index at which each row of the outer partition begins is given (`filling_in`).
use Rattle.std.proofs.lemmas.Grind.{common_steps}
use Rattle.std.proofs.Common.{◌≡◌, ◌⊎◌, ℕ, zero, suc, ◌+◌, ◌-◌, ◌<◌, ◌≤◌, true, List, [], ◌∷◌, map, length, take, drop, get_or, slice_index, ◌∙◌, ap, ap₂, sym, refl, subst, inl, inr, arith, Some, rules}
use Rattle.std.proofs.Math.ListN.{set}
use Rattle.std.proofs.Math.Seq.{drop-cons}
use Rattle.std.proofs.lemmas.Bool.{cases_eq, cases_lt}
use Rattle.std.proofs.lemmas.List.{get_or-set_other, get_or-set_same, length-map, take_all}
use Rattle.sym_model.proofs.AfterLists.{length_after}
use Rattle.partitions.proofs.Parts.{size-take_more}
use Rattle.partitions.proofs.LoweredParts.{length-lowered, HasCells-lowered}
use Rattle.strip_laws.proofs.Containment.{contains-tells, contains-from}
use Rattle.sym_model.specs.Partition.{IsCell, Holds, part, size, after, without_last_zeros}
use Rattle.sym_model.specs.Slide.{lowered_at, HasInnerCorner}
use Rattle.sym_model.specs.Tableau.{SkewFilling}
use Rattle.sym_model.proofs.Parts.{length-without_last_zeros}
use Rattle.partitions.specs.Limits.{HasCells}
use Rattle.skew_shapes.specs.Shapes.{IsSkew}
use Rattle.skew_shapes.specs.CellFillings.{IsFilling, is_cell, row_of, entry_at, with_entry, with_inner_cell, without_outer_cell}
use Rattle.skew_shapes.specs.Rows.{row_by, rows_by, place_of, number_in, filling_in, HasPlaces, IsKept}
use Rattle.skew_shapes.proofs.CellRows.{map_after-ext, map_after-set, take-map_after, cell_row, row_of-rows_by, letter-rows_by, rows_by-set, part-lowered_here, part-lowered_there, lengths-rows_by}

pub is_cell-tells : (outer inner : List ℕ) (row column : ℕ) → is_cell outer inner row column ≡ true → IsCell outer inner row column
is_cell-tells outer inner row column h = search rules

-- if the list is long enough for all cells of outer (`HasPlaces`), the index of each cell of outer/inner is smaller than the length of the list
pub place_within :
    (starts outer inner : List ℕ) (places row column : ℕ) → HasPlaces starts outer places → IsCell outer inner row column
    → place_of starts row column < places
place_within starts outer inner places row column h c = grind (arith, common_steps)

pub row_within :
    (starts outer inner : List ℕ) (places row column : ℕ) → HasPlaces starts outer places → IsCell outer inner row column
    → row - 1 < length starts
row_within starts outer inner places row column h c = grind (arith, common_steps)

pub place_apart :
    (starts outer inner : List ℕ) (places i j k l : ℕ) → HasPlaces starts outer places → IsCell outer inner i j → IsCell outer inner k l
    → ((i ≡ k) × (j ≡ l) → ⊥) → place_of starts i j ≡ place_of starts k l → ⊥
place_apart starts outer inner places i j k l h c d n e =
    let few = cell_row outer inner i j c in
    let less = cell_row outer inner k l d in
    let a = c.row_counts in
    let b = c.outside in
    let b' = c.within in
    let p = d.row_counts in
    let q = d.outside in
    let q' = d.within in
    by (cases_lt (i - 1) (k - 1)) (cases_lt (k - 1) (i - 1))
  where
    by : ((i - 1) < (k - 1)) ⊎ ((k - 1) ≤ (i - 1)) → ((k - 1) < (i - 1)) ⊎ ((i - 1) ≤ (k - 1)) → ⊥
    by (inl m) o =
        let few = cell_row outer inner k l d in
        let b = c.outside in
        let b' = c.within in
        let q = d.outside in
        omega (arith, h.apart (i - 1) (k - 1) m (omega arith))
    by (inr m) (inl o) =
        let few = cell_row outer inner i j c in
        let b = c.outside in
        let q = d.outside in
        let q' = d.within in
        omega (arith, h.apart (k - 1) (i - 1) o (omega arith))
    by (inr m) (inr o) =
        let a = c.row_counts in
        let p = d.row_counts in
        let b = c.outside in
        let q = d.outside in
        let same : i ≡ k = omega arith in
        let starts_same : get_or starts (i - 1) 0 ≡ get_or starts (k - 1) 0 = ap (λ r. get_or starts (r - 1) 0) same in
        n (same, omega arith)

-- ---- the numbers of the filling after one number of the list is overwritten

pub number_in-set :
    (starts numbers outer inner : List ℕ) (row column a i j : ℕ) → HasPlaces starts outer (length numbers) → IsCell outer inner row column
    → IsCell outer inner i j → ((i ≡ row) × (j ≡ column) → ⊥)
    → number_in starts (set numbers (place_of starts row column) a) i j ≡ number_in starts numbers i j
number_in-set starts numbers outer inner row column a i j h c d n = search (rules, place_apart, get_or-set_other)

pub number_in-set_here :
    (starts numbers outer inner : List ℕ) (row column a : ℕ) → HasPlaces starts outer (length numbers) → IsCell outer inner row column
    → number_in starts (set numbers (place_of starts row column) a) row column ≡ a
number_in-set_here starts numbers outer inner row column a h c =
    get_or-set_same numbers (place_of starts row column) a 0 (place_within starts outer inner (length numbers) row column h c)

pub filling_in-set :
    (shape : List ℕ × List ℕ) (starts numbers : List ℕ) (row column a : ℕ) → HasPlaces starts shape.0 (length numbers)
    → IsCell shape.0 shape.1 row column
    → filling_in shape starts (set numbers (place_of starts row column) a) ≡ with_entry (filling_in shape starts numbers) row column a
filling_in-set shape starts numbers row column a h c = search (rules, rows_by-set, set, number_in-set_here, number_in-set)

pub entry-filling_in :
    (shape : List ℕ × List ℕ) (starts numbers : List ℕ) (row column : ℕ) → is_cell shape.0 shape.1 row column ≡ true
    → Some (number_in starts numbers row column) ≡ entry_at (filling_in shape starts numbers) row column
entry-filling_in shape starts numbers row column h = search (rules, is_cell-tells, slice_index, letter-rows_by)

pub map_after-slice :
    (xs : List ℕ) (s p k : ℕ) → s + p + k ≤ length xs → map (λ j. get_or xs (s + (j - 1)) 0) (after p k) ≡ take k (drop (s + p) xs)
map_after-slice xs s p zero h = refl
map_after-slice xs s p (suc k) h =
    let e : s + (p + 1 - 1) ≡ s + p = omega arith in
    let f : s + (p + 1) ≡ suc (s + p) = omega arith in
    ap₂ ◌∷◌ (ap (λ n. get_or xs n 0) e) (map_after-slice xs s (p + 1) k (omega arith) ∙ ap (λ n. take k (drop n xs)) f)
    ∙ sym (ap (take (suc k)) (drop-cons xs (s + p) 0 (omega arith)))

size-take-rises : (xs : List ℕ) (i k : ℕ) → i ≤ k → size (take i xs) ≤ size (take k xs)
size-take-rises [] zero zero h = omega arith
size-take-rises [] zero (suc k) h = omega arith
size-take-rises [] (suc i) zero h = absurd (omega arith)
size-take-rises [] (suc i) (suc k) h = omega arith
size-take-rises (x ∷ xs) zero k h = omega arith
size-take-rises (x ∷ xs) (suc i) zero h = absurd (omega arith)
size-take-rises (x ∷ xs) (suc i) (suc k) h = omega (arith, size-take-rises xs i k (omega arith))

pub size-take-within : (xs : List ℕ) (i : ℕ) → i < length xs → size (take i xs) + get_or xs i 0 ≤ size xs
size-take-within xs i h =
    let more = size-take_more xs i h in
    let rise = size-take-rises xs (i + 1) (length xs) (omega arith) in
    let whole : take (length xs) xs ≡ xs = take_all (length xs) xs (omega arith) in
    omega (arith, ap size whole)

pub places-from :
    (starts lengths : List ℕ) → length starts ≡ length lengths
    → ((k : ℕ) → k < length lengths → get_or starts k 0 ≡ size (take k lengths)) → HasPlaces starts lengths (size lengths)
places-from starts lengths e h = record {
  rows = omega arith;
  apart = λ i k l m.
      let more = size-take_more lengths i (omega arith) in
      omega (arith, h i (omega arith), h k m, size-take-rises lengths (i + 1) k (omega arith));
  within = λ i l. omega (arith, h i l, size-take-within lengths i l);
}

-- ---- the filling (`filling_in`) without the last cell of a row

pub rows-lowered : (xs : List ℕ) (row : ℕ) → 1 ≤ row → length (without_last_zeros (lowered_at row xs)) ≤ length xs
rows-lowered xs zero h = absurd (omega arith)
rows-lowered xs (suc i) h = omega (arith, length-without_last_zeros (lowered_at (suc i) xs), length-lowered xs i)

pub part-lowered_less : (xs : List ℕ) (row k : ℕ) → 1 ≤ row → 1 ≤ k → part (without_last_zeros (lowered_at row xs)) k ≤ part xs k
part-lowered_less xs row k h l = elim (cases_eq k row) [
  | inl e ↦ omega (arith, ap (part (without_last_zeros (lowered_at row xs))) e, ap (part xs) e, part-lowered_here xs row h)
  | inr n ↦ omega (arith, part-lowered_there xs row k h l n)
]

pub HasPlaces-lowered :
    (starts outer : List ℕ) (row places : ℕ) → 1 ≤ row → HasPlaces starts outer places
    → HasPlaces starts (without_last_zeros (lowered_at row outer)) places
HasPlaces-lowered starts outer row places h p =
    let few = rows-lowered outer row h in
    let less : (i : ℕ) → get_or (without_last_zeros (lowered_at row outer)) i 0 ≤ get_or outer i 0 =
    λ i.
    let e : i + 1 - 1 ≡ i = omega arith in
    subst (λ n. get_or (without_last_zeros (lowered_at row outer)) n 0 ≤ get_or outer n 0) e (part-lowered_less outer row (i + 1) h (omega arith)) in
    record {
      rows = omega (arith, p.rows);
      apart = λ i k l m. omega (arith, p.apart i k l (omega arith), less i);
      within = λ i l. omega (arith, p.within i (omega arith), less i);
    }

row-dropped :
    (f : ℕ → ℕ → ℕ) (outer inner : List ℕ) (row : ℕ) → 1 ≤ row → row ≤ length outer
    → take (length (row_of (rows_by f outer inner) row) - 1) (row_of (rows_by f outer inner) row)
    ≡ row_by f (without_last_zeros (lowered_at row outer)) inner row
row-dropped f outer inner row h l = search (rules, row_of-rows_by, length-map, length_after, part-lowered_here, take-map_after)

pub filling_in-dropped :
    (shape : List ℕ × List ℕ) (starts numbers : List ℕ) (row : ℕ) → 1 ≤ row → row ≤ length shape.0
    → filling_in (without_last_zeros (lowered_at row shape.0), shape.1) starts numbers
    ≡ without_outer_cell (filling_in shape starts numbers) row
filling_in-dropped shape starts numbers row h l =
    let f = number_in starts numbers in
    let outer = shape.0 in
    let inner = shape.1 in
    let new = without_last_zeros (lowered_at row shape.0) in
    let this : 0 + (row - 1) + 1 ≡ row = omega arith in
    let kept = take (length (row_of (rows_by f outer inner) row) - 1) (row_of (rows_by f outer inner) row) in
    let changed : set (rows_by f outer inner) (row - 1) kept ≡ map (row_by f new inner) (after 0 (length outer)) =
    map_after-set (row_by f outer inner) (row_by f new inner) 0 (length outer) (row - 1) kept (omega arith)
    (ap (row_by f new inner) this ∙ sym (row-dropped f outer inner row h l))
    (λ i a b d.
    ap (λ o. map (f i) (after (part inner i) (o - part inner i)))
    (part-lowered_there outer row i h (omega arith) (λ e. d (e ∙ sym this)))) in
    let rows : rows_by f new inner ≡ take (length new) (set (rows_by f outer inner) (row - 1) kept) =
    sym (ap (take (length new)) changed
    ∙ take-map_after (row_by f new inner) 0 (length outer) (length new) (rows-lowered outer row h)) in
    ap (λ (xs : List (List ℕ)). let t : SkewFilling = record { outer = new; inner = inner; rows = xs } in t) rows

within_outer : (outer inner : List ℕ) (i j : ℕ) → IsCell outer inner i j → IsCell outer [] i j
within_outer outer inner i j c = search rules

row-added :
    (f g : ℕ → ℕ → ℕ) (outer inner : List ℕ) (row : ℕ) → 1 ≤ row → row ≤ length outer → 0 < part inner row
    → part inner row ≤ part outer row → g row (part inner row) ≡ 0
    → ((j : ℕ) → part inner row < j → j ≤ part outer row → g row j ≡ f row j)
    → row_by g outer (without_last_zeros (lowered_at row inner)) row ≡ 0 ∷ row_of (rows_by f outer inner) row
row-added f g outer inner row h l p q zero_there same = search (rules, part-lowered_here, map_after-ext, row_of-rows_by)

pub filling_in-added :
    (shape : List ℕ × List ℕ) (starts numbers : List ℕ) (row : ℕ) → HasPlaces starts shape.0 (length numbers)
    → IsCell shape.0 [] row (part shape.1 row)
    → filling_in (shape.0, without_last_zeros (lowered_at row shape.1)) starts (set numbers (place_of starts row (part shape.1 row)) 0)
    ≡ with_inner_cell (filling_in shape starts numbers) row
filling_in-added shape starts numbers row places c =
    let outer = shape.0 in
    let inner = shape.1 in
    let f = number_in starts numbers in
    let column = part shape.1 row in
    let g = number_in starts (set numbers (place_of starts row (part shape.1 row)) 0) in
    let new = without_last_zeros (lowered_at row shape.1) in
    let this : 0 + (row - 1) + 1 ≡ row = omega (arith, c.row_counts) in
    let few = cell_row outer [] row column c in
    let counts = c.row_counts in
    let outside = c.outside in
    let within = c.within in
    let here : g row column ≡ 0 = number_in-set_here starts numbers outer [] row column 0 places c in
    let there : (i j : ℕ) → IsCell outer inner i j → ((i ≡ row) × (j ≡ column) → ⊥) → g i j ≡ f i j =
    λ i j d n. number_in-set starts numbers outer [] row column 0 i j places c (within_outer outer inner i j d) n in
    let first : row_by g outer new row ≡ 0 ∷ row_of (rows_by f outer inner) row =
    row-added f g outer inner row counts few (omega arith) within here
    (λ j a b. there row j (record { row_counts = counts; outside = a; within = b }) (λ e. omega (arith, e.1))) in
    let rows : rows_by g outer new ≡ set (rows_by f outer inner) (row - 1) (0 ∷ row_of (rows_by f outer inner) row) =
    sym (map_after-set (row_by f outer inner) (row_by g outer new) 0 (length outer) (row - 1) (0 ∷ row_of (rows_by f outer inner) row)
    (omega arith) (ap (row_by g outer new) this ∙ first)
    (λ i a b d.
    ap (λ p. map (g i) (after p (part outer i - p))) (part-lowered_there inner row i counts (omega arith) (λ e. d (e ∙ sym this)))
    ∙ map_after-ext (g i) (f i) (part inner i) (part outer i - part inner i)
    (λ j q r. there i j (record { row_counts = omega arith; outside = q; within = omega arith }) (λ e. d (e.0 ∙ sym this))))) in
    ap (λ (xs : List (List ℕ)). let t : SkewFilling = record { outer = outer; inner = new; rows = xs } in t) rows

-- ---- skew shapes with one part of the inner or of the outer partition lowered by 1

pub IsSkew-inner_lowered :
    (outer inner new : List ℕ) (row : ℕ) → IsSkew outer inner → HasInnerCorner row inner
    → new ≡ without_last_zeros (lowered_at row inner) → IsSkew outer new
IsSkew-inner_lowered outer inner new zero s c e = absurd (omega (arith, c.0))
IsSkew-inner_lowered outer inner new (suc i) s c e =
    let here : suc i - 1 ≡ i = omega arith in
    let there : suc i + 1 - 1 ≡ suc i = omega arith in
    let corner : get_or inner (suc i) 0 < get_or inner i 0 =
    omega (arith, c.1, ap (λ n. get_or inner n 0) here, ap (λ n. get_or inner n 0) there) in
    let holds = contains-tells outer inner s.holds in
    let less : Holds outer (without_last_zeros (lowered_at (suc i) inner)) =
    λ k. elim (cases_lt 0 k) [
      | inl p ↦ omega (arith, part-lowered_less inner (suc i) k (omega arith) p, holds k)
      | inr z ↦
          let one : k - 1 ≡ 1 - 1 = omega arith in
          omega (
            arith,
            ap (λ n. get_or (without_last_zeros (lowered_at (suc i) inner)) n 0) one,
            ap (λ n. get_or outer n 0) one,
            ap (λ n. get_or inner n 0) one,
            part-lowered_less inner (suc i) 1 (omega arith) (omega arith),
            holds 1,
          )
    ] in
    record {
      outside = s.outside;
      inside =
          let cells : HasCells inner (size inner) = record { limits = s.inside; cells_are = refl } in
          (HasCells-lowered inner new i (size inner) cells corner e).limits;
      holds = contains-from outer new (subst (Holds outer) (sym e) less);
    }

pub IsSkew-outer_lowered :
    (outer inner new : List ℕ) (row : ℕ) → IsSkew outer inner → HasInnerCorner row outer → part inner row < part outer row
    → new ≡ without_last_zeros (lowered_at row outer) → IsSkew new inner
IsSkew-outer_lowered outer inner new zero s c p e = absurd (omega (arith, c.0))
IsSkew-outer_lowered outer inner new (suc i) s c p e =
    let here : suc i - 1 ≡ i = omega arith in
    let there : suc i + 1 - 1 ≡ suc i = omega arith in
    let corner : get_or outer (suc i) 0 < get_or outer i 0 =
    omega (arith, c.1, ap (λ n. get_or outer n 0) here, ap (λ n. get_or outer n 0) there) in
    let holds = contains-tells outer inner s.holds in
    let counted : (k : ℕ) → 1 ≤ k → part inner k ≤ part (without_last_zeros (lowered_at (suc i) outer)) k =
    λ k l. elim (cases_eq k (suc i)) [
      | inl same ↦
          omega (
            arith,
            ap (part inner) same,
            ap (part (without_last_zeros (lowered_at (suc i) outer))) same,
            part-lowered_here outer (suc i) (omega arith),
            p,
          )
      | inr other ↦ omega (arith, part-lowered_there outer (suc i) k (omega arith) l other, holds k)
    ] in
    let all : Holds (without_last_zeros (lowered_at (suc i) outer)) inner =
    λ k. elim (cases_lt 0 k) [
      | inl l ↦ counted k l
      | inr z ↦
          let one : k - 1 ≡ 1 - 1 = omega arith in
          omega (
            arith,
            ap (λ n. get_or (without_last_zeros (lowered_at (suc i) outer)) n 0) one,
            ap (λ n. get_or inner n 0) one,
            counted 1 (omega arith),
          )
    ] in
    record {
      outside =
          let cells : HasCells outer (size outer) = record { limits = s.outside; cells_are = refl } in
          (HasCells-lowered outer new i (size outer) cells corner e).limits;
      inside = s.inside;
      holds = contains-from new inner (subst (λ xs. Holds xs inner) (sym e) all);
    }

-- ---- the rows of the filling as slices of the list, and their lengths

pub row-kept :
    (shape : List ℕ × List ℕ) (starts numbers : List ℕ) (row from to : ℕ) → IsKept shape starts numbers → 1 ≤ row → row ≤ length shape.0
    → from ≡ place_of starts row (part shape.1 row + 1) → to ≡ place_of starts row (part shape.0 row + 1)
    → take (to - from) (drop from numbers) ≡ row_of (filling_in shape starts numbers).rows row
row-kept shape starts numbers row from to kept h l e f =
    let p = part shape.1 row in
    let o = part shape.0 row in
    let s = get_or starts (row - 1) 0 in
    let holds = contains-tells shape.0 shape.1 kept.skew.holds row in
    let within = kept.places.within (row - 1) (omega arith) in
    let begin : from ≡ get_or starts (row - 1) 0 + part shape.1 row = omega arith in
    let count : to - from ≡ part shape.0 row - part shape.1 row = omega arith in
    ap₂ (λ n m. take n (drop m numbers)) count begin
    ∙ sym (map_after-slice numbers s p (o - p) (omega arith))
    ∙ sym (row_of-rows_by (number_in starts numbers) shape.0 shape.1 row h l)

pub row-bounds :
    (shape : List ℕ × List ℕ) (starts numbers : List ℕ) (row from to : ℕ) → IsKept shape starts numbers → 1 ≤ row → row ≤ length shape.0
    → from ≡ place_of starts row (part shape.1 row + 1) → to ≡ place_of starts row (part shape.0 row + 1)
    → (from ≤ to) × (to ≤ length numbers)
row-bounds shape starts numbers row from to kept h l e f = search (rules, contains-tells)

pub IsFilling-kept : (shape : List ℕ × List ℕ) (starts numbers : List ℕ) → IsKept shape starts numbers → IsFilling (filling_in shape starts numbers)
IsFilling-kept shape starts numbers kept =
    record { shape = kept.skew; cells = lengths-rows_by (number_in starts numbers) shape.0 shape.1 }

pub length-filling_in : (shape : List ℕ × List ℕ) (starts numbers : List ℕ) → length (filling_in shape starts numbers).rows ≡ length shape.0
length-filling_in shape starts numbers =
    length-map (after 0 (length shape.0)) (row_by (number_in starts numbers) shape.0 shape.1) ∙ length_after 0 (length shape.0)
