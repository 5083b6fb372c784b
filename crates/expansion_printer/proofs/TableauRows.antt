-- A filling of a skew shape is determined by its entries.
use Rattle.std.proofs.Common.{◌≡◌, ℕ, zero, suc, ◌+◌, ◌-◌, ◌<◌, length, arith, List, [], ◌∷◌, refl, sym, ◌∙◌, ap, ap₂, map, drop, get_or}
use Rattle.std.specs.Prelude.{slice_index}
use Rattle.std.proofs.Math.Seq.{drop-cons, drop-length}
use Rattle.std.proofs.lemmas.List.{length-map}
use Rattle.sym_model.specs.Partition.{after, part, rows}
use Rattle.sym_model.specs.Schur.{row_lengths}
use Rattle.sym_model.proofs.Tableaux.{length-row_lengths}
use Rattle.skew_shapes.specs.CellFillings.{row_of, place_in_row}
use Rattle.skew_shapes.specs.Rows.{row_by, rows_by}

tabulated : {A : Type 0} (default : A) (g : ℕ → A) (xs : List A) (s j m : ℕ) → j + m ≡ length xs
    → ((i : ℕ) → i < length xs → g (s + i + 1) ≡ get_or xs i default) → map g (after (s + j) m) ≡ drop j xs
tabulated default g xs s j zero long is =
    let e : length xs ≡ j = omega arith in
    sym (ap (λ k. drop k xs) (sym e) ∙ drop-length xs)
tabulated default g xs s j (suc m) long is =
    let next : s + j + 1 ≡ s + suc j = omega arith in
    ap₂ ◌∷◌ (is j (omega arith)) (ap (λ k. map g (after k m)) next ∙ tabulated default g xs s (suc j) m (omega arith) is)
    ∙ sym (drop-cons xs j default (omega arith))

row_lengths-at : (outer inner : List ℕ) (i : ℕ) → slice_index (row_lengths outer inner) i ≡ slice_index outer i - slice_index inner i
row_lengths-at [] inner i = let e : 0 - slice_index inner i ≡ 0 = omega arith in sym e
row_lengths-at (a ∷ outer) [] zero = let e : a - 0 ≡ a = omega arith in sym e
row_lengths-at (a ∷ outer) [] (suc i) = row_lengths-at outer [] i
row_lengths-at (a ∷ outer) (b ∷ inner) zero = refl
row_lengths-at (a ∷ outer) (b ∷ inner) (suc i) = row_lengths-at outer inner i

index-lengths : (filling : List (List ℕ)) (i : ℕ) → slice_index (map length filling) i ≡ length (get_or filling i [])
index-lengths [] i = refl
index-lengths (row ∷ filling) zero = refl
index-lengths (row ∷ filling) (suc i) = index-lengths filling i

-- if the rows of a filling have the lengths of the rows of outer/inner, the filling is the list of its rows, each read entry by entry
pub rows-told : (outer inner : List ℕ) (filling : List (List ℕ)) → map length filling ≡ row_lengths outer inner
    → rows_by (λ row column. slice_index (row_of filling row) (place_in_row inner row column)) outer inner ≡ filling
rows-told outer inner filling cells =
    tabulated [] (row_by entry outer inner) filling 0 0 (rows outer) long row_told
  where
    entry : ℕ → ℕ → ℕ
    entry row column = slice_index (row_of filling row) (place_in_row inner row column)

    long : 0 + length outer ≡ length filling
    long = omega (arith, length-row_lengths outer inner, sym (length-map filling (λ row. length row)) ∙ ap length cells)

    row_told : (i : ℕ) → i < length filling → row_by entry outer inner (0 + i + 1) ≡ get_or filling i []
    row_told i below =
        let r : ℕ = 0 + i + 1 in
        let at : r - 1 ≡ i = omega arith in
        let left : ℕ = part inner r in
        let count : ℕ = part outer r - left in
        let row : List ℕ = get_or filling i [] in
        let outside : part outer r ≡ slice_index outer i = ap (slice_index outer) at in
        let inside : part inner r ≡ slice_index inner i = ap (slice_index inner) at in
        let same : row_of filling r ≡ row = ap (λ k. get_or filling k []) at in
        let cut : slice_index outer i - slice_index inner i ≡ length row =
        sym (row_lengths-at outer inner i) ∙ ap (λ ls. slice_index ls i) (sym cells) ∙ index-lengths filling i in
        let many : 0 + count ≡ length row = omega arith in
        let start : left ≡ left + 0 = omega arith in
        ap (λ k. map (entry r) (after k count)) start
        ∙ tabulated 0 (entry r) row left 0 count many
        (λ k low. let place : (left + k + 1) - (left + 1) ≡ k = omega arith in
        ap (slice_index (row_of filling r)) place ∙ ap (λ (w : List ℕ). slice_index w k) same)

pub parts-told : (parts : List ℕ) → map (part parts) (after 0 (rows parts)) ≡ parts
parts-told parts =
    tabulated 0 (part parts) parts 0 0 (rows parts) (omega arith) (λ i below. let at : 0 + i + 1 - 1 ≡ i = omega arith in ap (slice_index parts) at)
