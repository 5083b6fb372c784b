-- Tableaux made from their rows, copies of the rows of a tableau, and the reading word, as the code computes them.
use Rattle.std.proofs.Common.{◌≡◌, ℕ, zero, suc, ◌+◌, ◌-◌, ◌<◌, ◌≤◌, true, List, [], ◌∷◌, ◌++◌, length, take, drop, get_or, reverse, Vec, ◌∙◌, ap, ap₂, sym, refl, arith, append-nil}
use Rattle.std.specs.declared.alloc.Global.{Global}
use Rattle.std.proofs.lemmas.Bool.{and_from}
use Rattle.std.proofs.lemmas.List.{length-map, map-append, reverse-append, take_more}
use Rattle.sym_model.specs.Partition.{rows, part, size}
use Rattle.sym_model.specs.Schur.{letters_of, semistandard}
use Rattle.sym_model.specs.Tableau.{SkewFilling, shape_of, are_letters}
use Rattle.sym_model.specs.TableauList.{reading_cells, letter_of_cell}
use Rattle.sym_model.proofs.SortedParts.{rows_within_size}
use Rattle.sym_model.proofs.Tableaux.{row_lengths-none}
use Rattle.partitions.specs.Limits.{IsWithinLimits}
use Rattle.skew_shapes.specs.CellFillings.{filled_with, is_tableau, row_of}
use Rattle.skew_shapes.proofs.CellRows.{lengths-rows_by}
use Rattle.insertion_laws.specs.Rows.{AreRows}
use Rattle.insertion_laws.proofs.TableauRows.{tableau_from}
use Rattle.row_insertion.specs.RowLists.{rows_in, straight}
use Rattle.row_insertion.proofs.GrowingRows.{rows_in-at, length-rows_in}
use Rattle.row_insertion.proofs.Overwriting.{IsWritingRows}
use Rattle.std.proofs.lemmas.Grind.{flat_map-append}
use Rattle.sym_model.proofs.Lists.{length-at}

-- ---- the straight shape whose parts are the lengths of the rows

pub row_within : (rows : List (Vec ℕ Global)) (i : ℕ) (row : Vec ℕ Global) → i < length rows → row ≡ get_or rows i row → length row.items ≤ size (shape_of (rows_in rows))
row_within [] i row h e = absurd (omega arith)
row_within (r ∷ rows) zero row h e = omega (arith, ap (λ (v : Vec ℕ Global). length v.items) e)
row_within (r ∷ rows) (suc i) row h e = omega (arith, row_within rows i row (omega arith) e)

pub shape_at : (rows : List (Vec ℕ Global)) (i : ℕ) (row : Vec ℕ Global) → i < length rows → row ≡ get_or rows i row → get_or (shape_of (rows_in rows)) i 0 ≡ length row.items
shape_at rows i row h e =
    sym (length-at (rows_in rows) i) ∙ ap length (rows_in-at rows i row h ∙ ap (λ (v : Vec ℕ Global). v.items) (sym e))

pub length-shape : (rows : List (Vec ℕ Global)) → length (shape_of (rows_in rows)) ≡ length rows
length-shape rows = length-map (rows_in rows) length ∙ length-rows_in rows

pub part_more :
    (rows : List (Vec ℕ Global)) (i : ℕ) (row : Vec ℕ Global) (parts after : List ℕ) → i < length rows → row ≡ get_or rows i row
    → parts ≡ take i (shape_of (rows_in rows)) → after ≡ parts ++ length row.items ∷ [] → after ≡ take (i + 1) (shape_of (rows_in rows))
part_more rows i row parts after h e p a =
    let within : i < length (shape_of (rows_in rows)) = omega (arith, length-shape rows) in
    a ∙ ap₂ (λ l n. l ++ n ∷ []) p (sym (shape_at rows i row h e)) ∙ sym (take_more (shape_of (rows_in rows)) i 0 within)

pub shape_within : (rows : List (List ℕ)) → AreRows 1 rows → size (shape_of rows) ≤ 512 → IsWithinLimits (shape_of rows)
shape_within rows h l =
    let t = tableau_from rows h in
    record {
      partition = t.outside;
      few = omega (arith, rows_within_size (shape_of rows) t.outside.positive);
      small = omega arith;
    }

pub rows_start :
    (p : List (List ℕ)) (shape : List ℕ × List ℕ) (w : List ℕ) (filled : SkewFilling) → shape ≡ (shape_of p, [])
    → filled ≡ filled_with shape.0 shape.1 w → IsWritingRows p filled.rows filled 0
rows_start p shape w filled e f =
    let g : filled ≡ filled_with (shape_of p) [] w = f ∙ ap (λ (s : List ℕ × List ℕ). filled_with s.0 s.1 w) e in
    let zeros = (filled_with (shape_of p) [] w).rows in
    record {
      shape =
          ap (λ (t : SkewFilling). shape_of t.rows) g
          ∙ lengths-rows_by (λ row column. letter_of_cell row column (reading_cells (shape_of p) []) w) (shape_of p) []
          ∙ row_lengths-none (shape_of p);
      filling =
          g
          ∙ ap (λ (l : List (List ℕ)). let t : SkewFilling = record { outer = shape_of p; inner = []; rows = l } in t)
          (ap (λ (t : SkewFilling). t.rows) (sym g));
    }

pub row_count :
    (rows : List (Vec ℕ Global)) (zeros : List (List ℕ)) (now : SkewFilling) (i at : ℕ) (row : Vec ℕ Global) → i < length rows
    → i ≡ at → row ≡ get_or rows i row → IsWritingRows (rows_in rows) zeros now at → length row.items ≡ part now.outer (at + 1)
row_count rows zeros now i at row h e f s =
    let place : i ≡ at + 1 - 1 = omega arith in
    sym (shape_at rows i row h f) ∙ ap₂ (λ (l : List ℕ) n. get_or l n 0) (sym (ap (λ (t : SkewFilling). t.outer) s.filling)) place

pub is_tableau_then : (rows : List (List ℕ)) (t : SkewFilling) → AreRows 1 rows → t ≡ straight rows → is_tableau t ≡ true
is_tableau_then rows t h e =
    let made = tableau_from rows h in
    ap is_tableau e ∙ and_from (are_letters (letters_of rows)) (semistandard [] rows) made.letters made.order

pub row_copied :
    (list after : List (Vec ℕ Global)) (row : Vec ℕ Global) (rows : List (List ℕ)) (at : ℕ) → at < length rows
    → rows_in list ≡ take at rows → after ≡ list ++ row ∷ [] → row.items ≡ row_of rows (at + 1) → rows_in after ≡ take (at + 1) rows
row_copied list after row rows at h e a f =
    let place : at + 1 - 1 ≡ at = omega arith in
    ap rows_in a ∙ map-append (λ (v : Vec ℕ Global). v.items) list (row ∷ [])
    ∙ ap₂ (λ (l : List (List ℕ)) w. l ++ w ∷ []) e (f ∙ ap (λ n. get_or rows n []) place) ∙ sym (take_more rows at [] h)

pub read_more :
    (w after row : List ℕ) (rows : List (List ℕ)) (i : ℕ) → 0 < i → i ≤ length rows → w ≡ letters_of (reverse (drop i rows))
    → row ≡ row_of rows i → after ≡ w ++ row → after ≡ letters_of (reverse (drop (i - 1) rows))
read_more w after row rows zero h l e f a = absurd (omega arith)
read_more w after row rows (suc i) h l e f a =
    let place : suc i - 1 ≡ i = omega arith in
    a ∙ ap₂ (λ x y. x ++ y) e (f ∙ ap (λ n. get_or rows n []) place)
    ∙ ap (λ x. letters_of (reverse (drop (suc i) rows)) ++ x) (sym (append-nil (get_or rows i [])))
    ∙ sym (flat_map-append (λ (r : List ℕ). r) (reverse (drop (suc i) rows)) (get_or rows i [] ∷ []))
    ∙ ap letters_of (sym (reverse-append (get_or rows i [] ∷ []) (drop (suc i) rows)))
    ∙ ap (λ (l : List (List ℕ)). letters_of (reverse l)) (sym (split i rows l))
    ∙ ap (λ n. letters_of (reverse (drop n rows))) (sym place)
  where
    split : (i : ℕ) (rows : List (List ℕ)) → suc i ≤ length rows → drop i rows ≡ get_or rows i [] ∷ drop (suc i) rows
    split i [] h = absurd (omega arith)
    split zero (row ∷ rows) h = refl
    split (suc i) (row ∷ rows) h = split i rows (omega arith)
