-- A list overwritten by another one of the same length, number by number, and a filling overwritten row by row.
use Rattle.std.proofs.Common.{◌≡◌, ℕ, zero, suc, ◌+◌, ◌-◌, ◌<◌, ◌≤◌, List, [], ◌∷◌, ◌++◌, length, take, drop, get_or, ◌∙◌, ap, ap₂, sym, refl, arith}
use Rattle.std.proofs.Math.ListN.{set}
use Rattle.std.proofs.lemmas.List.{get_or-set_same, length-map, set-set, get_or_past, get_or_default}
use Rattle.sym_model.specs.Partition.{part, rows}
use Rattle.sym_model.specs.Tableau.{SkewFilling, shape_of}
use Rattle.skew_shapes.specs.CellFillings.{row_of, place_in_row, with_entry}
use Rattle.row_insertion.specs.RowLists.{with_row, straight}
use Rattle.sym_model.proofs.Lists.{length-at}

pub overwritten :
    {A : Type 0} (at : ℕ) (new old : List A) (x : A) → at < length new → length new ≡ length old → x ≡ get_or new at x
    → set (take at new ++ drop at old) at x ≡ take (at + 1) new ++ drop (at + 1) old
overwritten {A = A} at new old x h l e =
    let s : at + 1 ≡ suc at = omega arith in
    by at new old h l e ∙ ap (λ n. take n new ++ drop n old) (sym s)
  where
    by : (at : ℕ) (new old : List A) → at < length new → length new ≡ length old → x ≡ get_or new at x
        → set (take at new ++ drop at old) at x ≡ take (suc at) new ++ drop (suc at) old
    by at [] old h l e = absurd (omega arith)
    by at (y ∷ new) [] h l e = absurd (omega arith)
    by zero (y ∷ new) (z ∷ old) h l e = ap (λ v. v ∷ old) e
    by (suc at) (y ∷ new) (z ∷ old) h l e = ap (λ v. y ∷ v) (by at new old (omega arith) (omega arith) e)

pub all_written : {A : Type 0} (at : ℕ) (new old : List A) → at ≡ length new → length new ≡ length old → take at new ++ drop at old ≡ new
all_written zero [] [] h l = refl
all_written (suc at) [] old h l = absurd (omega arith)
all_written at [] (z ∷ old) h l = absurd (omega arith)
all_written at (y ∷ new) [] h l = absurd (omega arith)
all_written zero (y ∷ new) (z ∷ old) h l = absurd (omega arith)
all_written (suc at) (y ∷ new) (z ∷ old) h l = ap (λ v. y ∷ v) (all_written at new old (omega arith) (omega arith))

no_part : (row : ℕ) → part [] row ≡ 0
no_part row = get_or_past {X = ℕ} [] (row - 1) 0 (omega arith)

-- `now` is the filling `old` with the first `at` numbers of row `row` replaced by the first `at` numbers of `numbers`
pub record IsWriting (old now : SkewFilling) (row : ℕ) (numbers : List ℕ) (at : ℕ) : Type 0 where
  pub filling : now ≡ with_row old row (take at numbers ++ drop at (row_of old.rows row))

pub writing_more :
    (old now after : SkewFilling) (row : ℕ) (numbers : List ℕ) (at x : ℕ) → old.inner ≡ [] → 1 ≤ row → row ≤ length old.rows
    → at < length numbers → length numbers ≡ length (row_of old.rows row) → x ≡ get_or numbers at x
    → IsWriting old now row numbers at → after ≡ with_entry now row (at + 1) x → IsWriting old after row numbers (at + 1)
writing_more old now after row numbers at x e r l h same g s a =
    let base = row_of old.rows row in
    let cur = take at numbers ++ drop at base in
    let place : place_in_row [] row (at + 1) ≡ at = omega (arith, no_part row) in
    let within : row - 1 < length old.rows = omega arith in
    record {
      filling =
          a ∙ ap (λ (t : SkewFilling). with_entry t row (at + 1) x) s.filling
          ∙ ap (λ (rows : List (List ℕ)). let t : SkewFilling = record { outer = old.outer; inner = old.inner; rows = rows } in t)
          (set-set old.rows (row - 1) cur (set (row_of (set old.rows (row - 1) cur) row) (place_in_row old.inner row (at + 1)) x)
          ∙ ap (set old.rows (row - 1))
          (ap₂ (λ w i. set w i x) (get_or-set_same old.rows (row - 1) cur [] within) (ap (λ i. place_in_row i row (at + 1)) e ∙ place)
          ∙ overwritten at numbers base x h same g));
    }

pub row_length :
    (old : SkewFilling) (row : ℕ) (numbers : List ℕ) → shape_of old.rows ≡ old.outer → length numbers ≡ part old.outer row
    → length numbers ≡ length (row_of old.rows row)
row_length old row numbers s l = l ∙ ap (λ p. part p row) (sym s) ∙ sym (length-at old.rows (row - 1))

-- ---- all rows of a filling overwritten, one after another

-- `now` is the filling of straight shape whose first `at` rows are those of p and whose other rows are those of `zeros`, which has the same shape
pub record IsWritingRows (p zeros : List (List ℕ)) (now : SkewFilling) (at : ℕ) : Type 0 where
  pub shape : shape_of zeros ≡ shape_of p
  pub filling : now ≡ (let t : SkewFilling = record { outer = shape_of p; inner = []; rows = take at p ++ drop at zeros } in t)

mixed : (at : ℕ) (p zeros : List (List ℕ)) → shape_of zeros ≡ shape_of p → shape_of (take at p ++ drop at zeros) ≡ shape_of p
mixed zero p zeros s = s
mixed (suc at) [] [] s = refl
mixed (suc at) [] (z ∷ zeros) s = cc
mixed (suc at) (row ∷ p) [] s = cc
mixed (suc at) (row ∷ p) (z ∷ zeros) s = ap (λ l. length row ∷ l) (mixed at p zeros cc)

pub rows_shape : (p zeros : List (List ℕ)) (now : SkewFilling) (at : ℕ) → IsWritingRows p zeros now at → shape_of now.rows ≡ now.outer
rows_shape p zeros now at h =
    ap (λ (t : SkewFilling). shape_of t.rows) h.filling ∙ mixed at p zeros h.shape ∙ sym (ap (λ (t : SkewFilling). t.outer) h.filling)

pub same_count : (p q : List (List ℕ)) → shape_of p ≡ shape_of q → length p ≡ length q
same_count p q e = sym (length-map p length) ∙ ap length e ∙ length-map q length

pub rows_more :
    (p zeros : List (List ℕ)) (now after : SkewFilling) (at : ℕ) (row : List ℕ) → at < length p → row ≡ get_or p at row
    → after ≡ with_row now (at + 1) row → IsWritingRows p zeros now at → IsWritingRows p zeros after (at + 1)
rows_more p zeros now after at row h e a s =
    let place : at + 1 - 1 ≡ at = omega arith in
    record {
      shape = s.shape;
      filling =
          a ∙ ap (λ (t : SkewFilling). with_row t (at + 1) row) s.filling
          ∙ ap (λ (rows : List (List ℕ)). let t : SkewFilling = record { outer = shape_of p; inner = []; rows = rows } in t)
          (ap (λ i. set (take at p ++ drop at zeros) i row) place ∙ overwritten at p zeros row h (same_count p zeros (sym s.shape)) e);
    }

pub rows_end :
    (p zeros : List (List ℕ)) (now : SkewFilling) (at : ℕ) → at ≡ length p → IsWritingRows p zeros now at → now ≡ straight p
rows_end p zeros now at h s =
    s.filling
    ∙ ap (λ (rows : List (List ℕ)). let t : SkewFilling = record { outer = shape_of p; inner = []; rows = rows } in t)
    (all_written at p zeros h (same_count p zeros (sym s.shape)))

pub any_default : {A : Type 0} (xs : List A) (i n : ℕ) (d x : A) → i < length xs → n ≡ i → x ≡ get_or xs n d → x ≡ get_or xs i x
any_default {A = A} xs i n d x h e f = f ∙ ap (λ j. get_or xs j d) e ∙ get_or_default xs i d x h
