-- The test of whether rows have the lengths of the rows of outer/inner.
use Rattle.std.proofs.Common.{◌≡◌, ℕ, zero, suc, ◌+◌, ◌-◌, ◌<◌, true, false, List, [], ◌∷◌, map, length, get_or, refl, sym, ap, ap₂, subst, ◌∙◌, arith, inl, inr}
use Rattle.std.proofs.lemmas.Bool.{cases_eq, false_from_ne_true}
use Rattle.std.proofs.lemmas.List.{length-map}
use Rattle.sym_model.specs.GoodTableau.{column_reading}
use Rattle.sym_model.specs.Polynomial.{same}
use Rattle.sym_model.specs.Schur.{row_lengths}
use Rattle.sym_model.proofs.Exponents.{same_true, same_refl}
use Rattle.sym_model.specs.TableauList.{reading_cells}
use Rattle.sym_model.proofs.Tableaux.{length-row_lengths, get_or-row_lengths}
use Rattle.skew_shapes.proofs.CellReadings.{reading-rows_by}
use Rattle.tableau_iter.proofs.GoodWords.{rows-by_cells}
use Rattle.tableau_iter.specs.ReadRows.{letter_in_rows}

pub rows_count : {A : Type 0} (f : A → List ℕ) (outer inner : List ℕ) (xs : List A) → map length (map f xs) ≡ row_lengths outer inner → length xs ≡ length outer
rows_count f outer inner xs l =
    sym (length-map xs f) ∙ sym (length-map (map f xs) length) ∙ ap length l ∙ length-row_lengths outer inner

-- if the rows have the lengths of the rows of outer/inner, the letters of the cells in reading order are the column reading of the rows
pub reading_in : (outer inner : List ℕ) (rows : List (List ℕ)) → map length rows ≡ row_lengths outer inner
    → map (λ (c : ℕ × ℕ). letter_in_rows inner rows c.0 c.1) (reading_cells outer inner) ≡ column_reading outer inner rows
reading_in outer inner rows l =
    sym (reading-rows_by (letter_in_rows inner rows) outer inner) ∙ ap (column_reading outer inner) (sym (rows-by_cells outer inner rows l))

alike : (xs ys : List ℕ) → length xs ≡ length ys → ((i : ℕ) → i < length ys → get_or xs i 0 ≡ get_or ys i 0) → xs ≡ ys
alike [] [] l h = refl
alike [] (y ∷ ys) l h = absurd (omega (arith, l))
alike (x ∷ xs) [] l h = absurd (omega (arith, l))
alike (x ∷ xs) (y ∷ ys) l h = ap₂ ◌∷◌ (h 0 (omega arith)) (alike xs ys (omega (arith, l)) (λ i m. h (suc i) (omega (arith, m))))

pub other_count : {A : Type 0} (f : A → List ℕ) (outer inner : List ℕ) (xs : List A) → (length xs ≡ length outer → ⊥)
    → false ≡ same (map length (map f xs)) (row_lengths outer inner)
other_count f outer inner xs n =
    sym (false_from_ne_true (same (map length (map f xs)) (row_lengths outer inner))
    (λ e. n (rows_count f outer inner xs (same_true (map length (map f xs)) (row_lengths outer inner) e))))

pub other_length : {A : Type 0} (f : A → List ℕ) (outer inner : List ℕ) (xs : List A) (i : ℕ)
    → (get_or (map length (map f xs)) i 0 ≡ get_or outer i 0 - get_or inner i 0 → ⊥) → false ≡ same (map length (map f xs)) (row_lengths outer inner)
other_length f outer inner xs i n =
    sym (false_from_ne_true (same (map length (map f xs)) (row_lengths outer inner))
    (λ e. n (ap (λ ls. get_or ls i 0) (same_true (map length (map f xs)) (row_lengths outer inner) e) ∙ get_or-row_lengths outer inner i)))

-- if the number of rows is the number of parts of outer, and each row i has the length of row i of outer/inner, the list of the lengths is
-- `row_lengths outer inner`
pub all_lengths : {A : Type 0} (f : A → List ℕ) (outer inner : List ℕ) (xs : List A) → length xs ≡ length outer
    → ((i : ℕ) → i < length outer → get_or (map length (map f xs)) i 0 ≡ get_or outer i 0 - get_or inner i 0)
    → true ≡ same (map length (map f xs)) (row_lengths outer inner)
all_lengths f outer inner xs l h =
    let few = length-row_lengths outer inner in
    let eq = alike (map length (map f xs)) (row_lengths outer inner) (length-map (map f xs) length ∙ length-map xs f ∙ l ∙ sym (length-row_lengths outer inner))
    (λ i m. h i (omega (arith, m, few)) ∙ sym (get_or-row_lengths outer inner i)) in
    sym (ap (λ ls. same ls (row_lengths outer inner)) eq ∙ same_refl (row_lengths outer inner))

pub length_at : {A : Type 0} (f : A → List ℕ) (xs : List A) (i : ℕ) (x : A) → i < length xs → x ≡ get_or xs i x → get_or (map length (map f xs)) i 0 ≡ length (f x)
length_at f [] i x h e = absurd (omega (arith, h))
length_at f (y ∷ xs) zero x h e = ap (λ z. length (f z)) (sym e)
length_at f (y ∷ xs) (suc i) x h e = length_at f xs i x (omega (arith, h)) e

pub one_more : (lengths outer inner : List ℕ) (n i : ℕ) → ((j : ℕ) → j < n → get_or lengths j 0 ≡ get_or outer j 0 - get_or inner j 0)
    → get_or lengths n 0 ≡ get_or outer n 0 - get_or inner n 0 → i < n + 1 → get_or lengths i 0 ≡ get_or outer i 0 - get_or inner i 0
one_more lengths outer inner n i h e m = elim (cases_eq i n) [
  | inl s ↦ subst (λ j. get_or lengths j 0 ≡ get_or outer j 0 - get_or inner j 0) (sym s) e
  | inr d ↦ h i (omega (arith, m, d))
]
