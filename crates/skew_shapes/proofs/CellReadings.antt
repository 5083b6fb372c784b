-- Column readings of fillings given by a function of the cells, and the filling with a given word as its column reading.
use Rattle.std.proofs.Common.{◌≡◌, ◌⊎◌, ℕ, zero, suc, ◌+◌, ◌-◌, ◌≤◌, Bool, true, false, ◌&&◌, ◌==◌, cond, List, [], ◌∷◌, ◌++◌, map, length, take, drop, get_or, reverse, ◌∙◌, ap, ap₂, sym, refl, inl, inr, arith, nat_le, nat_lt, append-nil, append_assoc, filter, flat_map, rules}
use Rattle.std.proofs.lemmas.Bool.{cases_eq, cases_lt, le-leb, lt-leb, lt-ltb, le-ltb, eq-eqb}
use Rattle.std.proofs.lemmas.List.{map-append, reverse-append, drop-drop, get_or-drop, get_or_past}
use Rattle.sym_model.specs.Sum.{Among}
use Rattle.sym_model.specs.Partition.{IsCell, part, columns, after}
use Rattle.sym_model.specs.GoodTableau.{letter_in, column, column_reading}
use Rattle.sym_model.specs.TableauList.{column_cells, reading_cells, letter_of_cell}
use Rattle.skew_shapes.specs.Rows.{row_by, rows_by, reaches, cells_right_of, cells_above, number_in, place_of, HoldsLetters, HasPlaces}
use Rattle.sym_model.proofs.Sums.{Among_from_append, Among_from_map, Among_from_each, Among_from_select, among_reverse}
use Rattle.sym_model.proofs.AfterLists.{after_among, after-more}
use Rattle.skew_shapes.proofs.KeptRows.{is_cell-tells, number_in-set, number_in-set_here}
use Rattle.std.proofs.Math.ListN.{set}
use Rattle.std.proofs.lemmas.Grind.{flat_map-append}
use Rattle.sym_model.proofs.Numbers.{nat_lt-suc}

-- ---- the letters of one column of a filling

take_one :
    (g : ℕ → ℕ) (c k n : ℕ) → take 1 (drop n (map g (after c k))) ≡ cond (nat_lt n k) (g (c + n + 1) ∷ []) []
take_one g c zero zero = refl
take_one g c zero (suc n) = ap (λ b. cond b (g (c + suc n + 1) ∷ []) []) (sym (le-ltb (suc n) 0 (omega arith)))
take_one g c (suc k) zero = search rules
take_one g c (suc k) (suc n) = search (rules, nat_lt-suc, (take_one g (c + 1) k n))

letter_in-by :
    (g : ℕ → ℕ) (c o j : ℕ) → letter_in c (map g (after c (o - c))) j ≡ cond (nat_lt c j && nat_le j o) (g j ∷ []) []
letter_in-by g c o j = search (rules, cases_lt, le-ltb, lt-ltb, take_one, lt-leb, le-leb)

column-by :
    (f : ℕ → ℕ → ℕ) (outer inner : List ℕ) (j a k : ℕ)
    → column (drop a inner) (map (row_by f outer inner) (after a k)) j ≡ map (λ i. f i j) (filter (reaches outer inner j) (after a k))
column-by f outer inner j a zero = refl
column-by f outer inner j a (suc k) =
    let p : part (drop a inner) 1 ≡ part inner (a + 1) =
    get_or-drop a inner 0 0 ∙ ap (λ n. get_or inner n 0) (omega arith) in
    let rest : drop 1 (drop a inner) ≡ drop (a + 1) inner = drop-drop 1 a inner ∙ ap (λ n. drop n inner) (omega arith) in
    let o = part outer (a + 1) in
    ap₂ (λ x y. x ++ y)
    (ap (λ c. letter_in c (row_by f outer inner (a + 1)) j) p ∙ letter_in-by (f (a + 1)) (part inner (a + 1)) o j)
    (ap (λ l. column l (map (row_by f outer inner) (after (a + 1) k)) j) rest ∙ column-by f outer inner j (a + 1) k)
    ∙ by (reaches outer inner j (a + 1)) (filter (reaches outer inner j) (after (a + 1) k))
  where
    by : (b : Bool) (xs : List ℕ)
        → cond b (f (a + 1) j ∷ []) [] ++ map (λ i. f i j) xs ≡ map (λ i. f i j) (cond b ((a + 1) ∷ xs) xs)
    by true xs = refl
    by false xs = refl

map_cells : (f : ℕ → ℕ → ℕ) (j : ℕ) (xs : List ℕ) → map (λ i. f i j) xs ≡ map (λ (c : ℕ × ℕ). f c.0 c.1) (map {B = ℕ × ℕ} (λ i. (i, j)) xs)
map_cells f j [] = refl
map_cells f j (x ∷ xs) = ap (λ l. f x j ∷ l) (map_cells f j xs)

-- if f row column is the number in each cell (row, column) of outer/inner, the letters of column j are the values of f at its cells, from top to
-- bottom
pub column-rows_by :
    (f : ℕ → ℕ → ℕ) (outer inner : List ℕ) (j : ℕ)
    → column inner (rows_by f outer inner) j ≡ map (λ (c : ℕ × ℕ). f c.0 c.1) (column_cells outer inner j)
column-rows_by f outer inner j =
    column-by f outer inner j 0 (length outer) ∙ map_cells f j (filter (reaches outer inner j) (after 0 (length outer)))

pub each-cells :
    (f : ℕ → ℕ → ℕ) (outer inner : List ℕ) (js : List ℕ)
    → flat_map (column inner (rows_by f outer inner)) js ≡ map (λ (c : ℕ × ℕ). f c.0 c.1) (flat_map (column_cells outer inner) js)
each-cells f outer inner [] = refl
each-cells f outer inner (j ∷ js) = search (rules, column-rows_by, map-append, (each-cells f outer inner js))

-- if f row column is the number in each cell (row, column) of outer/inner, the column reading is the list of the values of f at the cells in reading
-- order
pub reading-rows_by :
    (f : ℕ → ℕ → ℕ) (outer inner : List ℕ)
    → column_reading outer inner (rows_by f outer inner) ≡ map (λ (c : ℕ × ℕ). f c.0 c.1) (reading_cells outer inner)
reading-rows_by f outer inner = search (rules, each-cells)

-- ---- the letter that a cell gets from a word written into a list of cells (`letter_of_cell`), after one more cell is appended to the list

other_cell : (i j row column : ℕ) → ((i ≡ row) × (j ≡ column) → ⊥) → ((i == row) && (j == column)) ≡ false
other_cell i j row column h = search rules

same_cell : (i j : ℕ) → ((i == i) && (j == j)) ≡ true
same_cell i j = ap₂ (λ a b. a && b) (eq-eqb i i refl) (eq-eqb j j refl)

pub letter-push_other :
    (row column i j : ℕ) (done : List (ℕ × ℕ)) (w : List ℕ) → ((i ≡ row) × (j ≡ column) → ⊥)
    → letter_of_cell row column (done ++ (i, j) ∷ []) w ≡ letter_of_cell row column done w
letter-push_other row column i j [] [] h = refl
letter-push_other row column i j [] (a ∷ w) h = ap (λ b. cond b a 0) (other_cell i j row column h)
letter-push_other row column i j (c ∷ done) [] h = refl
letter-push_other row column i j (c ∷ done) (a ∷ w) h =
    ap (λ x. cond ((c.0 == row) && (c.1 == column)) a x) (letter-push_other row column i j done w h)

pub letter-push_here :
    (i j : ℕ) (done : List (ℕ × ℕ)) (w : List ℕ) → (Among (i, j) done → ⊥)
    → letter_of_cell i j (done ++ (i, j) ∷ []) w ≡ get_or w (length done) 0
letter-push_here i j [] [] h = refl
letter-push_here i j [] (a ∷ w) h = ap (λ b. cond b a 0) (same_cell i j)
letter-push_here i j (c ∷ done) [] h = refl
letter-push_here i j (c ∷ done) (a ∷ w) h = search (rules, other_cell, (letter-push_here i j done w))

letter-absent : (i j : ℕ) (done : List (ℕ × ℕ)) (w : List ℕ) → (Among (i, j) done → ⊥) → letter_of_cell i j done w ≡ 0
letter-absent i j [] w h = refl
letter-absent i j (c ∷ done) [] h = refl
letter-absent i j (c ∷ done) (a ∷ w) h = search (rules, other_cell, (letter-absent i j done w))

-- ---- the lists `cells_above` and `column_cells` with one more row or column

select-push : (test : ℕ → Bool) (xs : List ℕ) (x : ℕ) → filter test (xs ++ x ∷ []) ≡ filter test xs ++ cond (test x) (x ∷ []) []
select-push test [] x = refl
select-push test (y ∷ xs) x = search (rules, (select-push test xs x))

above-more :
    (outer inner : List ℕ) (j k : ℕ)
    → cells_above outer inner j (k + 1) ≡ cells_above outer inner j k ++ map {B = ℕ × ℕ} (λ row. (row, j)) (cond (reaches outer inner j (k + 1)) ((k + 1) ∷ []) [])
above-more outer inner j k = search (rules, after-more, select-push, map-append)

pub above-reached :
    (outer inner : List ℕ) (j k : ℕ) → reaches outer inner j (k + 1) ≡ true
    → cells_above outer inner j (k + 1) ≡ cells_above outer inner j k ++ (k + 1, j) ∷ []
above-reached outer inner j k h = search (rules, above-more)

pub above-passed :
    (outer inner : List ℕ) (j k : ℕ) → reaches outer inner j (k + 1) ≡ false
    → cells_above outer inner j (k + 1) ≡ cells_above outer inner j k
above-passed outer inner j k h = search (rules, above-more, append-nil)

pub right-more :
    (outer inner : List ℕ) (j : ℕ) → 1 ≤ j → j ≤ columns outer
    → cells_right_of outer inner (j - 1) ≡ cells_right_of outer inner j ++ cells_above outer inner j (length outer)
right-more outer inner zero h l = absurd (omega arith)
right-more outer inner (suc i) h l =
    let e : suc i - 1 ≡ i = omega arith in
    let n : columns outer - i ≡ suc (columns outer - suc i) = omega arith in
    let f : i + 1 ≡ suc i = omega arith in
    let k = columns outer - suc i in
    ap (cells_right_of outer inner) e
    ∙ ap (λ m. flat_map (column_cells outer inner) (reverse (after i m))) n
    ∙ ap (flat_map (column_cells outer inner)) (reverse-append ((i + 1) ∷ []) (after (i + 1) k))
    ∙ ap (λ x. flat_map (column_cells outer inner) (reverse (after x k) ++ x ∷ [])) f
    ∙ flat_map-append (column_cells outer inner) (reverse (after (suc i) k)) (suc i ∷ [])
    ∙ ap (λ l. flat_map (column_cells outer inner) (reverse (after (suc i) k)) ++ l) (append-nil (column_cells outer inner (suc i)))

pub not_before :
    (outer inner : List ℕ) (j k : ℕ) → Among (k + 1, j) (cells_right_of outer inner j ++ cells_above outer inner j k) → ⊥
not_before outer inner j k m = by (Among_from_append (k + 1, j) (cells_right_of outer inner j) (cells_above outer inner j k) m)
  where
    by : Among (k + 1, j) (cells_right_of outer inner j) ⊎ Among (k + 1, j) (cells_above outer inner j k) → ⊥
    by (inl n) =
        let found = Among_from_each (column_cells outer inner) (k + 1, j) (reverse (after j (columns outer - j))) n in
        let past = after_among j (columns outer - j) found.0 (among_reverse found.0 (after j (columns outer - j)) found.1) in
        let here = Among_from_map {B = ℕ × ℕ} (λ row. (row, found.0)) (k + 1, j) (filter (reaches outer inner found.0) (after 0 (length outer))) found.2 in
        let same : j ≡ found.0 = ap (λ (c : ℕ × ℕ). c.1) here.2 in
        omega (arith, past.0)
    by (inr n) =
        let here = Among_from_map {B = ℕ × ℕ} (λ row. (row, j)) (k + 1, j) (filter (reaches outer inner j) (after 0 k)) n in
        let row = (Among_from_select (reaches outer inner j) here.0 (after 0 k) here.1).0 in
        let same : k + 1 ≡ here.0 = ap (λ (c : ℕ × ℕ). c.0) here.2 in
        omega (arith, (after_among 0 k here.0 row).1)

reached_cell : (outer inner : List ℕ) (j k : ℕ) → reaches outer inner j (k + 1) ≡ true → IsCell outer inner (k + 1) j
reached_cell outer inner j k h =
    is_cell-tells outer inner (k + 1) j (ap (λ b. b && reaches outer inner j (k + 1)) (le-leb 1 (k + 1) (omega arith)) ∙ h)

-- ---- writing the next letter of w into the cell of column j in row k + 1

pub letters-put :
    (starts numbers outer inner w : List ℕ) (j k a : ℕ) → HasPlaces starts outer (length numbers)
    → reaches outer inner j (k + 1) ≡ true
    → HoldsLetters starts numbers outer inner (cells_right_of outer inner j ++ cells_above outer inner j k) w
    → a ≡ get_or w (length (cells_right_of outer inner j ++ cells_above outer inner j k)) 0
    → HoldsLetters starts (set numbers (place_of starts (k + 1) j) a) outer inner (cells_right_of outer inner j ++ cells_above outer inner j (k + 1)) w
letters-put starts numbers outer inner w j k a h r held e row column c =
    let done = cells_right_of outer inner j ++ cells_above outer inner j k in
    let here = reached_cell outer inner j k r in
    let more : done ++ (k + 1, j) ∷ [] ≡ cells_right_of outer inner j ++ cells_above outer inner j (k + 1) =
    append_assoc (cells_right_of outer inner j) (cells_above outer inner j k) ((k + 1, j) ∷ [])
    ∙ ap (λ l. cells_right_of outer inner j ++ l) (sym (above-reached outer inner j k r)) in
    by (same_or_other row (k + 1) column j) done here more
  where
    same_or_other : (a b c d : ℕ) → ((a ≡ b) × (c ≡ d)) ⊎ ((a ≡ b) × (c ≡ d) → ⊥)
    same_or_other a b c d = elim (cases_eq a b) [
      | inr n ↦ inr (λ e. n e.0)
      | inl e ↦ elim (cases_eq c d) [ inr n ↦ inr (λ f. n f.1) | inl f ↦ inl (e, f) ]
    ]

    by : ((row ≡ k + 1) × (column ≡ j)) ⊎ ((row ≡ k + 1) × (column ≡ j) → ⊥) → (done : List (ℕ × ℕ)) → IsCell outer inner (k + 1) j
        → done ++ (k + 1, j) ∷ [] ≡ cells_right_of outer inner j ++ cells_above outer inner j (k + 1)
        → number_in starts (set numbers (place_of starts (k + 1) j) a) row column
        ≡ letter_of_cell row column (cells_right_of outer inner j ++ cells_above outer inner j (k + 1)) w
    by (inl s) done here more =
        ap₂ (λ x y. number_in starts (set numbers (place_of starts (k + 1) j) a) x y) s.0 s.1
        ∙ number_in-set_here starts numbers outer inner (k + 1) j a h here ∙ e
        ∙ sym (letter-push_here (k + 1) j (cells_right_of outer inner j ++ cells_above outer inner j k) w (not_before outer inner j k))
        ∙ ap (λ l. letter_of_cell (k + 1) j l w)
        (append_assoc (cells_right_of outer inner j) (cells_above outer inner j k) ((k + 1, j) ∷ [])
        ∙ ap (λ l. cells_right_of outer inner j ++ l) (sym (above-reached outer inner j k r)))
        ∙ sym (ap₂ (λ x y. letter_of_cell x y (cells_right_of outer inner j ++ cells_above outer inner j (k + 1)) w) s.0 s.1)
    by (inr n) done here more =
        number_in-set starts numbers outer inner (k + 1) j a row column h here c n ∙ held row column c
        ∙ sym (letter-push_other row column (k + 1) j (cells_right_of outer inner j ++ cells_above outer inner j k) w (λ s. n (sym s.0, sym s.1)))
        ∙ ap (λ l. letter_of_cell row column l w)
        (append_assoc (cells_right_of outer inner j) (cells_above outer inner j k) ((k + 1, j) ∷ [])
        ∙ ap (λ l. cells_right_of outer inner j ++ l) (sym (above-reached outer inner j k r)))

-- if the cells read before the cell (k + 1, j) of outer/inner have the letters of w (`HoldsLetters`), and w has no letter left for (k + 1, j), then
-- `HoldsLetters` also holds for the list of cells with (k + 1, j) appended, and nothing needs to be written
pub letters-spent :
    (starts numbers outer inner w : List ℕ) (j k : ℕ) → reaches outer inner j (k + 1) ≡ true
    → HoldsLetters starts numbers outer inner (cells_right_of outer inner j ++ cells_above outer inner j k) w
    → length w ≤ length (cells_right_of outer inner j ++ cells_above outer inner j k)
    → HoldsLetters starts numbers outer inner (cells_right_of outer inner j ++ cells_above outer inner j (k + 1)) w
letters-spent starts numbers outer inner w j k r held short row column c =
    search (rules, cases_eq, append_assoc, above-reached, letter-push_other, letter-absent, not_before, get_or_past, letter-push_here)

-- if row k + 1 has no cell in column j, and `HoldsLetters` holds for the cells right of column j and those of column j in the first k rows, it also
-- holds for the first k + 1 rows
pub letters-passed :
    (starts numbers outer inner w : List ℕ) (j k : ℕ) → reaches outer inner j (k + 1) ≡ false
    → HoldsLetters starts numbers outer inner (cells_right_of outer inner j ++ cells_above outer inner j k) w
    → HoldsLetters starts numbers outer inner (cells_right_of outer inner j ++ cells_above outer inner j (k + 1)) w
letters-passed starts numbers outer inner w j k r held row column c = search (rules, above-passed)

pub pushed-passed :
    (f : ℕ → ℕ → ℕ) (outer inner given letters : List ℕ) (j k : ℕ) → reaches outer inner j (k + 1)
    ≡ false
    → letters ≡ given ++ map (λ (c : ℕ × ℕ). f c.0 c.1) (cells_above outer inner j k)
    → letters ≡ given ++ map (λ (c : ℕ × ℕ). f c.0 c.1) (cells_above outer inner j (k + 1))
pushed-passed f outer inner given letters j k r e =
    e ∙ ap (λ l. given ++ map (λ (c : ℕ × ℕ). f c.0 c.1) l) (sym (above-passed outer inner j k r))

pub pushed-reached :
    (f : ℕ → ℕ → ℕ) (outer inner given letters new : List ℕ) (j k a : ℕ) → reaches outer inner j
    (k + 1) ≡ true
    → letters ≡ given ++ map (λ (c : ℕ × ℕ). f c.0 c.1) (cells_above outer inner j k)
    → a ≡ f (k + 1) j → new ≡ letters ++ a ∷ []
    → new ≡ given ++ map (λ (c : ℕ × ℕ). f c.0 c.1) (cells_above outer inner j (k + 1))
pushed-reached f outer inner given letters new j k a r e is push = search (rules, append_assoc, map-append, above-reached)

pub pushed-column :
    (f : ℕ → ℕ → ℕ) (outer inner given letters new : List ℕ) (j : ℕ) → 1 ≤ j → j ≤ columns outer
    → letters ≡ given ++ map (λ (c : ℕ × ℕ). f c.0 c.1) (cells_right_of outer inner j)
    → new ≡ letters ++ map (λ (c : ℕ × ℕ). f c.0 c.1) (column_cells outer inner j)
    → new ≡ given ++ map (λ (c : ℕ × ℕ). f c.0 c.1) (cells_right_of outer inner (j - 1))
pushed-column f outer inner given letters new j h l e push = search (rules, append_assoc, map-append, right-more)
