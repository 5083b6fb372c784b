-- The index of a cell's letter in a column reading, which has the letters of the columns from the rightmost to the leftmost, each from top to
-- bottom.
use Rattle.std.proofs.Common.{zero-add, ◌≡◌, ◌≢◌, ℕ, zero, suc, ◌+◌, ◌-◌, ◌≤◌, ◌<◌, inl, inr, ◌⊎◌, max, length, arith, Bool, true, false, ◌&&◌, List, [], ◌∷◌, ◌++◌, refl, sym, ◌∙◌, ap, ap₂, map, drop, cond, ◌==◌, nat_lt, nat_le, reverse, filter, flat_map}
use Rattle.std.specs.Prelude.{slice_index}
use Rattle.std.proofs.lemmas.Bool.{eq-eqb, ne_eqb, cases_eq, cond-true, cond-false, lt-ltb, le-leb, and_from, and_right, le-ltb}
use Rattle.std.proofs.lemmas.Bool.Decides.{nat_tests}
use Rattle.std.proofs.lemmas.List.{reverse-append, length-map, get_or-drop}
use Rattle.std.specs.List.{sum_by, count_by}
use Rattle.std.proofs.lemmas.List.Sums.{sum_by-cons, sum_by-append, sum_by-le-sum_by, length-filter}
use Rattle.sym_model.specs.Partition.{after, part, rows, columns, IsCell, Falls}
use Rattle.sym_model.specs.TableauList.{column_cells, reading_cells, letter_of_cell}
use Rattle.skew_shapes.specs.Rows.{reaches}
use Rattle.sym_model.specs.Partition.{size}
use Rattle.skew_shapes.specs.CellFillings.{filled_with}
use Rattle.skew_shapes.proofs.CellRows.{letter-rows_by, cell_row}
use Rattle.expansion_printer.specs.ReadingPlaces.{HasReadingPlaces, before_in_row}
use Rattle.expansion_printer.proofs.TableauRows.{parts-told}
use Rattle.std.proofs.Math.Numerals.{one-add}
use Rattle.sym_model.proofs.AfterLists.{after-more}

-- the number of cells of outer/inner in the rows `numbers` that come before the cell (row, column) in a column reading
abbrev pub cells_in_rows : List ℕ → List ℕ → ℕ → ℕ → List ℕ → ℕ
cells_in_rows outer inner row column numbers =
    sum_by (λ i. before_in_row (part inner i) (part outer i) column (nat_lt i row)) numbers

-- the number of cells of outer/inner that come before the cell (row, column) in a column reading
abbrev pub cells_before : List ℕ → List ℕ → ℕ → ℕ → ℕ
cells_before outer inner row column = cells_in_rows outer inner row column (after 0 (rows outer))

sum_by-add : {A : Type 0} (f h : A → ℕ) (xs : List A) → sum_by (λ x. f x + h x) xs ≡ sum_by f xs + sum_by h xs
sum_by-add f h [] = refl
sum_by-add f h (x ∷ xs) =
    let e = sum_by-add f h xs in
    let both = sum_by-cons (λ x. f x + h x) x xs in
    omega (arith, sum_by-cons f x xs, sum_by-cons h x xs)

sum_by-ext : {A : Type 0} (f h : A → ℕ) (xs : List A) → ((x : A) → f x ≡ h x) → sum_by f xs ≡ sum_by h xs
sum_by-ext f h [] same = refl
sum_by-ext f h (x ∷ xs) same =
    sum_by-cons f x xs ∙ (ap₂ ◌+◌ (same x) (sum_by-ext f h xs same) ∙ sym (sum_by-cons h x xs))

-- no cell of the list is in the column
abbrev NotIn : ℕ → List (ℕ × ℕ) → Type 0
NotIn column [] = Unit {0}
NotIn column (c ∷ cells) = (c.1 ≢ column) × NotIn column cells

letter-nothing : (row column : ℕ) (cells : List (ℕ × ℕ)) → letter_of_cell row column cells [] ≡ 0
letter-nothing row column [] = refl
letter-nothing row column (c ∷ cells) = refl

letter-past : (row column : ℕ) (cells others : List (ℕ × ℕ)) (w : List ℕ) → NotIn column cells
    → letter_of_cell row column (cells ++ others) w ≡ letter_of_cell row column others (drop (length cells) w)
letter-past row column [] others w n = refl
letter-past row column (c ∷ cells) others [] n =
    sym (letter-nothing row column others)
letter-past row column (c ∷ cells) others (a ∷ w) n =
    cond-false ((c.0 == row) && (c.1 == column)) a (letter_of_cell row column (cells ++ others) w) (and_right (c.0 == row) (c.1 == column) (ne_eqb c.1 column n.0))
    ∙ letter-past row column cells others w n.1

not_in-column : (column j : ℕ) (is : List ℕ) → j ≢ column → NotIn column (map (λ (i : ℕ). (i, j)) is)
not_in-column column j [] other = tt
not_in-column column j (i ∷ is) other = (other, not_in-column column j is other)

-- the number of rows of the list that are above `row` and pass the test
abbrev rows_above : ℕ → (ℕ → Bool) → List ℕ → ℕ
rows_above row test = count_by (λ i. nat_lt i row && test i)

rows_above-cons : (row : ℕ) (test : ℕ → Bool) (i : ℕ) (is : List ℕ)
    → rows_above row test (i ∷ is) ≡ cond (nat_lt i row && test i) 1 0 + rows_above row test is
rows_above-cons row test i is = sum_by-cons (λ k. cond (nat_lt k row && test k) 1 0) i is

rows_above-past : (row : ℕ) (test : ℕ → Bool) (a m : ℕ) → row ≤ a + 1 → rows_above row test (after a m) ≡ 0
rows_above-past row test a zero far = refl
rows_above-past row test a (suc m) far =
    rows_above-cons row test (a + 1) (after (a + 1) m)
    ∙ ap (λ b. cond (b && test (a + 1)) 1 0 + rows_above row test (after (a + 1) m)) (le-ltb (a + 1) row far)
    ∙ zero-add (rows_above row test (after (a + 1) m)) ∙ rows_above-past row test (a + 1) m (omega arith)

-- the cells of the column in the rows of the list `is`, followed by the cells `others`
abbrev cells_then : ℕ → List ℕ → List (ℕ × ℕ) → List (ℕ × ℕ)
cells_then column is others = map (λ (i : ℕ). (i, column)) is ++ others

in-column : (row column : ℕ) (test : ℕ → Bool) (others : List (ℕ × ℕ)) (a m : ℕ) → a < row → row ≤ a + m → test row ≡ true → (w : List ℕ)
    → letter_of_cell row column (cells_then column (filter test (after a m)) others) w ≡ slice_index w (rows_above row test (after a m))
in-column row column test others a zero high low h w = absurd (omega arith)
in-column row column test others a (suc m) high low h w =
    by (test (a + 1)) (cases_eq (a + 1) row) refl w (λ far. in-column row column test others (a + 1) m far (omega arith) h)
    ∙ ap (slice_index w) (sym (rows_above-cons row test (a + 1) (after (a + 1) m)))
  where
    by : (b : Bool) → ((a + 1) ≡ row) ⊎ ((a + 1) ≢ row) → test (a + 1) ≡ b → (w : List ℕ)
        → (a + 1 < row → (v : List ℕ) → letter_of_cell row column (cells_then column (filter test (after (a + 1) m)) others) v ≡ slice_index v (rows_above row test (after (a + 1) m)))
        → letter_of_cell row column (cells_then column (cond b ((a + 1) ∷ filter test (after (a + 1) m)) (filter test (after (a + 1) m))) others) w
        ≡ slice_index w (cond (nat_lt (a + 1) row && b) 1 0 + rows_above row test (after (a + 1) m))
    by false (inl e) t w ih = let clash : true ≡ false = sym h ∙ ap test (sym e) ∙ t in cc
    by false (inr n) t w ih =
        ih (omega arith) w ∙ ap (slice_index w) (sym (zero-add (rows_above row test (after (a + 1) m)))
        ∙ ap (λ (b : Bool). cond b 1 0 + rows_above row test (after (a + 1) m)) (sym (and_right (nat_lt (a + 1) row) false refl)))
    by true c t [] ih = refl
    by true (inl e) t (x ∷ w) ih =
        cond-true ((a + 1 == row) && (column == column)) x _ (and_from (a + 1 == row) (column == column) (eq-eqb (a + 1) row e) (eq-eqb column column refl))
        ∙ ap (slice_index (x ∷ w)) (sym (ap (λ b. cond (b && true) 1 0 + rows_above row test (after (a + 1) m)) (le-ltb (a + 1) row (omega arith))
        ∙ zero-add (rows_above row test (after (a + 1) m)) ∙ rows_above-past row test (a + 1) m (omega arith)))
    by true (inr n) t (x ∷ w) ih =
        let far : a + 1 < row = omega arith in
        cond-false ((a + 1 == row) && (column == column)) x _ (ap (λ b. b && (column == column)) (ne_eqb (a + 1) row n))
        ∙ ih far w
        ∙ ap (slice_index (x ∷ w)) (sym (ap (λ b. cond (b && true) 1 0 + rows_above row test (after (a + 1) m)) (lt-ltb (a + 1) row far) ∙ one-add (rows_above row test (after (a + 1) m))))

moved : (long before above : ℕ) → long + (before + above) ≡ (before + (0 + long)) + above
moved long before above = omega arith

reverse-after : (k : ℕ) → reverse (after 0 (suc k)) ≡ suc k ∷ reverse (after 0 k)
reverse-after k =
    let long : suc k ≡ k + 1 = omega arith in
    let last : 0 + k + 1 ≡ suc k = omega arith in
    ap (λ n. reverse (after 0 n)) long ∙ ap reverse (sym (sym (after-more 0 k))) ∙ reverse-append (after 0 k) ((0 + k + 1) ∷ [])
    ∙ ap (λ n. n ∷ reverse (after 0 k)) last

module _ (outer inner : List ℕ) (row column : ℕ) (cell : IsCell outer inner row column) where
  -- the number of cells above the given cell in its column
  abbrev above : ℕ
  above = rows_above row (reaches outer inner column) (after 0 (rows outer))

  read_from : (k : ℕ) → column ≤ k → (w : List ℕ)
      → letter_of_cell row column (flat_map (column_cells outer inner) (reverse (after 0 k))) w
      ≡ slice_index w (sum_by (λ j. length (column_cells outer inner j)) (after column (k - column)) + above)
  read_from zero low w = let out = cell.outside in absurd (omega arith)
  read_from (suc k) low w =
      ap (λ js. letter_of_cell row column (flat_map (column_cells outer inner) js) w) (reverse-after k)
      ∙ by (cases_eq column (suc k)) (λ far. read_from k far)
    where
      others : List (ℕ × ℕ)
      others = flat_map (column_cells outer inner) (reverse (after 0 k))

      by : (column ≡ suc k) ⊎ (column ≢ suc k)
          → (column ≤ k → (v : List ℕ) → letter_of_cell row column (flat_map (column_cells outer inner) (reverse (after 0 k))) v
          ≡ slice_index v (sum_by (λ j. length (column_cells outer inner j)) (after column (k - column)) + above))
          → letter_of_cell row column (column_cells outer inner (suc k) ++ flat_map (column_cells outer inner) (reverse (after 0 k))) w
          ≡ slice_index w (sum_by (λ j. length (column_cells outer inner j)) (after column (suc k - column)) + above)
      by (inl e) ih =
          let none : suc k - column ≡ 0 = omega arith in
          ap (λ j. letter_of_cell row column (column_cells outer inner j ++ flat_map (column_cells outer inner) (reverse (after 0 k))) w) (sym e)
          ∙ in-column row column (reaches outer inner column) (flat_map (column_cells outer inner) (reverse (after 0 k))) 0 (rows outer) cell.row_counts (omega (arith, cell_row outer inner row column cell))
          (and_from _ _ (lt-ltb _ _ cell.outside) (le-leb _ _ cell.within)) w
          ∙ ap (slice_index w) (sym (ap (λ n. sum_by (λ j. length (column_cells outer inner j)) (after column n) + above) none ∙ zero-add above))
      by (inr n) ih =
          let more : suc k - column ≡ (k - column) + 1 = omega arith in
          let last : column + (k - column) + 1 ≡ suc k = omega arith in
          let long : ℕ = length (column_cells outer inner (suc k)) in
          let before : ℕ = sum_by (λ j. length (column_cells outer inner j)) (after column (k - column)) in
          letter-past row column (column_cells outer inner (suc k)) (flat_map (column_cells outer inner) (reverse (after 0 k))) w
          (not_in-column column (suc k) _ (λ e. n (sym e)))
          ∙ ih (omega arith) (drop long w)
          ∙ get_or-drop long w (before + above) 0
          ∙ ap (slice_index w) (moved long before above
          ∙ ap (λ n. n + above) (sym (ap (λ n. sum_by (λ j. length (column_cells outer inner j)) (after column n)) more
          ∙ ap (sum_by (λ j. length (column_cells outer inner j))) (sym (sym (after-more column (k - column))))
          ∙ sum_by-append (λ j. length (column_cells outer inner j)) (after column (k - column)) ((column + (k - column) + 1) ∷ [])
          ∙ ap (λ j. before + (0 + length (column_cells outer inner j))) last)))

-- ---- the number of cells in the columns right of a column, counted row by row

sum_by-none : {A : Type 0} (xs : List A) → sum_by (λ x. 0) xs ≡ 0
sum_by-none [] = refl
sum_by-none {A} (x ∷ xs) = sum_by-cons (λ (y : A). 0) x xs ∙ (zero-add (sum_by (λ (y : A). 0) xs) ∙ sum_by-none xs)

one_column : (left right c : ℕ) → cond (nat_lt left (c + 1) && nat_le (c + 1) right) 1 0 + (right - max left (c + 1)) ≡ right - max left c
one_column left right c = grind (arith, nat_tests)

module _ (outer inner : List ℕ) where
  -- the number of cells of outer/inner in the columns right of column c
  abbrev right_of : ℕ → ℕ
  right_of c = sum_by (λ i. part outer i - max (part inner i) c) (after 0 (rows outer))

  column_long : (c : ℕ) → length (column_cells outer inner (c + 1)) + right_of (c + 1) ≡ right_of c
  column_long c =
      ap (λ n. n + right_of (c + 1))
      (length-map (filter (reaches outer inner (c + 1)) (after 0 (rows outer))) (λ (i : ℕ). (i, c + 1)) ∙ length-filter (reaches outer inner (c + 1)) (after 0 (rows outer)))
      ∙ sym (sum_by-add (λ i. cond (reaches outer inner (c + 1) i) 1 0) (λ i. part outer i - max (part inner i) (c + 1)) (after 0 (rows outer)))
      ∙ sum_by-ext _ _ (after 0 (rows outer)) (λ i. one_column (part inner i) (part outer i) c)

  columns_long : (m c : ℕ) → ((i : ℕ) → part outer i ≤ c + m) → sum_by (λ j. length (column_cells outer inner j)) (after c m) ≡ right_of c
  columns_long zero c most =
      sym (sum_by-ext (λ i. part outer i - max (part inner i) c) (λ i. 0) (after 0 (rows outer)) (λ i. let h = most i in omega arith)
      ∙ sum_by-none (after 0 (rows outer)))
  columns_long (suc m) c most =
      sum_by-cons (λ j. length (column_cells outer inner j)) (c + 1) (after (c + 1) m)
      ∙ ap (λ n. length (column_cells outer inner (c + 1)) + n) (columns_long m (c + 1) (λ i. let h = most i in omega arith)) ∙ column_long c

first_greatest : (parts : List ℕ) → Falls parts → (k : ℕ) → slice_index parts k ≤ slice_index parts 0
first_greatest [] falls k = omega arith
first_greatest (a ∷ []) falls zero = omega arith
first_greatest (a ∷ []) falls (suc k) = omega arith
first_greatest (a ∷ b ∷ parts) falls zero = omega arith
first_greatest (a ∷ b ∷ parts) falls (suc k) = let h = first_greatest (b ∷ parts) falls.1 k in omega (arith, falls.0)

-- if outer is weakly decreasing, the letter of a cell in a column reading w is at the index given by the number of cells that come before it
-- (`cells_before`)
pub letter-is : (outer inner : List ℕ) (row column : ℕ) → Falls outer → IsCell outer inner row column → (w : List ℕ)
    → slice_index w (cells_before outer inner row column) ≡ letter_of_cell row column (reading_cells outer inner) w
letter-is outer inner row column falls cell w =
    let most : column ≤ columns outer = (let h = first_greatest outer falls (row - 1) in let k = cell.within in omega arith) in
    let every : (i : ℕ) → part outer i ≤ column + (columns outer - column) = (λ i. let h = first_greatest outer falls (i - 1) in omega arith) in
    sym (read_from outer inner row column cell (columns outer) most w
    ∙ ap (slice_index w) (ap (λ n. n + above outer inner row column cell) (columns_long outer inner (columns outer - column) column every)
    ∙ sym (sum_by-add (λ i. part outer i - max (part inner i) column) (λ i. cond (nat_lt i row && reaches outer inner column i) 1 0) (after 0 (rows outer)))))

-- ---- the filling with the column reading 0, 1, 2, ..: the number in each cell is the index of its letter in a column reading

before-few : (left right column : ℕ) (is_above : Bool) → before_in_row left right column is_above ≤ right
before-few left right column false = grind (arith, nat_tests)
before-few left right column true = grind (arith, nat_tests)

sum_by-size : (f : ℕ → ℕ) (xs : List ℕ) → sum_by f xs ≡ size (map f xs)
sum_by-size f [] = refl
sum_by-size f (x ∷ xs) = sum_by-cons f x xs ∙ ap (λ n. f x + n) (sum_by-size f xs)

-- the number of cells in the rows 1 to at + 1 that come before a given cell is the number for the rows 1 to `at` plus the number for the row at + 1
pub cells_in_rows-more : (outer inner : List ℕ) (row column at : ℕ)
    → cells_in_rows outer inner row column (after 0 at) + before_in_row (part inner (at + 1)) (part outer (at + 1)) column (nat_lt (at + 1) row)
    ≡ cells_in_rows outer inner row column (after 0 (at + 1))
cells_in_rows-more outer inner row column at =
    let count : ℕ → ℕ = λ i. before_in_row (part inner i) (part outer i) column (nat_lt i row) in
    let so_far : ℕ = cells_in_rows outer inner row column (after 0 at) in
    let here : at + 1 ≡ 0 + at + 1 = omega arith in
    ap (λ n. so_far + n) (sym (zero-add (count (at + 1)))) ∙ ap (λ i. so_far + (0 + count i)) here
    ∙ sym (sum_by-append count (after 0 at) ((0 + at + 1) ∷ [])) ∙ ap (sum_by count) (sym (after-more 0 at))

before-within : (outer inner : List ℕ) (row column : ℕ) → cells_before outer inner row column ≤ size outer
before-within outer inner row column =
    let most = sum_by-le-sum_by (λ i. before_in_row (part inner i) (part outer i) column (nat_lt i row)) (part outer) (after 0 (rows outer))
    (λ i. before-few (part inner i) (part outer i) column (nat_lt i row)) in
    omega (arith, most, sum_by-size (part outer) (after 0 (rows outer)) ∙ ap size (parts-told outer))

-- if outer is weakly decreasing, the filling with the column reading 0, 1, 2, .. has in each cell the index of its letter in a column reading
pub places-told : (outer inner numbers : List ℕ) → Falls outer → ((i : ℕ) → i < size outer + 1 → slice_index numbers i ≡ i)
    → HasReadingPlaces (filled_with outer inner numbers)
places-told outer inner numbers falls count = record {
  letters = λ row column cell w.
      let before = cells_before outer inner row column in
      let few = before-within outer inner row column in
      ap (slice_index w) (letter-rows_by (λ i j. letter_of_cell i j (reading_cells outer inner) numbers) outer inner row column cell
      ∙ sym (letter-is outer inner row column falls cell numbers) ∙ count before (omega (arith, few)))
      ∙ letter-is outer inner row column falls cell w;
}
