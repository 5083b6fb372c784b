-- The cells of a skew shape in the order of the column reading: each occurs once, and gets one letter of a word.
use Rattle.std.proofs.Common.{◌≡◌, ◌⊎◌, ℕ, ◌+◌, ◌-◌, ◌≤◌, true, false, ◌&&◌, ◌==◌, cond, leb, ltb, List, [], ◌∷◌, ◌++◌, map, length, take, reverse, ◌∙◌, ap, ap₂, sym, refl, subst, inl, inr, arith, append-nil, length-append, filter, flat_map}
use Rattle.std.proofs.lemmas.Bool.{cases_eq, eq-eqb, ne_eqb, and_from, lt-ltb, le-leb}
use Rattle.std.proofs.lemmas.List.{reverse-append, take_all}
use Rattle.sym_model.specs.Sum.{Among, Once}
use Rattle.sym_model.specs.Partition.{IsCell, Falls, part, rows, columns, after, cells, row_cells}
use Rattle.sym_model.specs.GoodTableau.{reading_right_of, column_reading}
use Rattle.sym_model.specs.TableauList.{column_cells, reading_cells, letter_of_cell, filling_of}
use Rattle.sym_model.proofs.Sums.{Among-map, Among_from_map, Among-each, Among_from_each, Among-select, Among_from_select, Once-map, Once-select, Once-append, Once-each, length_within, among_reverse, Among-append_left}
use Rattle.sym_model.proofs.AfterLists.{after_among, among_after, once_after, after-append}
use Rattle.sym_model.proofs.Lists.{map-among}
use Rattle.strip_laws.proofs.Strips.{falls_far}
use Rattle.skew_shapes.specs.Rows.{reaches, cells_right_of, rows_by}
use Rattle.skew_shapes.proofs.CellReadings.{each-cells, reading-rows_by}
use Rattle.skew_shapes.proofs.CellRows.{cell_row, rows_by-ext}
use Rattle.skew_shapes.proofs.KeptRows.{is_cell-tells}
use Rattle.std.proofs.lemmas.Grind.{flat_map-append}

-- ---- the cells in reading order are the cells of outer/inner, each once

pub Among-reversed : (x : ℕ) (xs : List ℕ) → Among x xs → Among x (reverse xs)
Among-reversed x [] m = elim m [ ]
Among-reversed x (y ∷ xs) m = subst (Among x) (sym (reverse-append (y ∷ []) xs)) (by m (λ n. Among-reversed x xs n))
  where
    push : (ys : List ℕ) → Among x ys → Among x (ys ++ y ∷ [])
    push [] m = elim m [ ]
    push (z ∷ ys) (inl e) = inl e
    push (z ∷ ys) (inr n) = inr (push ys n)

    last : (ys : List ℕ) → x ≡ y → Among x (ys ++ y ∷ [])
    last [] e = inl e
    last (z ∷ ys) e = inr (last ys e)

    by : (x ≡ y) ⊎ Among x xs → (Among x xs → Among x (reverse xs)) → Among x (reverse xs ++ y ∷ [])
    by (inl e) r = last (reverse xs) e
    by (inr n) r = push (reverse xs) (r n)

Once-reverse : (xs : List ℕ) → Once xs → Once (reverse xs)
Once-reverse [] o = tt
Once-reverse (x ∷ xs) o =
    subst Once (sym (reverse-append (x ∷ []) xs))
    (Once-append (reverse xs) (x ∷ []) (Once-reverse xs o.1) ((λ m. m), tt)
    (λ z m n. by z n m))
  where
    by : (z : ℕ) → (z ≡ x) ⊎ ⊥ → Among z (reverse xs) → ⊥
    by z (inl e) m = o.0 (subst (λ y. Among y xs) e (among_reverse z xs m))
    by z (inr n) m = n

column_cell : (outer inner : List ℕ) (j : ℕ) (c : ℕ × ℕ) → Among c (column_cells outer inner j) → IsCell outer inner c.0 c.1 × (c.1 ≡ j)
column_cell outer inner j c m =
    let found = Among_from_map {B = ℕ × ℕ} (λ i. (i, j)) c (filter (reaches outer inner j) (after 0 (rows outer))) m in
    let row = Among_from_select (reaches outer inner j) found.0 (after 0 (rows outer)) found.1 in
    let past = after_among 0 (rows outer) found.0 row.0 in
    let cell = is_cell-tells outer inner found.0 j (and_from (leb 1 found.0) (reaches outer inner j found.0) (le-leb 1 found.0 (omega (arith, past.0))) row.1) in
    let i : found.0 ≡ c.0 = ap (λ (d : ℕ × ℕ). d.0) (sym found.2) in
    let k : j ≡ c.1 = ap (λ (d : ℕ × ℕ). d.1) (sym found.2) in
    (subst (λ r. IsCell outer inner r c.1) i (subst (IsCell outer inner found.0) k cell), sym k)

pub reading_cell : (outer inner : List ℕ) (c : ℕ × ℕ) → Among c (reading_cells outer inner) → IsCell outer inner c.0 c.1
reading_cell outer inner c m =
    let found = Among_from_each (column_cells outer inner) c (reverse (after 0 (columns outer))) m in
    (column_cell outer inner found.0 c found.2).0

pub columns_far : (outer : List ℕ) (i : ℕ) → Falls outer → 1 ≤ i → part outer i ≤ columns outer
columns_far outer i f h = falls_far outer f 1 i (omega arith) h

pub Among-reading :
    (outer inner : List ℕ) (i j : ℕ) → Falls outer → IsCell outer inner i j → Among (i, j) (reading_cells outer inner)
Among-reading outer inner i j f c =
    let a = c.row_counts in
    let b = c.outside in
    let d = c.within in
    let wide = columns_far outer i f a in
    let column : Among j (reverse (after 0 (columns outer))) =
    Among-reversed j (after 0 (columns outer)) (among_after 0 (columns outer) j (omega arith) (omega arith)) in
    let row : Among i (after 0 (rows outer)) = among_after 0 (rows outer) i (omega arith) (omega (arith, cell_row outer inner i j c)) in
    let reached = and_from (ltb (part inner i) j) (leb j (part outer i)) (lt-ltb (part inner i) j b) (le-leb j (part outer i) d) in
    Among-each (column_cells outer inner) j (i, j) (reverse (after 0 (columns outer))) column
    (Among-map {B = ℕ × ℕ} (λ r. (r, j)) i (filter (reaches outer inner j) (after 0 (rows outer)))
    (Among-select (reaches outer inner j) i (after 0 (rows outer)) row reached))

pub Once-reading : (outer inner : List ℕ) → Once (reading_cells outer inner)
Once-reading outer inner =
    Once-each (column_cells outer inner) (reverse (after 0 (columns outer))) (Once-reverse (after 0 (columns outer)) (once_after 0 (columns outer)))
    (λ j m.
    Once-map {B = ℕ × ℕ} (λ i. (i, j)) (filter (reaches outer inner j) (after 0 (rows outer)))
    (λ x y p q e. ap (λ (c : ℕ × ℕ). c.0) e) (Once-select (reaches outer inner j) (after 0 (rows outer)) (once_after 0 (rows outer))))
    (λ x z c m n p q. sym (column_cell outer inner x c p).1 ∙ (column_cell outer inner z c q).1)

pub row_cell : (outer inner : List ℕ) (c : ℕ × ℕ) → Among c (cells outer inner) → IsCell outer inner c.0 c.1
row_cell outer inner c m =
    let found = Among_from_each (row_cells outer inner) c (after 0 (rows outer)) m in
    let i = found.0 in
    let inside = Among_from_map {B = ℕ × ℕ} (λ j. (i, j)) c (after (part inner i) (part outer i - part inner i)) found.2 in
    let past = after_among (part inner i) (part outer i - part inner i) inside.0 inside.1 in
    let row = after_among 0 (rows outer) i found.1 in
    let cell : IsCell outer inner found.0 inside.0 = record { row_counts = omega (arith, row.0); outside = past.0; within = omega (arith, past.0, past.1) } in
    let r : found.0 ≡ c.0 = ap (λ (d : ℕ × ℕ). d.0) (sym inside.2) in
    let k : inside.0 ≡ c.1 = ap (λ (d : ℕ × ℕ). d.1) (sym inside.2) in
    subst (λ n. IsCell outer inner n c.1) r (subst (IsCell outer inner found.0) k cell)

pub Among-cells : (outer inner : List ℕ) (i j : ℕ) → IsCell outer inner i j → Among (i, j) (cells outer inner)
Among-cells outer inner i j c =
    let a = c.row_counts in
    let b = c.outside in
    let d = c.within in
    Among-each (row_cells outer inner) i (i, j) (after 0 (rows outer))
    (among_after 0 (rows outer) i (omega arith) (omega (arith, cell_row outer inner i j c)))
    (Among-map {B = ℕ × ℕ} (λ k. (i, k)) j (after (part inner i) (part outer i - part inner i))
    (among_after (part inner i) (part outer i - part inner i) j b (omega arith)))

pub Once-cells : (outer inner : List ℕ) → Once (cells outer inner)
Once-cells outer inner =
    Once-each (row_cells outer inner) (after 0 (rows outer)) (once_after 0 (rows outer))
    (λ i m.
    Once-map {B = ℕ × ℕ} (λ j. (i, j)) (after (part inner i) (part outer i - part inner i))
    (λ x y p q e. ap (λ (c : ℕ × ℕ). c.1) e) (once_after (part inner i) (part outer i - part inner i)))
    (λ x z c m n p q. sym (row_is x c p) ∙ row_is z c q)
  where
    row_is : (i : ℕ) (c : ℕ × ℕ) → Among c (row_cells outer inner i) → c.0 ≡ i
    row_is i c m =
        let inside = Among_from_map {B = ℕ × ℕ} (λ j. (i, j)) c (after (part inner i) (part outer i - part inner i)) m in
        ap (λ (d : ℕ × ℕ). d.0) inside.2

pub length-reading : (outer inner : List ℕ) → Falls outer → length (reading_cells outer inner) ≡ length (cells outer inner)
length-reading outer inner f =
    let less = length_within (cells outer inner) (reading_cells outer inner) (Once-reading outer inner)
    (λ c m. Among-cells outer inner c.0 c.1 (reading_cell outer inner c m)) in
    let more = length_within (reading_cells outer inner) (cells outer inner) (Once-cells outer inner)
    (λ c m. Among-reading outer inner c.0 c.1 f (row_cell outer inner c m)) in
    omega (arith, less, more)

-- ---- the letters of a word in the cells of a list without repeats

other_cell : (c d : ℕ × ℕ) → (d ≡ c → ⊥) → ((c.0 == d.0) && (c.1 == d.1)) ≡ false
other_cell c d n = elim (cases_eq c.0 d.0) [
  | inr m ↦ ap (λ b. b && (c.1 == d.1)) (ne_eqb c.0 d.0 m)
  | inl e ↦
      ap (λ b. b && (c.1 == d.1)) (eq-eqb c.0 d.0 e)
      ∙ ne_eqb c.1 d.1 (λ f. n (ap₂ {C = ℕ × ℕ} (λ x y. (x, y)) (sym e) (sym f)))
]

same_cell : (c : ℕ × ℕ) → ((c.0 == c.0) && (c.1 == c.1)) ≡ true
same_cell c = ap₂ (λ a b. a && b) (eq-eqb c.0 c.0 refl) (eq-eqb c.1 c.1 refl)

-- let the cells of front ++ back be listed once each, and w have at least as many letters as `front` has cells: if the letters of w are written into
-- these cells one after another, the letters in the cells of `front` are the first letters of w
pub letters-front :
    (front back : List (ℕ × ℕ)) (w : List ℕ) → Once (front ++ back) → length front ≤ length w
    → map (λ (c : ℕ × ℕ). letter_of_cell c.0 c.1 (front ++ back) w) front ≡ take (length front) w
letters-front [] back w o h = refl
letters-front (c ∷ front) back [] o h = absurd (omega arith)
letters-front (c ∷ front) back (a ∷ w) o h =
    ap₂ ◌∷◌ (ap (λ b. cond b a (letter_of_cell c.0 c.1 (front ++ back) w)) (same_cell c))
    (map-among (λ (d : ℕ × ℕ). letter_of_cell d.0 d.1 (c ∷ (front ++ back)) (a ∷ w)) (λ (d : ℕ × ℕ). letter_of_cell d.0 d.1 (front ++ back) w) front
    (λ d m.
    ap (λ b. cond b a (letter_of_cell d.0 d.1 (front ++ back) w))
    (other_cell c d (λ e. o.0 (subst (λ x. Among x (front ++ back)) e (Among-append_left d front back m)))))
    ∙ letters-front front back w o.1 (omega arith))

-- if c is a listed cell, and the word has the letters f(d) for the listed cells d in the order of the list, then the letter of the cell c is f(c)
pub letter-read : (f : ℕ → ℕ → ℕ) (cells : List (ℕ × ℕ)) (c : ℕ × ℕ) → Among c cells → letter_of_cell c.0 c.1 cells (map (λ (d : ℕ × ℕ). f d.0 d.1) cells) ≡ f c.0 c.1
letter-read f [] c m = elim m [ ]
letter-read f (d ∷ cells) c m = elim (cases_eq d.0 c.0) [
  | inl e ↦ elim (cases_eq d.1 c.1) [
    | inl g ↦
        ap (λ b. cond b (f d.0 d.1) (letter_of_cell c.0 c.1 cells (map (λ (d : ℕ × ℕ). f d.0 d.1) cells)))
        (ap₂ (λ a b. a && b) (eq-eqb d.0 c.0 e) (eq-eqb d.1 c.1 g))
        ∙ ap₂ f e g
    | inr n ↦ later (λ h. n (sym (ap (λ (x : ℕ × ℕ). x.1) h))) m (λ n. letter-read f cells c n)
  ]
  | inr n ↦ later (λ h. n (sym (ap (λ (x : ℕ × ℕ). x.0) h))) m (λ n. letter-read f cells c n)
]
  where
    later : (c ≡ d → ⊥) → (c ≡ d) ⊎ Among c cells → (Among c cells → letter_of_cell c.0 c.1 cells (map (λ (d : ℕ × ℕ). f d.0 d.1) cells) ≡ f c.0 c.1)
        → cond ((d.0 == c.0) && (d.1 == c.1)) (f d.0 d.1) (letter_of_cell c.0 c.1 cells (map (λ (d : ℕ × ℕ). f d.0 d.1) cells)) ≡ f c.0 c.1
    later n (inl e) r = absurd (n e)
    later n (inr k) r =
        ap (λ b. cond b (f d.0 d.1) (letter_of_cell c.0 c.1 cells (map (λ (d : ℕ × ℕ). f d.0 d.1) cells))) (other_cell d c n) ∙ r k

-- ---- the reading of the columns right of a given column is a prefix of the whole reading

pub reading_split :
    (outer inner : List ℕ) (j : ℕ) → j ≤ columns outer
    → reading_cells outer inner ≡ cells_right_of outer inner j ++ flat_map (column_cells outer inner) (reverse (after 0 j))
reading_split outer inner j h =
    let e : columns outer ≡ j + (columns outer - j) = omega arith in
    let f : 0 + j ≡ j = omega arith in
    ap (λ n. flat_map (column_cells outer inner) (reverse (after 0 n))) e
    ∙ ap (λ l. flat_map (column_cells outer inner) (reverse l)) (after-append 0 j (columns outer - j) ∙ ap (λ x. after 0 j ++ after x (columns outer - j)) f)
    ∙ ap (flat_map (column_cells outer inner)) (reverse-append (after 0 j) (after j (columns outer - j)))
    ∙ flat_map-append (column_cells outer inner) (reverse (after j (columns outer - j))) (reverse (after 0 j))

-- in the filling of outer/inner with the reading w, the reading of the columns right of column j is the prefix of w whose length is the number of
-- cells of these columns
pub reading-prefix :
    (outer inner w : List ℕ) (j : ℕ) → j ≤ columns outer → length w ≡ length (reading_cells outer inner)
    → reading_right_of j outer inner (filling_of outer inner w) ≡ take (length (cells_right_of outer inner j)) w
reading-prefix outer inner w j h l =
    let right = cells_right_of outer inner j in
    let rest = flat_map (column_cells outer inner) (reverse (after 0 j)) in
    let split = reading_split outer inner j h in
    let few : length right ≤ length w =
    omega (arith, ap (λ (cells : List (ℕ × ℕ)). length cells) split, length-append right rest) in
    each-cells (λ row column. letter_of_cell row column (reading_cells outer inner) w) outer inner (reverse (after j (columns outer - j)))
    ∙ ap (λ (cells : List (ℕ × ℕ)). map (λ (c : ℕ × ℕ). letter_of_cell c.0 c.1 cells w) right) split
    ∙ letters-front right rest w (subst (λ (cells : List (ℕ × ℕ)). Once cells) split (Once-reading outer inner)) few

pub reading-whole :
    (outer inner w : List ℕ) → length w ≡ length (reading_cells outer inner) → column_reading outer inner (filling_of outer inner w) ≡ w
reading-whole outer inner w l =
    let cells = reading_cells outer inner in
    let all : reading_cells outer inner ++ [] ≡ reading_cells outer inner = append-nil cells in
    let few : length cells ≤ length w = omega arith in
    reading-rows_by (λ row column. letter_of_cell row column (reading_cells outer inner) w) outer inner
    ∙ ap (λ (cells : List (ℕ × ℕ)). map (λ (c : ℕ × ℕ). letter_of_cell c.0 c.1 cells w) (reading_cells outer inner)) (sym all)
    ∙ letters-front cells [] w (subst (λ (cells : List (ℕ × ℕ)). Once cells) (sym all) (Once-reading outer inner)) few
    ∙ take_all (length cells) w (omega arith)

-- the filling of outer/inner that has f(row, column) in each cell is the filling of its own column reading
pub filling_of-reading :
    (f : ℕ → ℕ → ℕ) (outer inner : List ℕ) → Falls outer
    → filling_of outer inner (column_reading outer inner (rows_by f outer inner)) ≡ rows_by f outer inner
filling_of-reading f outer inner h =
    ap (filling_of outer inner) (reading-rows_by f outer inner)
    ∙ rows_by-ext (λ row column. letter_of_cell row column (reading_cells outer inner) (map (λ (d : ℕ × ℕ). f d.0 d.1) (reading_cells outer inner))) f outer inner
    (λ row column c. letter-read f (reading_cells outer inner) (row, column) (Among-reading outer inner row column h c))
