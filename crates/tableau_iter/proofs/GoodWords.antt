-- A word with letters from 1 to k is the column reading of a tableau that is good for a partition `start` if and only if its filling is a tableau and
-- passes `is_good`.
use Rattle.std.proofs.Common.{◌≡◌, ◌⊎◌, ℕ, zero, suc, ◌+◌, ◌-◌, ◌<◌, ◌≤◌, Bool, true, false, ◌&&◌, ◌==◌, cond, List, [], ◌∷◌, map, length, get_or, ◌∙◌, ap, ap₂, sym, refl, subst, inl, inr, arith, filter}
use Rattle.std.proofs.lemmas.Bool.{and_parts, le-leb, eq-eqb, true≢false}
use Rattle.std.proofs.lemmas.List.{length-map}
use Rattle.sym_model.specs.Sum.{Among}
use Rattle.sym_model.specs.Partition.{IsCell, Falls, part, rows, after, cells}
use Rattle.sym_model.specs.Schur.{words, row_lengths, fillings_of, semistandard, contains, tableaux, letters_of}
use Rattle.sym_model.specs.GoodTableau.{column_reading, is_among, is_good, good_tableaux}
use Rattle.sym_model.specs.Tableau.{are_letters}
use Rattle.sym_model.specs.TableauList.{reading_cells, letter_of_cell, filling_of}
use Rattle.sym_model.proofs.Exponents.{tests_agree}
use Rattle.sym_model.proofs.Sums.{Among-map, Among_from_map, Among-each, Among_from_each, Among-select, Among_from_select}
use Rattle.sym_model.proofs.AfterLists.{among_after, length_after}
use Rattle.sym_model.proofs.Tableaux.{are_letters-append, word_tells}
use Rattle.skew_shapes.specs.CellFillings.{filled_with, is_tableau}
use Rattle.skew_shapes.specs.Rows.{row_by, rows_by}
use Rattle.skew_shapes.proofs.CellRows.{lengths-rows_by, map_after-at}
use Rattle.tableau_laws.proofs.GoodReadings.{is_among-from, is_among-tells}
use Rattle.tableau_iter.proofs.Orders.{Among-reading, length-reading, reading-whole, filling_of-reading}
use Rattle.sym_model.specs.Bounded.{AreLetters}
use Rattle.std.proofs.Math.Bool.{and-true}
use Rattle.sym_model.proofs.Lists.{length-at}

-- ---- fillings with letters from 1 to n (`RowsWithin`), and the list `fillings_of` of all of them

abbrev pub RowsWithin : ℕ → List (List ℕ) → Type 0
RowsWithin n [] = Unit {0}
RowsWithin n (row ∷ rows) = AreLetters n row × RowsWithin n rows

pub word_from : (n k : ℕ) (w : List ℕ) → length w ≡ k → AreLetters n w → Among w (words n k)
word_from n zero [] l h = inl refl
word_from n (suc k) [] l h = absurd (omega arith)
word_from n zero (a ∷ w) l h = absurd (omega arith)
word_from n (suc k) (a ∷ w) l h =
    Among-each (λ a. map (λ v. a ∷ v) (words n k)) a (a ∷ w) (after 0 n) (among_after 0 n a (omega (arith, h.0.0)) (omega (arith, h.0.1)))
    (Among-map (λ v. a ∷ v) w (words n k) (word_from n k w (omega arith) h.1))

filling_tells : (n : ℕ) (lengths : List ℕ) (T : List (List ℕ)) → Among T (fillings_of n lengths) → (map length T ≡ lengths) × RowsWithin n T
filling_tells n [] T (inl e) = (ap (map length) e, subst (RowsWithin n) (sym e) tt)
filling_tells n [] T (inr m) = absurd m
filling_tells n (k ∷ lengths) T m =
    let found = Among_from_each (λ row. map (λ rest. row ∷ rest) (fillings_of n lengths)) T (words n k) m in
    let row = word_tells n k found.0 found.1 in
    let tail = Among_from_map (λ rest. found.0 ∷ rest) T (fillings_of n lengths) found.2 in
    let rest = filling_tells n lengths tail.0 tail.1 in
    (ap (map length) tail.2 ∙ ap₂ ◌∷◌ row.0 rest.0, subst (RowsWithin n) (sym tail.2) (row.1, rest.1))

filling_from : (n : ℕ) (lengths : List ℕ) (T : List (List ℕ)) → map length T ≡ lengths → RowsWithin n T → Among T (fillings_of n lengths)
filling_from n [] [] l h = inl refl
filling_from n (k ∷ lengths) [] l h = absurd (cc)
filling_from n [] (row ∷ T) l h = absurd (cc)
filling_from n (k ∷ lengths) (row ∷ T) l h =
    let first : length row ≡ k = cc in
    let others : map length T ≡ lengths = cc in
    Among-each (λ row. map (λ rest. row ∷ rest) (fillings_of n lengths)) row (row ∷ T) (words n k) (word_from n k row first h.0)
    (Among-map (λ rest. row ∷ rest) T (fillings_of n lengths) (filling_from n lengths T others h.1))

letter_within : (n i j : ℕ) (cells : List (ℕ × ℕ)) (w : List ℕ) → length w ≡ length cells → AreLetters n w → Among (i, j) cells → (1 ≤ letter_of_cell i j cells w) × (letter_of_cell i j cells w ≤ n)
letter_within n i j [] w l h m = absurd m
letter_within n i j (c ∷ cells) [] l h m = absurd (omega arith)
letter_within n i j (c ∷ cells) (a ∷ w) l h m =
    by ((c.0 == i) && (c.1 == j)) refl m (λ k. letter_within n i j cells w (omega arith) h.1 k)
  where
    by : (b : Bool) → ((c.0 == i) && (c.1 == j)) ≡ b → ((i, j) ≡ c) ⊎ Among (i, j) cells
        → (Among (i, j) cells → (1 ≤ letter_of_cell i j cells w) × (letter_of_cell i j cells w ≤ n))
        → (1 ≤ cond b a (letter_of_cell i j cells w)) × (cond b a (letter_of_cell i j cells w) ≤ n)
    by true e m r = h.0
    by false e (inl s) r =
        let first : c.0 ≡ i = ap (λ (d : ℕ × ℕ). d.0) (sym s) in
        let second : c.1 ≡ j = ap (λ (d : ℕ × ℕ). d.1) (sym s) in
        absurd (true≢false (sym (ap₂ (λ x y. x && y) (eq-eqb c.0 i first) (eq-eqb c.1 j second)) ∙ e))
    by false e (inr k) r = r k

row_within : (n : ℕ) (g : ℕ → ℕ) (a k : ℕ) → ((j : ℕ) → a < j → j ≤ a + k → (1 ≤ g j) × (g j ≤ n)) → AreLetters n (map g (after a k))
row_within n g a zero h = tt
row_within n g a (suc k) h = (h (a + 1) (omega arith) (omega arith), row_within n g (a + 1) k (λ j l m. h j (omega arith) (omega arith)))

rows_within : (n : ℕ) (g : ℕ → List ℕ) (a k : ℕ) → ((i : ℕ) → a < i → AreLetters n (g i)) → RowsWithin n (map g (after a k))
rows_within n g a zero h = tt
rows_within n g a (suc k) h = (h (a + 1) (omega arith), rows_within n g (a + 1) k (λ i l. h i (omega arith)))

pub filling-within : (n : ℕ) (outer inner w : List ℕ) → Falls outer → length w ≡ length (reading_cells outer inner) → AreLetters n w → RowsWithin n (filling_of outer inner w)
filling-within n outer inner w f l h =
    let g : ℕ → ℕ → ℕ = λ row column. letter_of_cell row column (reading_cells outer inner) w in
    rows_within n (row_by g outer inner) 0 (length outer)
    (λ i p.
    row_within n (g i) (part inner i) (part outer i - part inner i)
    (λ j q r.
    let cell : IsCell outer inner i j = record { row_counts = omega arith; outside = q; within = omega arith } in
    letter_within n i j (reading_cells outer inner) w l h (Among-reading outer inner i j f cell)))

pub list_by : {B : Type 0} (xs : List B) (g : ℕ → B) (a n : ℕ) (d : B) → length xs ≡ n → ((i : ℕ) → i < n → get_or xs i d ≡ g (a + i + 1)) → xs ≡ map g (after a n)
list_by [] g a zero d l h = refl
list_by [] g a (suc n) d l h = absurd (omega arith)
list_by (x ∷ xs) g a zero d l h = absurd (omega arith)
list_by (x ∷ xs) g a (suc n) d l h =
    ap₂ ◌∷◌ (h 0 (omega arith) ∙ ap g (omega arith))
    (list_by xs g (a + 1) n d (omega arith) (λ i m. h (suc i) (omega arith) ∙ ap g (omega arith)))

-- the letter in the cell (row, column) of the filling T with the given inner partition
abbrev pub letter_of : List ℕ → List (List ℕ) → ℕ → ℕ → ℕ
letter_of inner T row column = get_or (get_or T (row - 1) []) (column - (part inner row + 1)) 0

pub rows-by_cells :
    (outer inner : List ℕ) (T : List (List ℕ)) → map length T ≡ row_lengths outer inner → T ≡ rows_by (letter_of inner T) outer inner
rows-by_cells outer inner T l =
    let f = letter_of inner T in
    let count : length T ≡ length outer =
    sym (length-map T length) ∙ ap length (l ∙ sym (lengths-rows_by f outer inner)) ∙ length-map (rows_by f outer inner) length
    ∙ length-map (after 0 (length outer)) (row_by f outer inner) ∙ length_after 0 (length outer) in
    list_by T (row_by f outer inner) 0 (length outer) [] count
    (λ i h.
    let p = part inner (0 + i + 1) in
    let o = part outer (0 + i + 1) in
    let this : i ≡ 0 + i + 1 - 1 = omega arith in
    let long : length (get_or T i []) ≡ part outer (0 + i + 1) - part inner (0 + i + 1) =
    length-at T i ∙ ap (λ xs. get_or xs i 0) (l ∙ sym (lengths-rows_by f outer inner)) ∙ sym (length-at (rows_by f outer inner) i)
    ∙ ap length (map_after-at (row_by f outer inner) 0 (length outer) i [] h)
    ∙ length-map (after p (o - p)) (f (0 + i + 1)) ∙ length_after p (o - p) in
    list_by (get_or T i []) (f (0 + i + 1)) (part inner (0 + i + 1)) (part outer (0 + i + 1) - part inner (0 + i + 1)) 0 long
    (λ j m.
    let place : j ≡ part inner (0 + i + 1) + j + 1 - (part inner (0 + i + 1) + 1) = omega arith in
    ap₂ (λ r k. get_or (get_or T r []) k 0) this place))

-- ---- membership of a word in the list of the readings of tableaux

letters_positive : (n : ℕ) (w : List ℕ) → AreLetters n w → are_letters w ≡ true
letters_positive n [] h = refl
letters_positive n (a ∷ w) h = ap₂ (λ x y. x && y) (le-leb 1 a h.0.0) (letters_positive n w h.1)

rows_positive : (n : ℕ) (rows : List (List ℕ)) → RowsWithin n rows → are_letters (letters_of rows) ≡ true
rows_positive n [] h = refl
rows_positive n (row ∷ rows) h = are_letters-append row (letters_of rows) (letters_positive n row h.0) (rows_positive n rows h.1)

pub select-among : (test other : List ℕ → Bool) (xs : List (List ℕ)) → ((x : List ℕ) → Among x xs → test x ≡ other x) → filter test xs ≡ filter other xs
select-among test other [] h = refl
select-among test other (x ∷ xs) h = ap₂ (λ b l. cond b (x ∷ l) l) (h x (inl refl)) (select-among test other xs (λ y m. h y (inr m)))

selected-listed :
    (k : ℕ) (test : List (List ℕ) → Bool) (outer inner w : List ℕ) → Falls outer → contains outer inner ≡ true
    → Among w (words k (length (cells outer inner)))
    → is_among w (map (column_reading outer inner) (filter test (tableaux k outer inner))) ≡ (is_tableau (filled_with outer inner w) && test (filling_of outer inner w))
selected-listed k test outer inner w f holds m =
    let readings = map (column_reading outer inner) (filter test (tableaux k outer inner)) in
    let all = filter (semistandard inner) (fillings_of k (row_lengths outer inner)) in
    let tableaux_are : tableaux k outer inner ≡ filter (semistandard inner) (fillings_of k (row_lengths outer inner)) =
    ap (λ b. cond b all []) holds in
    let word = word_tells k (length (cells outer inner)) w m in
    let long : length w ≡ length (reading_cells outer inner) = word.0 ∙ sym (length-reading outer inner f) in
    let T = filling_of outer inner w in
    tests_agree (is_among w readings) (is_tableau (filled_with outer inner w) && test T)
    (λ e.
    let found = Among_from_map (column_reading outer inner) w (filter test (tableaux k outer inner)) (is_among-tells w readings e) in
    let S = found.0 in
    let good = Among_from_select test S (tableaux k outer inner) found.1 in
    let tableau = Among_from_select (semistandard inner) S (fillings_of k (row_lengths outer inner)) (subst (Among S) tableaux_are good.0) in
    let shape = filling_tells k (row_lengths outer inner) S tableau.0 in
    let same : filling_of outer inner w ≡ found.0 =
    ap (filling_of outer inner) (found.2 ∙ ap (column_reading outer inner) (rows-by_cells outer inner S shape.0))
    ∙ filling_of-reading (letter_of inner S) outer inner f ∙ sym (rows-by_cells outer inner S shape.0) in
    ap (λ X. (are_letters (letters_of X) && semistandard inner X) && test X) same
    ∙ ap₂ (λ a b. (a && b) && test S) (rows_positive k S shape.1) tableau.1 ∙ good.1)
    (λ e.
    let both = and_parts (is_tableau (filled_with outer inner w)) (test T) e in
    let order = and_parts (are_letters (letters_of T)) (semistandard inner T) both.0 in
    let lengths = lengths-rows_by (λ row column. letter_of_cell row column (reading_cells outer inner) w) outer inner in
    let filling = filling_from k (row_lengths outer inner) T lengths (filling-within k outer inner w f long word.1) in
    let tableau = subst (Among T) (sym tableaux_are) (Among-select (semistandard inner) T (fillings_of k (row_lengths outer inner)) filling order.1) in
    is_among-from w readings
    (subst (λ v. Among v readings) (reading-whole outer inner w long)
    (Among-map (column_reading outer inner) T (filter test (tableaux k outer inner)) (Among-select test T (tableaux k outer inner) tableau both.1))))

pub good-listed :
    (k : ℕ) (start outer inner w : List ℕ) → Falls outer → contains outer inner ≡ true → rows start ≤ k
    → Among w (words k (length (cells outer inner)))
    → is_among w (map (column_reading outer inner) (good_tableaux k start outer inner))
    ≡ (is_tableau (filled_with outer inner w) && is_good k start outer inner (filling_of outer inner w))
good-listed k start outer inner w f holds few m =
    let listed = filter (is_good k start outer inner) (tableaux k outer inner) in
    ap (λ l. is_among w (map (column_reading outer inner) l)) (ap (λ b. cond b listed []) (le-leb (rows start) k few))
    ∙ selected-listed k (is_good k start outer inner) outer inner w f holds m

pub tableau-listed :
    (k : ℕ) (outer inner w : List ℕ) → Falls outer → contains outer inner ≡ true → Among w (words k (length (cells outer inner)))
    → is_among w (map (column_reading outer inner) (tableaux k outer inner)) ≡ is_tableau (filled_with outer inner w)
tableau-listed k outer inner w f holds m =
    ap (λ l. is_among w (map (column_reading outer inner) l)) (sym (all (tableaux k outer inner)))
    ∙ selected-listed k (λ T. true) outer inner w f holds m ∙ and-true (is_tableau (filled_with outer inner w))
  where
    all : (xs : List (List (List ℕ))) → filter (λ T. true) xs ≡ xs
    all [] = refl
    all (x ∷ xs) = ap (λ l. x ∷ l) (all xs)
