-- The letters of neighbouring cells of a tableau, and their indices in the column reading.
use Rattle.std.proofs.Common.{◌≡◌, ℕ, zero, suc, ◌+◌, ◌-◌, ◌<◌, ◌≤◌, Bool, true, ◌&&◌, cond, leb, ltb, nat_lt, List, [], ◌∷◌, ◌++◌, map, length, drop, get_or, ◌∙◌, ap, ap₂, sym, refl, subst, arith, append-nil, inl, inr}
use Rattle.std.proofs.lemmas.Bool.{and_parts, leb-true, ltb-true, lt-ltb}
use Rattle.std.proofs.lemmas.List.{get_or-drop, length-drop, length-map, take_all, get_or-map}
use Rattle.sym_model.specs.Sum.{Among, Once}
use Rattle.sym_model.specs.Partition.{IsCell, Falls, part, after}
use Rattle.sym_model.specs.Schur.{row_rises, columns_rise, semistandard, letters_of}
use Rattle.sym_model.specs.GoodTableau.{every}
use Rattle.sym_model.specs.Tableau.{are_letters}
use Rattle.sym_model.specs.TableauList.{reading_cells, letter_of_cell}
use Rattle.sym_model.proofs.AfterLists.{length_after}
use Rattle.strip_laws.proofs.Strips.{falls_part}
use Rattle.skew_shapes.specs.CellFillings.{filled_with, is_tableau, row_of}
use Rattle.skew_shapes.specs.Rows.{row_by, rows_by}
use Rattle.skew_shapes.specs.RowTests.{row_passes, stands_below}
use Rattle.skew_shapes.proofs.CellRows.{map_after-at, row_of-rows_by, cell_row}
use Rattle.skew_shapes.proofs.RowOrder.{tests-rows}
use Rattle.tableau_iter.proofs.Orders.{Once-reading, letters-front, reading_cell}

pub every_after-at : (test : ℕ → Bool) (a k i : ℕ) → every test (after a k) ≡ true → i < k → test (a + i + 1) ≡ true
every_after-at test a zero i e h = absurd (omega arith)
every_after-at test a (suc k) zero e h =
    let same : a + 0 + 1 ≡ a + 1 = omega arith in
    ap test same ∙ (and_parts (test (a + 1)) (every test (after (a + 1) k)) e).0
every_after-at test a (suc k) (suc i) e h =
    let same : a + suc i + 1 ≡ a + 1 + i + 1 = omega arith in
    ap test same ∙ every_after-at test (a + 1) k i (and_parts (test (a + 1)) (every test (after (a + 1) k)) e).1 (omega arith)

columns_rise-at : (u v : List ℕ) (k : ℕ) → columns_rise u v ≡ true → k < length u → k < length v → get_or u k 0 < get_or v k 0
columns_rise-at [] v k e h l = absurd (omega arith)
columns_rise-at (a ∷ u) [] k e h l = absurd (omega arith)
columns_rise-at (a ∷ u) (b ∷ v) zero e h l = ltb-true a b (and_parts (ltb a b) (columns_rise u v) e).0
columns_rise-at (a ∷ u) (b ∷ v) (suc k) e h l = columns_rise-at u v k (and_parts (ltb a b) (columns_rise u v) e).1 (omega arith) (omega arith)

row_rises-at : (w : List ℕ) (k : ℕ) → row_rises w ≡ true → suc k < length w → get_or w k 0 ≤ get_or w (suc k) 0
row_rises-at [] k e h = absurd (omega arith)
row_rises-at (a ∷ []) k e h = absurd (omega arith)
row_rises-at (a ∷ b ∷ w) zero e h = leb-true a b (and_parts (leb a b) (row_rises (b ∷ w)) e).0
row_rises-at (a ∷ b ∷ w) (suc k) e h = row_rises-at (b ∷ w) k (and_parts (leb a b) (row_rises (b ∷ w)) e).1 (omega arith)

-- ---- letters of neighbouring cells in a tableau: rows are weakly, columns strictly increasing

row_passes-at :
    (f : ℕ → ℕ → ℕ) (outer inner : List ℕ) (i : ℕ) → (are_letters (letters_of (rows_by f outer inner)) && semistandard inner (rows_by f outer inner)) ≡ true
    → 1 ≤ i → i ≤ length outer → row_passes inner (rows_by f outer inner) i ≡ true
row_passes-at f outer inner i e h l =
    let T = rows_by f outer inner in
    let count : length (rows_by f outer inner) ≡ length outer =
    length-map (after 0 (length outer)) (row_by f outer inner) ∙ length_after 0 (length outer) in
    let same : 0 + (i - 1) + 1 ≡ i = omega arith in
    ap (row_passes inner T) (sym same)
    ∙ every_after-at (row_passes inner T) 0 (length T) (i - 1) (sym (tests-rows inner T) ∙ e) (omega arith)

length-row_by : (f : ℕ → ℕ → ℕ) (outer inner : List ℕ) (i : ℕ) → length (row_by f outer inner i) ≡ part outer i - part inner i
length-row_by f outer inner i =
    length-map (after (part inner i) (part outer i - part inner i)) (f i) ∙ length_after (part inner i) (part outer i - part inner i)

at-row_by : (f : ℕ → ℕ → ℕ) (outer inner : List ℕ) (i j k : ℕ) → part inner i < j → j ≤ part outer i → k ≡ j - (part inner i + 1) → get_or (row_by f outer inner i) k 0 ≡ f i j
at-row_by f outer inner i j k h l e =
    let same : part inner i + k + 1 ≡ j = omega arith in
    map_after-at (f i) (part inner i) (part outer i - part inner i) k 0 (omega arith) ∙ ap (f i) same

pub below-greater :
    (f : ℕ → ℕ → ℕ) (outer inner : List ℕ) (i j : ℕ) → (are_letters (letters_of (rows_by f outer inner)) && semistandard inner (rows_by f outer inner)) ≡ true
    → Falls inner → IsCell outer inner i j → IsCell outer inner (i + 1) j → f i j < f (i + 1) j
below-greater f outer inner i j e falls c d =
    let T = rows_by f outer inner in
    let counts = c.row_counts in
    let out = c.outside in
    let in' = c.within in
    let out' = d.outside in
    let in'' = d.within in
    let few = cell_row outer inner (i + 1) j d in
    let less = falls_part inner falls i counts in
    let count : length (rows_by f outer inner) ≡ length outer =
    length-map (after 0 (length outer)) (row_by f outer inner) ∙ length_after 0 (length outer) in
    let passes = row_passes-at f outer inner i e counts (omega arith) in
    let later = (and_parts (are_letters (row_of T i)) (row_rises (row_of T i) && cond (nat_lt i (length T)) (stands_below inner T i) true) passes).1 in
    let stands = (and_parts (row_rises (row_of T i)) (cond (nat_lt i (length T)) (stands_below inner T i) true) later).1 in
    let rises : stands_below inner T i ≡ true =
    sym (ap (λ b. cond b (stands_below inner T i) true) (lt-ltb i (length T) (omega arith))) ∙ stands in
    let upper = row_by f outer inner i in
    let lower = row_by f outer inner (i + 1) in
    let shift = part inner i - part inner (i + 1) in
    let plain : columns_rise upper (drop shift lower) ≡ true =
    sym (ap₂ (λ x y. columns_rise x (drop shift y)) (row_of-rows_by f outer inner i counts (omega arith)) (row_of-rows_by f outer inner (i + 1) (omega arith) few)) ∙ rises in
    let k = j - (part inner i + 1) in
    let long : length upper ≡ part outer i - part inner i = length-row_by f outer inner i in
    let long' : length (drop shift lower) ≡ part outer (i + 1) - part inner (i + 1) - (part inner i - part inner (i + 1)) =
    length-drop shift lower ∙ ap (λ n. n - shift) (length-row_by f outer inner (i + 1)) in
    let here = at-row_by f outer inner i j k out in' refl in
    let there : get_or (drop shift lower) k 0 ≡ f (i + 1) j =
    get_or-drop shift lower k 0 ∙ at-row_by f outer inner (i + 1) j (shift + k) out' in'' (omega arith) in
    omega (arith, columns_rise-at upper (drop shift lower) k plain (omega arith) (omega arith), here, there)

pub right-at_least :
    (f : ℕ → ℕ → ℕ) (outer inner : List ℕ) (i j : ℕ) → (are_letters (letters_of (rows_by f outer inner)) && semistandard inner (rows_by f outer inner)) ≡ true
    → IsCell outer inner i j → IsCell outer inner i (j + 1) → f i j ≤ f i (j + 1)
right-at_least f outer inner i j e c d =
    let T = rows_by f outer inner in
    let counts = c.row_counts in
    let out = c.outside in
    let in' = c.within in
    let out' = d.outside in
    let in'' = d.within in
    let few = cell_row outer inner i j c in
    let passes = row_passes-at f outer inner i e counts few in
    let later = (and_parts (are_letters (row_of T i)) (row_rises (row_of T i) && cond (nat_lt i (length T)) (stands_below inner T i) true) passes).1 in
    let rises = (and_parts (row_rises (row_of T i)) (cond (nat_lt i (length T)) (stands_below inner T i) true) later).0 in
    let row = row_by f outer inner i in
    let plain : row_rises row ≡ true = sym (ap row_rises (row_of-rows_by f outer inner i counts few)) ∙ rises in
    let k = j - (part inner i + 1) in
    let long : length row ≡ part outer i - part inner i = length-row_by f outer inner i in
    omega (
      arith,
      row_rises-at row k plain (omega arith),
      at-row_by f outer inner i j k out in' refl,
      at-row_by f outer inner i (j + 1) (suc k) out' in'' (omega arith),
    )

-- ---- the letters of a word by the indices of their cells in the reading

pub letter-at :
    (outer inner w : List ℕ) (q i j : ℕ) → length w ≡ length (reading_cells outer inner) → q < length w
    → get_or (reading_cells outer inner) q (i, j) ≡ (i, j) → get_or w q 0 ≡ letter_of_cell i j (reading_cells outer inner) w
letter-at outer inner w q i j l h e =
    let cells = reading_cells outer inner in
    let all : reading_cells outer inner ++ [] ≡ reading_cells outer inner = append-nil cells in
    let few : length cells ≤ length w = omega arith in
    let whole : map (λ (c : ℕ × ℕ). letter_of_cell c.0 c.1 (reading_cells outer inner) w) (reading_cells outer inner) ≡ w =
    ap (λ (cells : List (ℕ × ℕ)). map (λ (c : ℕ × ℕ). letter_of_cell c.0 c.1 cells w) (reading_cells outer inner)) (sym all)
    ∙ letters-front cells [] w (subst (λ (cells : List (ℕ × ℕ)). Once cells) (sym all) (Once-reading outer inner)) few
    ∙ take_all (length cells) w (omega arith) in
    ap (λ xs. get_or xs q 0) (sym whole)
    ∙ get_or-map (λ (c : ℕ × ℕ). letter_of_cell c.0 c.1 (reading_cells outer inner) w) cells q (i, j) 0 (omega arith)
    ∙ ap (λ (c : ℕ × ℕ). letter_of_cell c.0 c.1 (reading_cells outer inner) w) e

pub Among-get : (cells : List (ℕ × ℕ)) (q : ℕ) (d : ℕ × ℕ) → q < length cells → Among (get_or cells q d) cells
Among-get [] q d h = absurd (omega arith)
Among-get (c ∷ cells) zero d h = inl refl
Among-get (c ∷ cells) (suc q) d h = inr (Among-get cells q d (omega arith))

pub same_pair : (i j : ℕ) (c : ℕ × ℕ) → i ≡ c.0 → j ≡ c.1 → ◌≡◌ {A = ℕ × ℕ} (i, j) c
same_pair i j c e f = ap₂ {C = ℕ × ℕ} (λ u v. (u, v)) e f

pub cell-at :
    (cells : List (ℕ × ℕ)) (lines ranks : List ℕ) (q i j : ℕ) → lines ≡ map (λ (c : ℕ × ℕ). c.0) cells → ranks ≡ map (λ (c : ℕ × ℕ). c.1) cells
    → q < length cells → get_or lines q 0 ≡ i → get_or ranks q 0 ≡ j → get_or cells q (i, j) ≡ (i, j)
cell-at cells lines ranks q i j el er h a b =
    sym (same_pair i j (get_or cells q (i, j))
    (sym a ∙ ap (λ xs. get_or xs q 0) el ∙ get_or-map (λ (c : ℕ × ℕ). c.0) cells q (i, j) 0 h)
    (sym b ∙ ap (λ xs. get_or xs q 0) er ∙ get_or-map (λ (c : ℕ × ℕ). c.1) cells q (i, j) 0 h))

pub is_cell :
    (outer inner : List ℕ) (q i j : ℕ) → q < length (reading_cells outer inner) → get_or (reading_cells outer inner) q (i, j) ≡ (i, j) → IsCell outer inner i j
is_cell outer inner q i j h e =
    reading_cell outer inner (i, j)
    (subst (λ (c : ℕ × ℕ). Among c (reading_cells outer inner)) e (Among-get (reading_cells outer inner) q (i, j) h))

-- ---- words that are not readings of a tableau, since a letter is not greater than the one above it, or is greater than the one on its right

pub no_above :
    (outer inner w : List ℕ) (q p i j : ℕ) → Falls inner → length w ≡ length (reading_cells outer inner) → q < length w → p < length w
    → get_or (reading_cells outer inner) q (i, j) ≡ (i, j) → get_or (reading_cells outer inner) p (i + 1, j) ≡ (i + 1, j) → get_or w p 0 ≤ get_or w q 0
    → is_tableau (filled_with outer inner w) ≡ true → ⊥
no_above outer inner w q p i j falls l h m d e clash good =
    omega (
      arith,
      clash,
      below-greater (λ i j. letter_of_cell i j (reading_cells outer inner) w) outer inner i j good falls
          (is_cell outer inner q i j (omega arith) d) (is_cell outer inner p (i + 1) j (omega arith) e),
      letter-at outer inner w q i j l h d,
      letter-at outer inner w p (i + 1) j l m e,
    )

pub no_right :
    (outer inner w : List ℕ) (q p i j : ℕ) → length w ≡ length (reading_cells outer inner) → q < length w → p < length w
    → get_or (reading_cells outer inner) q (i, j + 1) ≡ (i, j + 1) → get_or (reading_cells outer inner) p (i, j) ≡ (i, j) → get_or w q 0 < get_or w p 0
    → is_tableau (filled_with outer inner w) ≡ true → ⊥
no_right outer inner w q p i j l h m d e clash good =
    omega (
      arith,
      clash,
      right-at_least (λ i j. letter_of_cell i j (reading_cells outer inner) w) outer inner i j good
          (is_cell outer inner p i j (omega arith) e) (is_cell outer inner q i (j + 1) (omega arith) d),
      letter-at outer inner w q i (j + 1) l h d,
      letter-at outer inner w p i j l m e,
    )
