-- The sums of a partition `start` and the contents of the prefixes of a word: the condition that all these sums are weakly decreasing, expressed by
-- the letters of the word (the rule `Falling`).
use Rattle.std.proofs.Common.{◌≡◌, ℕ, zero, suc, ◌+◌, ◌-◌, ◌<◌, ◌≤◌, true, false, ◌&&◌, ◌||◌, ◌==◌, cond, nat_le, nat_lt, List, [], ◌∷◌, ◌++◌, map, length, take, get_or, reverse, ◌∙◌, ap, ap₂, sym, refl, subst, inl, inr, arith, length-append, filter, flat_map}
use Rattle.std.proofs.lemmas.Bool.{cases_eq, eq-eqb, ne_eqb, and_parts, le-leb, leb-true, lt-ltb, ltb-true}
use Rattle.std.proofs.lemmas.List.{length-map, map-append, take_more}
use Rattle.sym_model.specs.Sum.{Among, Once}
use Rattle.sym_model.specs.Partition.{IsCell, Falls, part, rows, columns, after}
use Rattle.sym_model.specs.Polynomial.{join}
use Rattle.sym_model.specs.Schur.{content, times_in, semistandard, letters_of}
use Rattle.sym_model.specs.GoodTableau.{every, is_falling, is_good, reading_right_of}
use Rattle.sym_model.specs.Tableau.{are_letters}
use Rattle.sym_model.specs.TableauList.{column_cells, reading_cells, letter_of_cell, filling_of}
use Rattle.sym_model.proofs.AfterLists.{after_among, length_after}
use Rattle.sym_model.proofs.Sums.{Among_from_map, Among_from_select}
use Rattle.sym_model.proofs.Contents.{times_in-append}
use Rattle.strip_laws.proofs.Strips.{falls_far}
use Rattle.skew_shapes.specs.CellFillings.{filled_with, is_tableau}
use Rattle.skew_shapes.specs.Rows.{reaches, cells_right_of, rows_by}
use Rattle.skew_shapes.proofs.CellRows.{map_after-at}
use Rattle.skew_shapes.proofs.KeptRows.{is_cell-tells}
use Rattle.tableau_iter.specs.Fits.{allows}
use Rattle.tableau_iter.specs.declared.rule.Rule.TheVariants.{Falling}
use Rattle.tableau_iter.proofs.Sums.{falls_at, join_after}
use Rattle.tableau_iter.proofs.Orders.{Once-reading, columns_far, letters-front, reading_split, reading-prefix}
use Rattle.tableau_iter.proofs.Neighbours.{below-greater, is_cell, letter-at, every_after-at}
use Rattle.tableau_iter.proofs.Places.{front_of, cells_below, below-cell, right-split, reading_around, place_of_cell}

-- ---- the entries of start plus the content of a word

pub length-sums : (start v : List ℕ) (k : ℕ) → length start ≤ k → length (join start (content k v)) ≡ k
length-sums start v k h =
    ap length (join_after start (λ j. times_in j v) 0 k h)
    ∙ length-map (after 0 k) (λ j. get_or start (j - (0 + 1)) 0 + times_in j v) ∙ length_after 0 k

pub sum-at : (start v : List ℕ) (k i : ℕ) → length start ≤ k → i < k → get_or (join start (content k v)) i 0 ≡ get_or start i 0 + times_in (i + 1) v
sum-at start v k i h l =
    let place : 0 + i + 1 - (0 + 1) ≡ i = omega arith in
    let letter : 0 + i + 1 ≡ i + 1 = omega arith in
    ap (λ xs. get_or xs i 0) (join_after start (λ j. times_in j v) 0 k h)
    ∙ map_after-at (λ j. get_or start (j - (0 + 1)) 0 + times_in j v) 0 k i 0 l
    ∙ ap₂ (λ n j. get_or start n 0 + times_in j v) place letter

falls-tells : (xs : List ℕ) (i : ℕ) → is_falling xs ≡ true → suc i < length xs → get_or xs (suc i) 0 ≤ get_or xs i 0
falls-tells [] i e h = absurd (omega arith)
falls-tells (a ∷ []) i e h = absurd (omega arith)
falls-tells (a ∷ b ∷ xs) zero e h = leb-true b a (and_parts (nat_le b a) (is_falling (b ∷ xs)) e).0
falls-tells (a ∷ b ∷ xs) (suc i) e h = falls-tells (b ∷ xs) i (and_parts (nat_le b a) (is_falling (b ∷ xs)) e).1 (omega arith)

falls-from : (xs : List ℕ) → ((i : ℕ) → suc i < length xs → get_or xs (suc i) 0 ≤ get_or xs i 0) → is_falling xs ≡ true
falls-from [] h = refl
falls-from (a ∷ []) h = refl
falls-from (a ∷ b ∷ xs) h = ap₂ (λ x y. x && y) (le-leb b a (h 0 (omega arith))) (falls-from (b ∷ xs) (λ i l. h (suc i) (omega arith)))

-- ---- start plus the content of a prefix, with one more letter

pub times_in-one : (j a : ℕ) (v : List ℕ) → times_in j (v ++ a ∷ []) ≡ times_in j v + cond (a == j) 1 0
times_in-one j a v = let e = times_in-append j v (a ∷ []) in omega arith

one_more :
    (k : ℕ) (start v : List ℕ) (a : ℕ) → length start ≤ k → a ≤ k
    → ((i : ℕ) → suc i < k → get_or start (suc i) 0 + times_in (suc i + 1) v ≤ get_or start i 0 + times_in (i + 1) v)
    → allows Falling [] (join start (content k v)) a ≡ true → (i : ℕ) → suc i < k
    → get_or start (suc i) 0 + times_in (suc i + 1) (v ++ a ∷ []) ≤ get_or start i 0 + times_in (i + 1) (v ++ a ∷ [])
one_more k start v a few within falls allowed i h = elim (cases_eq a (suc i + 1)) [
  | inr n ↦
      let none : cond {A = ℕ} (a == suc i + 1) 1 0 ≡ 0 = ap (λ b. cond b 1 0) (ne_eqb a (suc i + 1) n) in
      omega (arith, falls i h, times_in-one (suc i + 1) a v, times_in-one (i + 1) a v, none)
  | inl e ↦
      let one : cond {A = ℕ} (a == suc i + 1) 1 0 ≡ 1 = ap (λ b. cond b 1 0) (eq-eqb a (suc i + 1) e) in
      let other : (a == 1) ≡ false = ne_eqb a 1 (λ f. omega arith) in
      let less = ltb-true (get_or (join start (content k v)) (a - 1) 0) (get_or (join start (content k v)) (a - 2) 0)
      (sym (ap (λ b. b || (nat_lt (get_or (join start (content k v)) (a - 1) 0) (get_or (join start (content k v)) (a - 2) 0))) other) ∙ allowed) in
      let here : a - 1 ≡ suc i = omega arith in
      let there : a - 2 ≡ i = omega arith in
      omega (
        arith,
        less,
        ap (λ n. get_or (join start (content k v)) n 0) here,
        ap (λ n. get_or (join start (content k v)) n 0) there,
        sum-at start v k (suc i) few h,
        sum-at start v k i few (omega arith),
        times_in-one (suc i + 1) a v,
        times_in-one (i + 1) a v,
        one,
      )
]

fronts_fall :
    (k : ℕ) (start w : List ℕ) (e : ℕ) → length start ≤ k → ((i : ℕ) → get_or start (suc i) 0 ≤ get_or start i 0)
    → ((p : ℕ) → p < length w → (get_or w p 0 ≤ k) × (allows Falling [] (join start (content k (take p w))) (get_or w p 0) ≡ true)) → e ≤ length w
    → (i : ℕ) → suc i < k → get_or start (suc i) 0 + times_in (suc i + 1) (take e w) ≤ get_or start i 0 + times_in (i + 1) (take e w)
fronts_fall k start w zero few falls allowed h i l = omega (arith, falls i)
fronts_fall k start w (suc e) few falls allowed h i l =
    let next : e + 1 ≡ suc e = omega arith in
    let step = allowed e (omega arith) in
    subst (λ v. get_or start (suc i) 0 + times_in (suc i + 1) v ≤ get_or start i 0 + times_in (i + 1) v)
    (sym (take_more w e 0 (omega arith)) ∙ ap (λ n. take n w) next)
    (one_more k start (take e w) (get_or w e 0) few step.0 (fronts_fall k start w e few falls allowed (omega arith)) step.1 i l)

pub falls_at-from :
    (k : ℕ) (start w : List ℕ) (e : ℕ) → length start ≤ k → ((i : ℕ) → get_or start (suc i) 0 ≤ get_or start i 0)
    → ((p : ℕ) → p < length w → (get_or w p 0 ≤ k) × (allows Falling [] (join start (content k (take p w))) (get_or w p 0) ≡ true)) → e ≤ length w
    → falls_at k start w e ≡ true
falls_at-from k start w e few falls allowed h =
    falls-from (join start (content k (take e w)))
    (λ i l.
    let long = length-sums start (take e w) k few in
    omega (
      arith,
      sum-at start (take e w) k (suc i) few (omega arith),
      sum-at start (take e w) k i few (omega arith),
      fronts_fall k start w e few falls allowed h i (omega arith),
    ))

-- ---- good tableaux: start plus the content is weakly decreasing for the prefixes of the reading that end with a column, and hence for all prefixes

good-at :
    (k : ℕ) (start outer inner : List ℕ) (T : List (List ℕ)) (j : ℕ) → is_good k start outer inner T ≡ true → j ≤ columns outer
    → is_falling (join start (content k (reading_right_of j outer inner T))) ≡ true
good-at k start outer inner T j e h = by j h
  where
    parts : (is_falling (join start (content k (reading_right_of 0 outer inner T))) ≡ true)
        × (every (λ j. is_falling (join start (content k (reading_right_of j outer inner T)))) (after 0 (columns outer)) ≡ true)
    parts =
        and_parts (is_falling (join start (content k (reading_right_of 0 outer inner T))))
        (every (λ j. is_falling (join start (content k (reading_right_of j outer inner T)))) (after 0 (columns outer))) e

    by : (j : ℕ) → j ≤ columns outer → is_falling (join start (content k (reading_right_of j outer inner T))) ≡ true
    by zero h = parts.0
    by (suc i) h =
        let same : suc i ≡ 0 + i + 1 = omega arith in
        ap (λ j. is_falling (join start (content k (reading_right_of j outer inner T)))) same
        ∙ every_after-at (λ j. is_falling (join start (content k (reading_right_of j outer inner T)))) 0 (columns outer) i parts.1 (omega arith)

down :
    (f : ℕ → ℕ → ℕ) (outer inner : List ℕ) (r j d : ℕ) → (are_letters (letters_of (rows_by f outer inner)) && semistandard inner (rows_by f outer inner)) ≡ true
    → Falls outer → Falls inner → IsCell outer inner (r + 1) j → j ≤ part outer (r + 1 + d) → f (r + 1) j ≤ f (r + 1 + d) j
down f outer inner r j zero e fo fi c h =
    let same : r + 1 ≡ r + 1 + 0 = omega arith in
    omega (arith, ap (λ i. f i j) same)
down f outer inner r j (suc d) e fo fi c h =
    let out = c.outside in
    let next : r + 1 + d + 1 ≡ r + 1 + suc d = omega arith in
    let wide = falls_far outer fo (r + 1 + d) (r + 1 + suc d) (omega arith) (omega arith) in
    let narrow = falls_far inner fi (r + 1) (r + 1 + d) (omega arith) (omega arith) in
    let narrower = falls_far inner fi (r + 1) (r + 1 + d + 1) (omega arith) (omega arith) in
    let here : IsCell outer inner (r + 1 + d) j = record { row_counts = omega arith; outside = omega arith; within = omega arith } in
    let there : IsCell outer inner (r + 1 + d + 1) j =
    record { row_counts = omega arith; outside = omega arith; within = omega (arith, ap (part outer) next) } in
    omega (arith, down f outer inner r j d e fo fi c (omega arith), below-greater f outer inner (r + 1 + d) j e fi here there, ap (λ i. f i j) next)

below_tells :
    (outer inner : List ℕ) (j r : ℕ) (c : ℕ × ℕ) → Among c (cells_below outer inner j r) → (i : ℕ) × (r < i) × IsCell outer inner i j × (c ≡ (i, j))
below_tells outer inner j r c m =
    let found = Among_from_map {B = ℕ × ℕ} (λ row. (row, j)) c (filter (reaches outer inner j) (after r (rows outer - r))) m in
    let row = Among_from_select (reaches outer inner j) found.0 (after r (rows outer - r)) found.1 in
    let past = after_among r (rows outer - r) found.0 row.0 in
    let low : r < found.0 = past.0 in
    (found.0, low, is_cell-tells outer inner found.0 j (ap (λ b. b && reaches outer inner j found.0) (le-leb 1 found.0 (omega arith)) ∙ row.1), found.2)

times_in-none : (b : ℕ) (g : ℕ × ℕ → ℕ) (cells : List (ℕ × ℕ)) → ((c : ℕ × ℕ) → Among c cells → b < g c) → times_in b (map g cells) ≡ 0
times_in-none b g [] h = refl
times_in-none b g (c ∷ cells) h =
    let first : cond {A = ℕ} (g c == b) 1 0 ≡ 0 = ap (λ t. cond t 1 0) (ne_eqb (g c) b (λ e. omega (arith, h c (inl refl)))) in
    omega (arith, first, times_in-none b g cells (λ d m. h d (inr m)))

first-letters :
    (outer inner w : List ℕ) (front back : List (ℕ × ℕ)) → reading_cells outer inner ≡ front ++ back → length w ≡ length (reading_cells outer inner)
    → take (length front) w ≡ map (λ (c : ℕ × ℕ). letter_of_cell c.0 c.1 (reading_cells outer inner) w) front
first-letters outer inner w front back e l =
    let few : length front ≤ length w = omega (arith, ap (λ (cells : List (ℕ × ℕ)). length cells) e, length-append front back) in
    sym (ap (λ (cells : List (ℕ × ℕ)). map (λ (c : ℕ × ℕ). letter_of_cell c.0 c.1 cells w) front) e
    ∙ letters-front front back w (subst (λ (cells : List (ℕ × ℕ)). Once cells) e (Once-reading outer inner)) few)

good_allows-cell :
    (k : ℕ) (start outer inner w : List ℕ) (p r j : ℕ) → length start ≤ k → Falls outer → Falls inner → length w ≡ length (reading_cells outer inner)
    → is_tableau (filled_with outer inner w) ≡ true → is_good k start outer inner (filling_of outer inner w) ≡ true → p < length w
    → get_or w p 0 ≤ k → 2 ≤ get_or w p 0 → IsCell outer inner (r + 1) j → get_or (reading_cells outer inner) p (r + 1, j) ≡ (r + 1, j)
    → get_or (join start (content k (take p w))) (get_or w p 0 - 1) 0 < get_or (join start (content k (take p w))) (get_or w p 0 - 2) 0
good_allows-cell k start outer inner w p r j few fo fi l tableau good h high low c at =
    let f : ℕ → ℕ → ℕ = λ i j. letter_of_cell i j (reading_cells outer inner) w in
    let g : ℕ × ℕ → ℕ = λ (c : ℕ × ℕ). letter_of_cell c.0 c.1 (reading_cells outer inner) w in
    let a = get_or w p 0 in
    let i = get_or w p 0 - 2 in
    let inside = c.within in
    let out = c.outside in
    let wide = columns_far outer (r + 1) fo (omega arith) in
    let letter : get_or w p 0 ≡ letter_of_cell (r + 1) j (reading_cells outer inner) w = letter-at outer inner w p (r + 1) j l h at in
    let front = front_of outer inner j r in
    let below = cells_below outer inner j r in
    let later = flat_map (column_cells outer inner) (reverse (after 0 (j - 1))) in
    let rest = (r + 1, j) ∷ (cells_below outer inner j (r + 1) ++ flat_map (column_cells outer inner) (reverse (after 0 (j - 1)))) in
    let place : p ≡ length (front_of outer inner j r) = place_of_cell outer inner r j p fo c (omega arith) at in
    let here : take p w ≡ map (λ (c : ℕ × ℕ). letter_of_cell c.0 c.1 (reading_cells outer inner) w) (front_of outer inner j r) =
    ap (λ n. take n w) place ∙ first-letters outer inner w front rest (reading_around outer inner r j fo c) l in
    let t = length (cells_right_of outer inner (j - 1)) in
    let there : take (length (cells_right_of outer inner (j - 1))) w
    ≡ take p w ++ map (λ (c : ℕ × ℕ). letter_of_cell c.0 c.1 (reading_cells outer inner) w) (cells_below outer inner j r) =
    first-letters outer inner w (cells_right_of outer inner (j - 1)) later (reading_split outer inner (j - 1) (omega arith)) l
    ∙ ap (λ (cells : List (ℕ × ℕ)). map (λ (c : ℕ × ℕ). letter_of_cell c.0 c.1 (reading_cells outer inner) w) cells) (right-split outer inner r j fo c)
    ∙ map-append g front below ∙ ap (λ v. v ++ map (λ (c : ℕ × ℕ). letter_of_cell c.0 c.1 (reading_cells outer inner) w) (cells_below outer inner j r)) (sym here) in
    let falls : is_falling (join start (content k (take (length (cells_right_of outer inner (j - 1))) w))) ≡ true =
    ap (λ v. is_falling (join start (content k v))) (sym (reading-prefix outer inner w (j - 1) (omega arith) l))
    ∙ good-at k start outer inner (filling_of outer inner w) (j - 1) good (omega arith) in
    let up : suc (get_or w p 0 - 2) ≡ get_or w p 0 - 1 = omega arith in
    let long = length-sums start (take (length (cells_right_of outer inner (j - 1))) w) k few in
    let fall = falls-tells (join start (content k (take (length (cells_right_of outer inner (j - 1))) w))) (get_or w p 0 - 2) falls (omega arith) in
    let last : times_in (get_or w p 0 - 2 + 1) (map (λ (c : ℕ × ℕ). letter_of_cell c.0 c.1 (reading_cells outer inner) w) (cells_below outer inner j r)) ≡ 0 =
    times_in-none (get_or w p 0 - 2 + 1) g below
    (λ d m.
    let told = below_tells outer inner j r d m in
    let past = told.1 in
    let cell = told.2 in
    let within = cell.within in
    let row : r + 1 + (told.0 - (r + 1)) ≡ told.0 = omega arith in
    let less = down f outer inner r j (told.0 - (r + 1)) tableau fo fi c (omega (arith, ap (part outer) row)) in
    omega (
      arith,
      less,
      letter,
      ap (λ i. letter_of_cell i j (reading_cells outer inner) w) row,
      ap (λ (c : ℕ × ℕ). letter_of_cell c.0 c.1 (reading_cells outer inner) w) told.3,
    )) in
    let first : 1 ≤ times_in (suc (get_or w p 0 - 2) + 1) (map (λ (c : ℕ × ℕ). letter_of_cell c.0 c.1 (reading_cells outer inner) w) (cells_below outer inner j r)) =
    begins (suc (get_or w p 0 - 2) + 1) (omega (arith, letter))
    (below-cell outer inner r j c) in
    let a1 = times_in-append (suc (get_or w p 0 - 2) + 1) (take p w) (map g below) in
    let a2 = times_in-append (get_or w p 0 - 2 + 1) (take p w) (map g below) in
    omega (
      arith,
      fall,
      sum-at start (take (length (cells_right_of outer inner (j - 1))) w) k (suc (get_or w p 0 - 2)) few (omega arith),
      sum-at start (take (length (cells_right_of outer inner (j - 1))) w) k (get_or w p 0 - 2) few (omega arith),
      sum-at start (take p w) k (suc (get_or w p 0 - 2)) few (omega arith),
      sum-at start (take p w) k (get_or w p 0 - 2) few (omega arith),
      ap (times_in (suc (get_or w p 0 - 2) + 1)) there,
      ap (times_in (get_or w p 0 - 2 + 1)) there,
      a1,
      a2,
      first,
      last,
      ap (λ n. get_or (join start (content k (take p w))) n 0) up,
    )
  where
    begins : (a : ℕ) → letter_of_cell (r + 1) j (reading_cells outer inner) w ≡ a → cells_below outer inner j r ≡ (r + 1, j) ∷ cells_below outer inner j (r + 1)
        → 1 ≤ times_in a (map (λ (c : ℕ × ℕ). letter_of_cell c.0 c.1 (reading_cells outer inner) w) (cells_below outer inner j r))
    begins a e s =
        subst (λ (cells : List (ℕ × ℕ)). 1 ≤ times_in a (map (λ (c : ℕ × ℕ). letter_of_cell c.0 c.1 (reading_cells outer inner) w) cells)) (sym s)
        (more (times_in a (map (λ (c : ℕ × ℕ). letter_of_cell c.0 c.1 (reading_cells outer inner) w) (cells_below outer inner j (r + 1)))) e)
      where
        more : (n : ℕ) → letter_of_cell (r + 1) j (reading_cells outer inner) w ≡ a → 1 ≤ cond {A = ℕ} (letter_of_cell (r + 1) j (reading_cells outer inner) w == a) 1 0 + n
        more n e =
            let first : cond {A = ℕ} (letter_of_cell (r + 1) j (reading_cells outer inner) w == a) 1 0 ≡ 1 =
            ap (λ t. cond t 1 0) (eq-eqb (letter_of_cell (r + 1) j (reading_cells outer inner) w) a e) in
            omega arith

cell_there : (cells : List (ℕ × ℕ)) (p : ℕ) → p < length cells → (c : ℕ × ℕ) × (get_or cells p c ≡ c)
cell_there [] p h = absurd (omega arith)
cell_there (x ∷ xs) zero h = (x, refl)
cell_there (x ∷ xs) (suc p) h = cell_there xs p (omega arith)

-- if w is the column reading of a good tableau, the rule `Falling` allows each letter of w after those before it
pub good-allows :
    (k : ℕ) (start outer inner w : List ℕ) (p : ℕ) → length start ≤ k → Falls outer → Falls inner → length w ≡ length (reading_cells outer inner)
    → is_tableau (filled_with outer inner w) ≡ true → is_good k start outer inner (filling_of outer inner w) ≡ true → p < length w
    → get_or w p 0 ≤ k → 1 ≤ get_or w p 0 → allows Falling [] (join start (content k (take p w))) (get_or w p 0) ≡ true
good-allows k start outer inner w p few fo fi l tableau good h high low = elim (cases_eq (get_or w p 0) 1) [
  | inl e ↦
      ap (λ b. b || (nat_lt (get_or (join start (content k (take p w))) (get_or w p 0 - 1) 0) (get_or (join start (content k (take p w))) (get_or w p 0 - 2) 0)))
      (eq-eqb (get_or w p 0) 1 e)
  | inr n ↦
      let there = cell_there (reading_cells outer inner) p (omega arith) in
      let cell = is_cell outer inner p there.0.0 there.0.1 (omega arith) there.1 in
      let counts = cell.row_counts in
      let row : there.0.0 ≡ there.0.0 - 1 + 1 = omega arith in
      ap (λ b. b || (nat_lt (get_or (join start (content k (take p w))) (get_or w p 0 - 1) 0) (get_or (join start (content k (take p w))) (get_or w p 0 - 2) 0)))
      (ne_eqb (get_or w p 0) 1 n)
      ∙ lt-ltb (get_or (join start (content k (take p w))) (get_or w p 0 - 1) 0) (get_or (join start (content k (take p w))) (get_or w p 0 - 2) 0)
      (good_allows-cell k start outer inner w p (there.0.0 - 1) there.0.1 few fo fi l tableau good h high (omega arith)
      (subst (λ i. IsCell outer inner i there.0.1) row cell)
      (subst (λ i. get_or (reading_cells outer inner) p (i, there.0.1) ≡ (i, there.0.1)) row there.1))
]
