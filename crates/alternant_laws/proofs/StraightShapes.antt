-- A tableau is good for the empty partition if the content of its last j columns is a partition for each j. A straight shape has only one such
-- tableau: each of its columns has the letters 1, 2, 3, and so on. So a_ρ times a Schur polynomial is one alternant.
use Rattle.std.proofs.Common.{◌≡◌, ℕ, zero, suc, ◌+◌, ◌-◌, ◌<◌, ◌≤◌, ◌⊎◌, Bool, true, false, cond, ◌&&◌, List, [], ◌∷◌, ◌++◌, map, length, replicate, reverse, get_or, nat_le, nat_lt, sym, ◌∙◌, ap, ap₂, subst, refl, inl, inr, arith, ℤ, pos}
use Rattle.std.proofs.lemmas.Bool.{cases_lt, cases_eq, cases_Bool, and_parts, and_from, leb-true, le-leb, ltb-true, lt-ltb, le-ltb, false_from_ne_true}
use Rattle.std.proofs.lemmas.List.{reverse-append, reverse-reverse, get_or_past}
use Rattle.sym_model.specs.Sum.{Among}
use Rattle.sym_model.specs.Partition.{Falls, ArePositive, IsPartition, rows, after}
use Rattle.sym_model.specs.Polynomial.{join, resize}
use Rattle.sym_model.specs.Schur.{times_in, content}
use Rattle.sym_model.specs.GoodTableau.{is_falling}
use Rattle.sym_model.proofs.Sums.{total_only}
use Rattle.sym_model.proofs.Exponents.{length-join_same, length-resize, get_or-join}
use Rattle.sym_model.proofs.Contents.{times_in-here, times_in-other}
use Rattle.tableau_laws.specs.PaddedRows.{put_row, transposed, words_over, line_of, pattern_of}
use Rattle.tableau_laws.specs.Grid.{is_chain, pass_by_place, may_stand_above}
use Rattle.tableau_laws.specs.ColumnFold.{may_be_next, over_columns, column_lines}
use Rattle.tableau_laws.proofs.PatternFillings.{Fits, MayStand, word_tells, word_from, words_once, fits_length}
use Rattle.tableau_laws.proofs.Grids.{length-transposed, falls_below, pass-nothing}
use Rattle.tableau_laws.proofs.RowSums.{pattern_lengths}
use Rattle.tableau_laws.proofs.ColumnCounts.{contains_nothing, falling-resize}
use Rattle.tableau_laws.proofs.ColumnSums.{over_columns-last}
use Rattle.alternant_laws.proofs.Exchanges.{length_content}
use Rattle.alternant_laws.proofs.LeftColumns.{AreLong, falls_last, falls-transposed}
use Rattle.alternant_laws.proofs.FailingColumns.{at_letter}

-- ---- weakly decreasing lists, in which each entry is at most the one before it (`Places`)

abbrev pub Places : List ℕ → Type 0
Places α = (i : ℕ) → get_or α (suc i) 0 ≤ get_or α i 0

pub falls_places : (α : List ℕ) → is_falling α ≡ true → Places α
falls_places [] e zero = omega arith
falls_places [] e (suc i) = omega arith
falls_places (a ∷ []) e zero = omega arith
falls_places (a ∷ []) e (suc i) = falls_places [] refl i
falls_places (a ∷ b ∷ α) e zero = let p = and_parts (nat_le b a) (is_falling (b ∷ α)) e in leb-true b a p.0
falls_places (a ∷ b ∷ α) e (suc i) = let p = and_parts (nat_le b a) (is_falling (b ∷ α)) e in falls_places (b ∷ α) p.1 i

places_fall : (α : List ℕ) → Places α → is_falling α ≡ true
places_fall [] h = refl
places_fall (a ∷ []) h = refl
places_fall (a ∷ b ∷ α) h = and_from (nat_le b a) (is_falling (b ∷ α)) (le-leb b a (h 0)) (places_fall (b ∷ α) (λ i. h (suc i)))

pub same_places : (α β : List ℕ) → length α ≡ length β → ((i : ℕ) → i < length α → get_or α i 0 ≡ get_or β i 0) → α ≡ β
same_places [] [] l e = refl
same_places [] (b ∷ β) l e = absurd (omega arith)
same_places (a ∷ α) [] l e = absurd (omega arith)
same_places (a ∷ α) (b ∷ β) l e = ap₂ ◌∷◌ (e 0 (omega arith)) (same_places α β (omega arith) (λ i h. e (suc i) (omega arith)))

Ascends : ℕ → List ℕ → Type 0
Ascends a [] = Unit {0}
Ascends a (v ∷ w) = (a < v) × Ascends v w

-- `OnlyCells line`: each entry of the line, which marks the cells of a column, is true; so the column has no empty places
abbrev pub OnlyCells : List Bool → Type 0
OnlyCells [] = Unit {0}
OnlyCells (p ∷ line) = (p ≡ true) × OnlyCells line

ascends_after : (n a : ℕ) (line : List Bool) (w : List ℕ) → OnlyCells line → Fits n line w → 0 < a → is_chain may_stand_above (a ∷ w) ≡ true → Ascends a w
unfolding Ascends
ascends_after n a line [] o f p e = tt
ascends_after n a [] (v ∷ w) o f p e = absurd f
ascends_after n a (q ∷ line) (v ∷ w) o f p e =
    let r = and_parts (nat_lt a (v + (1 - a))) (is_chain may_stand_above (v ∷ w)) e in
    let s = ltb-true a (v + (1 - a)) r.0 in
    (omega arith, ascends_after n v line w o.1 f.1 (omega arith) r.1)

column_ascends : (n : ℕ) (line : List Bool) (w : List ℕ) → OnlyCells line → Fits n line w → is_chain may_stand_above w ≡ true → Ascends 0 w
unfolding Ascends
column_ascends n line [] o f e = tt
column_ascends n [] (v ∷ w) o f e = absurd f
column_ascends n (p ∷ line) (v ∷ w) o f e =
    let m = subst (λ (b : Bool). MayStand n b v) o.0 f.0 in
    (m.0, ascends_after n v line w o.1 f.1 m.0 e)

chain_of_after : (a k : ℕ) → 0 < a → is_chain may_stand_above (a ∷ after a k) ≡ true
chain_of_after a zero p = refl
chain_of_after a (suc k) p =
    and_from (nat_lt a ((a + 1) + (1 - a))) (is_chain may_stand_above ((a + 1) ∷ after (a + 1) k)) (lt-ltb a ((a + 1) + (1 - a)) (omega arith)) (chain_of_after (a + 1) k (omega arith))

chain_from_one : (k : ℕ) → is_chain may_stand_above (after 0 k) ≡ true
chain_from_one zero = refl
chain_from_one (suc k) = chain_of_after 1 k (omega arith)

after_fits : (n a : ℕ) (line : List Bool) → OnlyCells line → a + length line ≤ n → Fits n line (after a (length line))
after_fits n a [] o h = tt
after_fits n a (p ∷ line) o h = (subst (λ (b : Bool). MayStand n b (a + 1)) (sym o.0) (omega arith, omega arith), after_fits n (a + 1) line o.1 (omega arith))

after_beside : (a h k : ℕ) → pass_by_place nat_le (after a h) (after a k) ≡ true
after_beside a zero k = refl
after_beside a (suc h) zero = refl
after_beside a (suc h) (suc k) = and_from (nat_le (a + 1) (a + 1)) (pass_by_place nat_le (after (a + 1) h) (after (a + 1) k)) (le-leb (a + 1) (a + 1) (omega arith)) (after_beside (a + 1) h k)

-- ---- the number of times that a letter occurs in a column with strictly increasing letters

none_at : (k a : ℕ) (w : List ℕ) → Ascends a w → k ≤ a → times_in k w ≡ 0
unfolding Ascends
none_at k a [] s h = refl
none_at k a (v ∷ w) s h = let g = s.0 in times_in-other k v w (λ e. absurd (omega arith)) ∙ none_at k v w s.1 (omega arith)

none_past : (n k : ℕ) (line : List Bool) (w : List ℕ) → Fits n line w → OnlyCells line → n < k → times_in k w ≡ 0
none_past n k line [] f o h = refl
none_past n k [] (v ∷ w) f o h = absurd f
none_past n k (p ∷ line) (v ∷ w) f o h =
    let m = subst (λ (b : Bool). MayStand n b v) o.0 f.0 in
    let g = m.1 in
    times_in-other k v w (λ e. absurd (omega arith)) ∙ none_past n k line w f.1 o.1 h

after_below : (j b m : ℕ) → j ≤ b → times_in j (after b m) ≡ 0
after_below j b zero g = refl
after_below j b (suc m) g = times_in-other j (b + 1) (after (b + 1) m) (λ e. absurd (omega arith)) ∙ after_below j (b + 1) m (omega arith)

after_inside : (k a h : ℕ) → a < k → k ≤ a + h → times_in k (after a h) ≡ 1
after_inside k a zero p q = absurd (omega arith)
after_inside k a (suc h) p q = by (cases_eq (a + 1) k) (λ n. after_inside k (a + 1) h (omega arith) (omega arith))
  where
    by : (a + 1 ≡ k) ⊎ (a + 1 ≡ k → ⊥) → ((a + 1 ≡ k → ⊥) → times_in k (after (a + 1) h) ≡ 1) → times_in k (after a (suc h)) ≡ 1
    by (inl e) later = times_in-here k (a + 1) (after (a + 1) h) e ∙ ap suc (after_below k (a + 1) h (omega arith))
    by (inr n) later = times_in-other k (a + 1) (after (a + 1) h) n ∙ later n

after_past : (k a h : ℕ) → a + h < k → times_in k (after a h) ≡ 0
after_past k a zero p = refl
after_past k a (suc h) p = times_in-other k (a + 1) (after (a + 1) h) (λ e. absurd (omega arith)) ∙ after_past k (a + 1) h (omega arith)

only_column : (a m : ℕ) (w : List ℕ) → Ascends a w → pass_by_place nat_le w (after a m) ≡ true → ((k : ℕ) → a + m < k → times_in (suc k) w ≤ times_in k w) → w ≡ after a (length w)
unfolding Ascends
only_column a m [] s p o = refl
only_column a zero (v ∷ w) s p o =
    let e = first (cases_eq v (a + 1)) in
    ap₂ ◌∷◌ e (subst (λ b. w ≡ after b (length w)) e
    (only_column v zero w s.1 (pass-nothing nat_le w) (λ k h. let g = o k (omega arith) in let x = times_in-other k v w (λ i. absurd (omega arith)) in let y = times_in-other (suc k) v w (λ i. absurd (omega arith)) in omega arith)))
  where
    gap : (j : ℕ) → v ≡ suc j → a < j → ⊥
    gap j e h =
        let g = o j (omega arith) in
        let x = times_in-here (suc j) v w e in
        let y = times_in-other j v w (λ i. absurd (omega arith)) in
        let z = none_at j v w s.1 (omega arith) in
        absurd (omega arith)

    first : (v ≡ a + 1) ⊎ (v ≡ a + 1 → ⊥) → v ≡ a + 1
    first (inl e) = e
    first (inr n) = let h = s.0 in absurd (gap (v - 1) (omega arith) (omega arith))
only_column a (suc m) (v ∷ w) s p o =
    let q = and_parts (nat_le v (a + 1)) (pass_by_place nat_le w (after (a + 1) m)) p in
    let l = leb-true v (a + 1) q.0 in
    let h = s.0 in
    let e : v ≡ a + 1 = omega arith in
    ap₂ ◌∷◌ e (subst (λ b. w ≡ after b (length w)) e
    (only_column v m w s.1 (subst (λ b. pass_by_place nat_le w (after b m) ≡ true) (sym e) q.1)
    (λ k g. let t = o k (omega arith) in let x = times_in-other k v w (λ i. absurd (omega arith)) in let y = times_in-other (suc k) v w (λ i. absurd (omega arith)) in omega arith)))

-- ---- ν plus the contents of columns that are added one after another, each with the letters 1, 2, 3, ..

-- ν has the entry 0 at each place from h on, counted from 0
abbrev pub EndsAt : ℕ → List ℕ → Type 0
EndsAt h ν = (i : ℕ) → h ≤ i → get_or ν i 0 ≡ 0

pub at_content : (n i : ℕ) (w : List ℕ) → i < n → get_or (content n w) i 0 ≡ times_in (suc i) w
at_content n i w h = let e : 0 + suc i ≡ suc i = omega arith in at_letter (λ k. times_in k w) 0 n i h ∙ ap (λ k. times_in k w) e

pub past_content : (n i : ℕ) (w : List ℕ) → n ≤ i → get_or (content n w) i 0 ≡ 0
past_content n i w h = get_or_past (content n w) i 0 (omega (arith, length_content n w))

next_is : (n m : ℕ) (line : List Bool) (ν c : List ℕ) → OnlyCells line → Fits n line c → EndsAt m ν → may_be_next n ν (after 0 m) c ≡ true → c ≡ after 0 (length line)
next_is n m line ν c o f ends e =
    let p = and_parts (is_chain may_stand_above c) (pass_by_place nat_le c (after 0 m) && is_falling (join ν (content n c))) e in
    let q = and_parts (pass_by_place nat_le c (after 0 m)) (is_falling (join ν (content n c))) p.1 in
    only_column 0 m c (column_ascends n line c o f p.0) q.0 (λ k h. falls k h (falls_places (join ν (content n c)) q.1) (cases_lt k n)) ∙ ap (after 0) (fits_length n line c f)
  where
    falls : (k : ℕ) → 0 + m < k → ((i : ℕ) → get_or (join ν (content n c)) (suc i) 0 ≤ get_or (join ν (content n c)) i 0) → (k < n) ⊎ (n ≤ k) → times_in (suc k) c ≤ times_in k c
    falls zero h t b = absurd (omega arith)
    falls (suc k) h t (inl l) =
        let g = t k in
        let a = get_or-join ν (content n c) k in
        let b = get_or-join ν (content n c) (suc k) in
        let x = at_content n k c (omega arith) in
        let y = at_content n (suc k) c l in
        let z = ends k (omega arith) in
        omega arith
    falls (suc k) h t (inr l) = let x = none_past n (suc (suc k)) line c f o (omega arith) in omega arith

next_falls : (n m h : ℕ) (ν : List ℕ) → is_falling ν ≡ true → h ≤ n → may_be_next n ν (after 0 m) (after 0 h) ≡ true
next_falls n m h ν f l =
    and_from (is_chain may_stand_above (after 0 h)) (pass_by_place nat_le (after 0 h) (after 0 m) && is_falling (join ν (content n (after 0 h)))) (chain_from_one h)
    (and_from (pass_by_place nat_le (after 0 h) (after 0 m)) (is_falling (join ν (content n (after 0 h)))) (after_beside 0 h m)
    (places_fall (join ν (content n (after 0 h))) (λ i.
    let a = get_or-join ν (content n (after 0 h)) i in
    let b = get_or-join ν (content n (after 0 h)) (suc i) in
    let g = falls_places ν f i in
    let t = falls i (cases_lt (suc i) n) (cases_lt (suc i) h) in
    omega arith)))
  where
    falls : (i : ℕ) → (suc i < n) ⊎ (n ≤ suc i) → (suc i < h) ⊎ (h ≤ suc i) → get_or (content n (after 0 h)) (suc i) 0 ≤ get_or (content n (after 0 h)) i 0
    falls i (inl b) (inl c) =
        let x = at_content n i (after 0 h) (omega arith) in
        let y = at_content n (suc i) (after 0 h) b in
        let u = after_inside (suc i) 0 h (omega arith) (omega arith) in
        let v = after_inside (suc (suc i)) 0 h (omega arith) (omega arith) in
        omega arith
    falls i (inl b) (inr c) =
        let y = at_content n (suc i) (after 0 h) b in
        let v = after_past (suc (suc i)) 0 h (omega arith) in
        omega arith
    falls i (inr b) c = let y = past_content n (suc i) (after 0 h) b in omega arith

next_ends : (n m h : ℕ) (ν : List ℕ) → EndsAt m ν → m ≤ h → EndsAt h (join ν (content n (after 0 h)))
next_ends n m h ν ends l i g =
    let a = get_or-join ν (content n (after 0 h)) i in
    let z = ends i (omega arith) in
    let t = none (cases_lt i n) in
    omega arith
  where
    none : (i < n) ⊎ (n ≤ i) → get_or (content n (after 0 h)) i 0 ≡ 0
    none (inl b) = at_content n i (after 0 h) b ∙ after_past (suc i) 0 h (omega arith)
    none (inr b) = past_content n i (after 0 h) b

sum_along : ℕ → List ℕ → List (List Bool) → List ℕ
sum_along n ν [] = ν
sum_along n ν (line ∷ back) = sum_along n (join ν (content n (after 0 (length line)))) back

AreStraight : ℕ → ℕ → List (List Bool) → Type 0
AreStraight n m [] = Unit {0}
AreStraight n m (line ∷ back) = OnlyCells line × ((m ≤ length line) × ((length line ≤ n) × AreStraight n (length line) back))

pub single : (b : Bool) (x : ℤ) → b ≡ true → cond b x (pos 0) ≡ x
single b x e = ap (λ (c : Bool). cond c x (pos 0)) e

over_straight : (n m : ℕ) (g : List ℕ → ℤ) (back : List (List Bool)) (ν : List ℕ) → is_falling ν ≡ true → EndsAt m ν → AreStraight n m back
    → over_columns n (reverse back) (λ s d. g s) ν (after 0 m) ≡ g (sum_along n ν back)
unfolding sum_along AreStraight
over_straight n m g [] ν f e s = refl
over_straight n m g (line ∷ back) ν f e s =
    let h = length line in
    let next = next_falls n m h ν f s.1.1.0 in
    let p = and_parts (is_chain may_stand_above (after 0 h)) (pass_by_place nat_le (after 0 h) (after 0 m) && is_falling (join ν (content n (after 0 h)))) next in
    let q = and_parts (pass_by_place nat_le (after 0 h) (after 0 m)) (is_falling (join ν (content n (after 0 h)))) p.1 in
    ap (λ (ls : List (List Bool)). over_columns n ls (λ s' d. g s') ν (after 0 m)) (reverse-append (line ∷ []) back)
    ∙ over_columns-last n (reverse back) line (λ s' d. g s') ν (after 0 m)
    ∙ total_only (λ (c : List ℕ). cond (may_be_next n ν (after 0 m) c) (over_columns n (reverse back) (λ s' d. g s') (join ν (content n c)) c) (pos 0)) (after 0 h) (words_over n line)
    (words_once n line) (word_from n line (after 0 h) (after_fits n 0 line s.0 (let l = s.1.1.0 in omega arith)))
    (λ c a d. other c a d (cases_Bool (may_be_next n ν (after 0 m) c)))
    ∙ single (may_be_next n ν (after 0 m) (after 0 h)) (over_columns n (reverse back) (λ s' d. g s') (join ν (content n (after 0 h))) (after 0 h)) next
    ∙ over_straight n h g back (join ν (content n (after 0 h))) q.1 (next_ends n m h ν e s.1.0) s.1.1.1
  where
    other : (c : List ℕ) → Among c (words_over n line) → (c ≡ after 0 (length line) → ⊥) → (may_be_next n ν (after 0 m) c ≡ true) ⊎ (may_be_next n ν (after 0 m) c ≡ false)
        → cond (may_be_next n ν (after 0 m) c) (over_columns n (reverse back) (λ s' d. g s') (join ν (content n c)) c) (pos 0) ≡ pos 0
    other c a d (inl t) = absurd (d (next_is n m line ν c s.0 (word_tells n line c a) e t))
    other c a d (inr t) = ap (λ (b : Bool). cond b (over_columns n (reverse back) (λ s' r. g s') (join ν (content n c)) c) (pos 0)) t

longer : ℕ → List (List Bool) → ℕ
longer i [] = 0
longer i (line ∷ lines) = cond (nat_lt i (length line)) 1 0 + longer i lines

longer_append : (i : ℕ) (xs ys : List (List Bool)) → longer i (xs ++ ys) ≡ longer i xs + longer i ys
unfolding longer
longer_append i [] ys = omega arith
longer_append i (x ∷ xs) ys = let e = longer_append i xs ys in omega arith

longer_reverse : (i : ℕ) (xs : List (List Bool)) → longer i (reverse xs) ≡ longer i xs
unfolding longer
longer_reverse i [] = refl
longer_reverse i (x ∷ xs) =
    let e = longer_reverse i xs in
    let a = longer_append i (reverse xs) (x ∷ []) in
    let b = ap (longer i) (reverse-append (x ∷ []) xs) in
    omega arith

at_sum_along : (n i : ℕ) (ν : List ℕ) (back : List (List Bool)) → i < n → get_or (sum_along n ν back) i 0 ≡ get_or ν i 0 + longer i back
unfolding sum_along longer
at_sum_along n i ν [] h = omega arith
at_sum_along n i ν (line ∷ back) h =
    let e = at_sum_along n i (join ν (content n (after 0 (length line)))) back h in
    let a = get_or-join ν (content n (after 0 (length line))) i in
    let b = at_content n i (after 0 (length line)) h in
    let c = test (cases_lt i (length line)) in
    omega arith
  where
    test : (i < length line) ⊎ (length line ≤ i) → times_in (suc i) (after 0 (length line)) ≡ cond {A = ℕ} (nat_lt i (length line)) 1 0
    test (inl l) = after_inside (suc i) 0 (length line) (omega arith) (omega arith) ∙ sym (ap (λ (b : Bool). cond {A = ℕ} b 1 0) (lt-ltb i (length line) l))
    test (inr l) = after_past (suc i) 0 (length line) (omega arith) ∙ sym (ap (λ (b : Bool). cond {A = ℕ} b 1 0) (le-ltb i (length line) l))

length_sum_along : (n : ℕ) (ν : List ℕ) (back : List (List Bool)) → length ν ≡ n → length (sum_along n ν back) ≡ n
unfolding sum_along
length_sum_along n ν [] l = l
length_sum_along n ν (line ∷ back) l =
    length_sum_along n (join ν (content n (after 0 (length line)))) back (length-join_same n ν (content n (after 0 (length line))) l (length_content n (after 0 (length line))))

one_longer : (i h : ℕ) → cond {A = ℕ} (nat_lt (suc i) (suc h)) 1 0 ≡ cond {A = ℕ} (nat_lt i h) 1 0
one_longer i h = by (cases_lt i h)
  where
    by : (i < h) ⊎ (h ≤ i) → cond {A = ℕ} (nat_lt (suc i) (suc h)) 1 0 ≡ cond {A = ℕ} (nat_lt i h) 1 0
    by (inl l) = ap (λ (b : Bool). cond {A = ℕ} b 1 0) (lt-ltb (suc i) (suc h) (omega arith) ∙ sym (lt-ltb i h l))
    by (inr l) = ap (λ (b : Bool). cond {A = ℕ} b 1 0) (le-ltb (suc i) (suc h) (omega arith) ∙ sym (le-ltb i h l))

longer_put : (i : ℕ) (row : List Bool) (lines : List (List Bool)) → length lines ≤ length row → longer (suc i) (put_row row lines) ≡ longer i lines
unfolding longer
longer_put i [] [] h = refl
longer_put i [] (c ∷ lines) h = absurd (omega arith)
longer_put i (x ∷ row) [] h =
    let e = longer_put i row [] (omega arith) in
    let a : cond {A = ℕ} (nat_lt (suc i) 1) 1 0 ≡ 0 = ap (λ (b : Bool). cond {A = ℕ} b 1 0) (le-ltb (suc i) 1 (omega arith)) in
    omega arith
longer_put i (x ∷ row) (c ∷ lines) h = ap₂ ◌+◌ (one_longer i (length c)) (longer_put i row lines (omega arith))

longer_first : (row : List Bool) (lines : List (List Bool)) → length lines ≤ length row → longer 0 (put_row row lines) ≡ length row
unfolding longer
longer_first [] [] h = refl
longer_first [] (c ∷ lines) h = absurd (omega arith)
longer_first (x ∷ row) [] h =
    let e = longer_first row [] (omega arith) in
    let a : cond {A = ℕ} (nat_lt 0 1) 1 0 ≡ 1 = refl in
    omega arith
longer_first (x ∷ row) (c ∷ lines) h =
    let e = longer_first row lines (omega arith) in
    let a : cond {A = ℕ} (nat_lt 0 (suc (length c))) 1 0 ≡ 1 = ap (λ (b : Bool). cond {A = ℕ} b 1 0) (lt-ltb 0 (suc (length c)) (omega arith)) in
    omega arith

longer_transposed : (i : ℕ) (lines : List (List Bool)) → Falls (map length lines) → longer i (transposed lines) ≡ get_or (map length lines) i 0
unfolding longer
longer_transposed zero [] f = refl
longer_transposed (suc i) [] f = refl
longer_transposed zero (line ∷ lines) f = longer_first line (transposed lines) (length-transposed lines (falls_below line lines f) line f)
longer_transposed (suc i) (line ∷ lines) f =
    longer_put i line (transposed lines) (length-transposed lines (falls_below line lines f) line f) ∙ longer_transposed i lines (falls_below line lines f)

-- ---- the lines of the columns of a straight shape

AllCells : ℕ → List (List Bool) → Type 0
AllCells k [] = Unit {0}
AllCells k (line ∷ lines) = (OnlyCells line × (length line ≤ k)) × AllCells k lines

all_cells_more : (k m : ℕ) (lines : List (List Bool)) → k ≤ m → AllCells k lines → AllCells m lines
unfolding AllCells
all_cells_more k m [] h a = tt
all_cells_more k m (line ∷ lines) h a = let l = a.0.1 in ((a.0.0, omega arith), all_cells_more k m lines h a.1)

all_cells_put : (k : ℕ) (row : List Bool) (lines : List (List Bool)) → OnlyCells row → AllCells k lines → AllCells (suc k) (put_row row lines)
unfolding AllCells
all_cells_put k [] lines o a = all_cells_more k (suc k) lines (omega arith) a
all_cells_put k (x ∷ row) [] o a = (((o.0, tt), omega arith), all_cells_put k row [] o.1 tt)
all_cells_put k (x ∷ row) (c ∷ lines) o a = let l = a.0.1 in (((o.0, a.0.0), omega arith), all_cells_put k row lines o.1 a.1)

cells_only : (k : ℕ) → OnlyCells (replicate k true)
cells_only zero = tt
cells_only (suc k) = (refl, cells_only k)

all_cells_straight : (parts : List ℕ) → AllCells (length parts) (transposed (pattern_of parts []))
unfolding AllCells
all_cells_straight [] = tt
all_cells_straight (a ∷ parts) = all_cells_put (length parts) (line_of 0 (a - 0)) (transposed (pattern_of parts [])) (cells_only (a - 0)) (all_cells_straight parts)

all_cells_last : (k : ℕ) (lines : List (List Bool)) (line : List Bool) → AllCells k (lines ++ (line ∷ [])) → AllCells k lines × (OnlyCells line × (length line ≤ k))
unfolding AllCells
all_cells_last k [] line a = (tt, a.0)
all_cells_last k (first ∷ lines) line a = let r = all_cells_last k lines line a.1 in ((a.0, r.0), r.1)

pub long_last : (m : ℕ) (lines : List (List Bool)) (line : List Bool) → AreLong m (lines ++ (line ∷ [])) → m ≤ length line
long_last m [] line l = l.0
long_last m (first ∷ lines) line l = long_last m lines line l.1

straight_from : (n m : ℕ) (back : List (List Bool)) → Falls (map length (reverse back)) → AreLong m (reverse back) → AllCells n (reverse back) → AreStraight n m back
unfolding AreStraight
straight_from n m [] f l a = tt
straight_from n m (line ∷ back) f l a =
    let e : reverse (line ∷ back) ≡ reverse back ++ (line ∷ []) = reverse-append (line ∷ []) back in
    let p = falls_last (reverse back) line (subst (λ (ls : List (List Bool)). Falls (map length ls)) e f) in
    let c = all_cells_last n (reverse back) line (subst (λ (ls : List (List Bool)). AllCells n ls) e a) in
    let h = long_last m (reverse back) line (subst (λ (ls : List (List Bool)). AreLong m ls) e l) in
    (c.1.0, (h, (c.1.1, straight_from n (length line) back p.0 p.1 c.0)))

pub long_anyway : (lines : List (List Bool)) → AreLong 0 lines
long_anyway [] = tt
long_anyway (line ∷ lines) = (omega arith, long_anyway lines)

pub zeros_at : (n i : ℕ) → get_or (resize n []) i 0 ≡ 0
zeros_at zero zero = refl
zeros_at zero (suc i) = refl
zeros_at (suc n) zero = refl
zeros_at (suc n) (suc i) = zeros_at n i

pub at_resize : (n i : ℕ) (parts : List ℕ) → i < n → get_or (resize n parts) i 0 ≡ get_or parts i 0
at_resize zero i parts h = absurd (omega arith)
at_resize (suc n) zero [] h = refl
at_resize (suc n) (suc i) [] h = zeros_at n i
at_resize (suc n) zero (a ∷ parts) h = refl
at_resize (suc n) (suc i) (a ∷ parts) h = at_resize n i parts (omega arith)

sum_is_shape : (n : ℕ) (parts : List ℕ) → IsPartition parts → sum_along n (resize n []) (reverse (column_lines parts [])) ≡ resize n parts
sum_is_shape n parts p =
    same_places (sum_along n (resize n []) (reverse (column_lines parts []))) (resize n parts) (whole ∙ sym (length-resize n parts)) (λ i h. entry i (omega (arith, whole)))
  where
    whole : length (sum_along n (resize n []) (reverse (column_lines parts []))) ≡ n
    whole = length_sum_along n (resize n []) (reverse (column_lines parts [])) (length-resize n [])

    entry : (i : ℕ) → i < n → get_or (sum_along n (resize n []) (reverse (column_lines parts []))) i 0 ≡ get_or (resize n parts) i 0
    entry i h =
        let lengths = pattern_lengths parts [] (contains_nothing parts) in
        let a = at_sum_along n i (resize n []) (reverse (column_lines parts [])) h in
        let b = zeros_at n i in
        let c = longer_reverse i (column_lines parts []) in
        let d = longer_transposed i (pattern_of parts []) (subst Falls (sym lengths) p.falls) in
        let e = ap (λ (l : List ℕ). get_or l i 0) lengths in
        let f = at_resize n i parts h in
        omega arith

-- for a partition with at most n rows and the empty start, the columns can be chosen in only one way: the sum of g(content) over all ways to choose
-- them is g(the partition, padded with zeros to n entries)
pub straight_columns : (n : ℕ) (parts : List ℕ) (g : List ℕ → ℤ) → IsPartition parts → rows parts ≤ n
    → over_columns n (column_lines parts []) (λ s d. g s) (resize n []) [] ≡ g (resize n parts)
straight_columns n parts g p h =
    ap (λ (ls : List (List Bool)). over_columns n ls (λ s d. g s) (resize n []) []) (sym (reverse-reverse (column_lines parts [])))
    ∙ over_straight n 0 g (reverse (column_lines parts [])) (resize n []) (falling-resize n [] tt) (λ i l. zeros_at n i)
    (straight_from n 0 (reverse (column_lines parts []))
    (subst (λ (ls : List (List Bool)). Falls (map length ls)) (sym (reverse-reverse (column_lines parts []))) (falls-transposed (pattern_of parts [])))
    (long_anyway (reverse (reverse (column_lines parts []))))
    (subst (λ (ls : List (List Bool)). AllCells n ls) (sym (reverse-reverse (column_lines parts []))) (all_cells_more (length parts) n (column_lines parts []) h (all_cells_straight parts))))
    ∙ ap g (sum_is_shape n parts p)

-- ---- the letters of a column are strictly increasing; so a straight shape with more than n rows has no tableau with letters from 1 to n

ascends_length : (n a : ℕ) (line : List Bool) (w : List ℕ) → Ascends a w → OnlyCells line → Fits n line w → a ≤ n → a + length w ≤ n
unfolding Ascends
ascends_length n a line [] s o f h = omega arith
ascends_length n a [] (v ∷ w) s o f h = absurd f
ascends_length n a (p ∷ line) (v ∷ w) s o f h =
    let m = subst (λ (b : Bool). MayStand n b v) o.0 f.0 in
    let x = s.0 in
    let y = m.1 in
    let r = ascends_length n v line w s.1 o.1 f.1 y in
    omega arith

pub too_few_letters : (n : ℕ) (line : List Bool) (c : List ℕ) → OnlyCells line → Fits n line c → n < length line → is_chain may_stand_above c ≡ false
too_few_letters n line c o f h =
    false_from_ne_true (is_chain may_stand_above c) (λ e.
    let a = ascends_length n 0 line c (column_ascends n line c o f e) o f (omega arith) in
    let l = fits_length n line c f in
    absurd (omega arith))

-- the line of the leftmost column; the empty line if there is no column
abbrev pub leftmost_line : List (List Bool) → List Bool
leftmost_line [] = []
leftmost_line (line ∷ lines) = line

first_put : (row : List Bool) (lines : List (List Bool)) → leftmost_line (put_row (true ∷ row) lines) ≡ true ∷ leftmost_line lines
first_put row [] = refl
first_put row (c ∷ lines) = refl

first_row : (a : ℕ) (lines : List (List Bool)) → 0 < a → leftmost_line (put_row (line_of 0 (a - 0)) lines) ≡ true ∷ leftmost_line lines
first_row zero lines h = absurd (omega arith)
first_row (suc a) lines h =
    let e : suc a - 0 ≡ suc a = omega arith in
    ap (λ k. leftmost_line (put_row (line_of 0 k) lines)) e ∙ first_put (replicate a true) lines

pub leftmost_line_length : (parts : List ℕ) → ArePositive parts → length (leftmost_line (column_lines parts [])) ≡ length parts
leftmost_line_length [] p = refl
leftmost_line_length (a ∷ parts) p = ap length (first_row a (transposed (pattern_of parts [])) p.0) ∙ ap suc (leftmost_line_length parts p.1)

pub leftmost_line_cells : (parts : List ℕ) → OnlyCells (leftmost_line (column_lines parts []))
unfolding AllCells
leftmost_line_cells parts = by (column_lines parts []) (all_cells_straight parts)
  where
    by : (lines : List (List Bool)) → AllCells (length parts) lines → OnlyCells (leftmost_line lines)
    by [] a = tt
    by (line ∷ lines) a = a.0.0
