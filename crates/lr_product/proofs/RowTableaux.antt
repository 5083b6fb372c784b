-- The test for good tableaux by rows gives the same result as that by columns. A tableau is good for ν if, for each k, ν plus the content of its
-- last k columns is weakly decreasing. Here a row is described by a list of numbers (`above`): for t = n - 1, n - 2, .., 0, the number of letters of
-- the row that are at most t.
use Rattle.std.proofs.Common.{◌≡◌, ℕ, zero, suc, ◌+◌, ◌-◌, ◌<◌, ◌≤◌, ◌⊎◌, inl, inr, nat_le, Bool, true, ◌&&◌, List, [], ◌∷◌, map, length, drop, get_or, refl, sym, ap, ap₂, subst, ◌∙◌, arith, rules}
use Rattle.std.proofs.lemmas.Bool.{cases_lt, le-leb, leb-true, and_parts, and_from}
use Rattle.std.proofs.lemmas.List.{get_or_past, length-map}
use Rattle.sym_model.specs.Partition.{Falls, without_last_zeros}
use Rattle.sym_model.specs.Polynomial.{join, same}
use Rattle.sym_model.specs.Schur.{times_in, content, contains, letters_of}
use Rattle.sym_model.specs.GoodTableau.{is_falling}
use Rattle.sym_model.proofs.Exponents.{get_or-join, same_from, length-join, tests_agree}
use Rattle.sym_model.proofs.Lists.{drop-none}
use Rattle.sym_model.proofs.Parts.{length-without_last_zeros}
use Rattle.tableau_laws.specs.PaddedRows.{transposed, pattern_of}
use Rattle.tableau_laws.specs.Grid.{may_precede, is_chain, are_tableau_columns, may_stand_above}
use Rattle.tableau_laws.specs.ColumnFold.{sum_reached, is_good_by_columns}
use Rattle.tableau_laws.proofs.PatternFillings.{AllFit, filling_lengths}
use Rattle.tableau_laws.proofs.RowSums.{pattern_lengths}
use Rattle.tableau_laws.proofs.Grids.{grid-transposed}
use Rattle.tableau_laws.proofs.Contents.{times_in-transposed}
use Rattle.alternant_laws.proofs.Exchanges.{length_content}
use Rattle.alternant_laws.proofs.StraightShapes.{at_content, falls_places, Places}
use Rattle.schur_laws.proofs.RisingRows.{up_to_letter, Rises, counts_below}
use Rattle.schur_laws.proofs.Interlacing.{add_up, add_up-same, add_up-none}
use Rattle.schur_laws.proofs.TableauPlaces.{row, RowCounts, grid_back, letters_in_all, good_back, sum_at, places_fall, add_up-later}
use Rattle.schur_laws.proofs.GoodTableaux.{sum_of, all_up_to, tableau_tells, sum_right, row_facts}
use Rattle.schur_laws.proofs.Companions.{rows_compare, columns_compare}
use Rattle.schur_laws.proofs.Duality.{contains_places}
use Rattle.lr_product.proofs.RowWords.{places_down, strip_at, row_test}
use Rattle.strip_laws.proofs.Strips.{falls_get}
use Rattle.std.proofs.Math.Seq.{drop-nil}

-- whether the rows (with 0 at places outside the shape) are those of a good tableau for ν below the row described by `above`: each is weakly
-- increasing and passes `row_test` with the sum reached and the row before it
abbrev pub rows_test : ℕ → List ℕ → List ℕ → List (List ℕ) → Bool
rows_test n ν above [] = true
rows_test n ν above (w ∷ P) = (is_chain nat_le w && row_test n ν above w) && rows_test n (join ν (content n w)) (places_down n 0 w) P

-- ---- comparing ν plus the letters of the first rows of a tableau P, entry by entry

-- for all k and r, ν_(k+1) plus the number of letters k + 2 in the rows 0, .., r of P is at most ν_k plus the number of letters k + 1 in the rows 0,
-- .., r - 1
abbrev Compares : List ℕ → List (List ℕ) → Type 0
Compares ν P =
    (k r : ℕ) → get_or ν (suc k) 0 + add_up (λ i. times_in (suc (suc k)) (row P i)) 0 (suc r) ≤ get_or ν k 0 + add_up (λ i. times_in (suc k) (row P i)) 0 r

-- no row of P has a letter greater than n
abbrev HasLetters : ℕ → List (List ℕ) → Type 0
HasLetters n P = (r k : ℕ) → n < k → times_in k (row P r) ≡ 0

sum_with : (n : ℕ) (ν w : List ℕ) → ((k : ℕ) → n < k → times_in k w ≡ 0) → (k : ℕ) → get_or (join ν (content n w)) k 0 ≡ get_or ν k 0 + times_in (suc k) w
sum_with n ν w h k = search (rules, get_or-join, cases_lt, at_content, length_content, get_or_past)

strip_back : (t : ℕ) (ν : List ℕ) (i : ℕ) → ((k : ℕ) → t ≡ suc k → get_or ν (suc k) 0 + i ≤ get_or ν k 0) → strip_at t ν i ≡ true
strip_back zero ν i h = refl
strip_back (suc t) ν i h = le-leb (get_or ν (suc t) 0 + i) (get_or ν t 0) (h t refl)

drop_later : (k : ℕ) (v : List ℕ) → drop k (drop 1 v) ≡ drop (suc k) v
drop_later k [] = drop-nil k
drop_later k (a ∷ v) = ap (drop k) (drop-none v)

row_back : (t : ℕ) (ν above w : List ℕ) → ((j : ℕ) → j < t → may_precede nat_le (up_to_letter (suc j) w) (drop (t - suc j) above) ≡ true)
    → ((k : ℕ) → suc k < t → get_or ν (suc k) 0 + times_in (suc (suc k)) w ≤ get_or ν k 0) → row_test t ν above w ≡ true
row_back zero ν above w h s = refl
row_back (suc t) ν above w h s =
    and_from (may_precede nat_le (up_to_letter (suc t) w) above) (strip_at t ν (times_in (suc t) w) && row_test t ν (drop 1 above) w)
    (let e : suc t - suc t ≡ 0 = omega arith in
    sym (ap (λ l. may_precede nat_le (up_to_letter (suc t) w) l) (ap (λ k. drop k above) e ∙ drop-none above)) ∙ h t (omega arith))
    (and_from (strip_at t ν (times_in (suc t) w)) (row_test t ν (drop 1 above) w)
    (strip_back t ν (times_in (suc t) w) (λ k e. (let g = s k (omega arith) in let x = ap (λ j. times_in (suc j) w) e in omega arith)))
    (row_back t ν (drop 1 above) w (λ j l.
    (let e : suc t - suc j ≡ suc (t - suc j) = omega arith in
    ap (λ l'. may_precede nat_le (up_to_letter (suc j) w) l') (drop_later (t - suc j) above ∙ ap (λ k. drop k above) (sym e)) ∙ h j (omega arith)))
    (λ k l. s k (omega arith))))

-- the consequences of `row_test` for a row w and the letters up to t: w fits below the row described by `above`, and for k + 1 < t, ν_(k+1) plus the
-- number of letters k + 2 in w is at most ν_k
pub record RowTold (t : ℕ) (ν above w : List ℕ) : Type 0 where
  pub below : (j : ℕ) → j < t → may_precede nat_le (up_to_letter (suc j) w) (drop (t - suc j) above) ≡ true
  pub strip : (k : ℕ) → suc k < t → get_or ν (suc k) 0 + times_in (suc (suc k)) w ≤ get_or ν k 0

row_tells : (t : ℕ) (ν above w : List ℕ) → row_test t ν above w ≡ true → RowTold t ν above w
row_tells zero ν above w e = record { below = λ j l. absurd (omega arith); strip = λ k l. absurd (omega arith) }
row_tells (suc t) ν above w e =
    let p = and_parts (may_precede nat_le (up_to_letter (suc t) w) above) (strip_at t ν (times_in (suc t) w) && row_test t ν (drop 1 above) w) e in
    let q = and_parts (strip_at t ν (times_in (suc t) w)) (row_test t ν (drop 1 above) w) p.1 in
    let r = row_tells t ν (drop 1 above) w q.1 in
    record {
      below = λ j l. below j (cases_lt j t) l p.0 r;
      strip = λ k l. strip t k (cases_lt (suc k) t) l q.0 r;
    }
  where
    below : (j : ℕ) → (j < t) ⊎ (t ≤ j) → j < suc t → may_precede nat_le (up_to_letter (suc t) w) above ≡ true → RowTold t ν (drop 1 above) w
        → may_precede nat_le (up_to_letter (suc j) w) (drop (suc t - suc j) above) ≡ true
    below j (inl l) h p r =
        let e : suc t - suc j ≡ suc (t - suc j) = omega arith in
        ap (λ l'. may_precede nat_le (up_to_letter (suc j) w) l') (ap (λ k. drop k above) e ∙ sym (drop_later (t - suc j) above)) ∙ r.below j l
    below j (inr l) h p r =
        let i : j ≡ t = omega arith in
        let e : suc t - suc j ≡ 0 = omega arith in
        ap₂ (λ k l'. may_precede nat_le (up_to_letter (suc k) w) l') i (ap (λ k. drop k above) e ∙ drop-none above) ∙ p

    strip : (t' k : ℕ) → (suc k < t') ⊎ (t' ≤ suc k) → suc k < suc t' → strip_at t' ν (times_in (suc t') w) ≡ true → RowTold t' ν (drop 1 above) w
        → get_or ν (suc k) 0 + times_in (suc (suc k)) w ≤ get_or ν k 0
    strip t' k (inl l) h q r = r.strip k l
    strip zero k (inr l) h q r = absurd (omega arith)
    strip (suc t') k (inr l) h q r =
        let i : k ≡ t' = omega arith in
        subst (λ j. get_or ν (suc j) 0 + times_in (suc (suc j)) w ≤ get_or ν j 0) (sym i) (leb-true (get_or ν (suc t') 0 + times_in (suc (suc t')) w) (get_or ν t' 0) q)

drop_places : (d i : ℕ) (x : ℕ) (w : List ℕ) → i < d → may_precede nat_le x (drop (d - suc i) (places_down d 0 w)) ≡ nat_le x (up_to_letter i w)
drop_places zero i x w l = absurd (omega arith)
drop_places (suc d) i x w l = by (cases_lt i d) (λ h. drop_places d i x w h)
  where
    by : (i < d) ⊎ (d ≤ i) → (i < d → may_precede nat_le x (drop (d - suc i) (places_down d 0 w)) ≡ nat_le x (up_to_letter i w)) → may_precede nat_le x (drop (suc d - suc i) (places_down (suc d) 0 w)) ≡ nat_le x (up_to_letter i w)
    by (inl h) rec =
        let e : suc d - suc i ≡ suc (d - suc i) = omega arith in
        ap (λ k. may_precede nat_le x (drop k (places_down (suc d) 0 w))) e ∙ rec h
    by (inr h) rec =
        let e : suc d - suc i ≡ 0 = omega arith in
        let z : 0 + d ≡ i = omega arith in
        ap (λ k. may_precede nat_le x (drop k (places_down (suc d) 0 w))) e ∙ ap (λ k. nat_le x (up_to_letter k w)) z

drop_nothing : (k x : ℕ) → may_precede nat_le x (drop k []) ≡ true
drop_nothing zero x = refl
drop_nothing (suc k) x = refl

-- ---- the test of all rows of a filling

-- the first row of P fits below the row described by `above`; always true if `above` is empty
abbrev FirstBelow : ℕ → List ℕ → List (List ℕ) → Type 0
FirstBelow n above P = (j : ℕ) → j < n → may_precede nat_le (up_to_letter (suc j) (row P 0)) (drop (n - suc j) above) ≡ true

next_compares : (n : ℕ) (ν w : List ℕ) (P : List (List ℕ)) → ((k : ℕ) → n < k → times_in k w ≡ 0) → Compares ν (w ∷ P) → Compares (join ν (content n w)) P
next_compares n ν w P h c k r =
    let a = sum_with n ν w h (suc k) in
    let b = sum_with n ν w h k in
    let x = c k (suc r) in
    let y = add_up-later (λ i. times_in (suc (suc k)) (row (w ∷ P) i)) 0 (suc r) in
    let z = add_up-later (λ i. times_in (suc k) (row (w ∷ P) i)) 0 r in
    omega arith

rows_back : (n : ℕ) (ν above : List ℕ) (P : List (List ℕ)) → ((r : ℕ) → Rises (row P r)) → HasLetters n P
    → ((r k : ℕ) → up_to_letter (suc k) (row P (suc r)) ≤ up_to_letter k (row P r)) → FirstBelow n above P → Compares ν P → rows_test n ν above P ≡ true
rows_back n ν above [] rises letters columns first compares = refl
rows_back n ν above (w ∷ P) rises letters columns first compares =
    and_from (is_chain nat_le w && row_test n ν above w) (rows_test n (join ν (content n w)) (places_down n 0 w) P)
    (and_from (is_chain nat_le w) (row_test n ν above w) (rises 0) (row_back n ν above w first (λ k l. (let c = compares k 0 in omega arith))))
    (rows_back n (join ν (content n w)) (places_down n 0 w) P (λ r. rises (suc r)) (λ r. letters (suc r)) (λ r k. columns (suc r) k)
    (λ j l. drop_places n j (up_to_letter (suc j) (row P 0)) w l ∙ le-leb (up_to_letter (suc j) (row P 0)) (up_to_letter j w) (columns 0 j))
    (next_compares n ν w P (letters 0) compares))

-- the consequences of `rows_test` for the rows P: each row is weakly increasing and fits below the row before it, and the sums satisfy `Compares`
pub record RowsTold (n : ℕ) (ν above : List ℕ) (P : List (List ℕ)) : Type 0 where
  pub rises : (r : ℕ) → Rises (row P r)
  pub first : FirstBelow n above P
  pub columns : (r k : ℕ) → k < n → up_to_letter (suc k) (row P (suc r)) ≤ up_to_letter k (row P r)
  pub compares : Compares ν P

none_in_rest : (x r : ℕ) → times_in x (row [] r) ≡ 0
none_in_rest x r = ap (times_in x) (get_or_past {X = List ℕ} [] r [] (omega arith))

none_up : (k r : ℕ) → up_to_letter k (row [] r) ≡ 0
none_up k r = ap (up_to_letter k) (get_or_past {X = List ℕ} [] r [] (omega arith))

no_letters : (x a k : ℕ) → add_up (λ i. times_in x (row [] i)) a k ≡ 0
no_letters x a zero = refl
no_letters x a (suc k) = let e = none_in_rest x a in let f = no_letters x (suc a) k in omega arith

rows_tell : (n : ℕ) (ν above : List ℕ) (P : List (List ℕ)) → length ν ≡ n → Places ν → HasLetters n P
    → ((j : ℕ) → j < n → may_precede nat_le 0 (drop (n - suc j) above) ≡ true) → rows_test n ν above P ≡ true → RowsTold n ν above P
rows_tell n ν above [] long falls letters start e = record {
  rises = λ r. subst Rises (sym (get_or_past {X = List ℕ} [] r [] (omega arith))) refl;
  first = λ j l. (let z = none_up (suc j) 0 in ap (λ x. may_precede nat_le x (drop (n - suc j) above)) z ∙ start j l);
  columns = λ r k l. (let z = none_up (suc k) (suc r) in omega arith);
  compares = λ k r. (let f = falls k in let a = no_letters (suc (suc k)) 0 (suc r) in let b = no_letters (suc k) 0 r in omega arith);
}
rows_tell n ν above (w ∷ P) long falls letters start e =
    let p = and_parts (is_chain nat_le w && row_test n ν above w) (rows_test n (join ν (content n w)) (places_down n 0 w) P) e in
    let q = and_parts (is_chain nat_le w) (row_test n ν above w) p.0 in
    let told = row_tells n ν above w q.1 in
    let strip = strips told in
    let rest = rows_tell n (join ν (content n w)) (places_down n 0 w) P (let j = length-join ν (content n w) in let c = length_content n w in omega arith)
    (λ k. (let a = sum_with n ν w (letters 0) (suc k) in let b = sum_with n ν w (letters 0) k in let s = strip k in omega arith))
    (λ r. letters (suc r)) (λ j l. drop_places n j 0 w l ∙ le-leb 0 (up_to_letter j w) (omega arith)) p.1 in
    record {
      rises = λ r. each_rises r q.0 rest;
      first = told.below;
      columns = λ r k l. each_column r k l rest;
      compares = λ k r. each_compares k r strip rest;
    }
  where
    strips : RowTold n ν above w → (k : ℕ) → get_or ν (suc k) 0 + times_in (suc (suc k)) w ≤ get_or ν k 0
    strips told k = by (cases_lt (suc k) n)
      where
        by : (suc k < n) ⊎ (n ≤ suc k) → get_or ν (suc k) 0 + times_in (suc (suc k)) w ≤ get_or ν k 0
        by (inl l) = told.strip k l
        by (inr l) = let a = get_or_past ν (suc k) 0 (omega arith) in let b = letters 0 (suc (suc k)) (omega arith) in omega arith

    each_rises : (r : ℕ) → is_chain nat_le w ≡ true → RowsTold n (join ν (content n w)) (places_down n 0 w) P → Rises (row (w ∷ P) r)
    each_rises zero c rest = c
    each_rises (suc r) c rest = rest.rises r

    each_column : (r k : ℕ) → k < n → RowsTold n (join ν (content n w)) (places_down n 0 w) P → up_to_letter (suc k) (row (w ∷ P) (suc r)) ≤ up_to_letter k (row (w ∷ P) r)
    each_column zero k l rest = leb-true (up_to_letter (suc k) (row P 0)) (up_to_letter k w) (sym (drop_places n k (up_to_letter (suc k) (row P 0)) w l) ∙ rest.first k l)
    each_column (suc r) k l rest = rest.columns r k l

    each_compares : (k r : ℕ) → ((i : ℕ) → get_or ν (suc i) 0 + times_in (suc (suc i)) w ≤ get_or ν i 0) → RowsTold n (join ν (content n w)) (places_down n 0 w) P
        → get_or ν (suc k) 0 + add_up (λ i. times_in (suc (suc k)) (row (w ∷ P) i)) 0 (suc r) ≤ get_or ν k 0 + add_up (λ i. times_in (suc k) (row (w ∷ P) i)) 0 r
    each_compares k zero strip rest = let s = strip k in omega arith
    each_compares k (suc r) strip rest =
        let a = sum_with n ν w (letters 0) (suc k) in
        let b = sum_with n ν w (letters 0) k in
        let x = rest.compares k r in
        let y = add_up-later (λ i. times_in (suc (suc k)) (row (w ∷ P) i)) 0 (suc r) in
        let z = add_up-later (λ i. times_in (suc k) (row (w ∷ P) i)) 0 r in
        omega arith

-- ---- the test by columns (`is_good_by_columns`), in terms of rows

sum_in_all : (n : ℕ) (ν : List ℕ) (P : List (List ℕ)) → HasLetters n P → (i : ℕ) → get_or (sum_reached n ν (drop 0 (transposed P))) i 0 ≡ sum_of (drop 0) ν P i
sum_in_all n ν P h i =
    ap (λ (cs : List (List ℕ)). get_or (sum_reached n ν cs) i 0) (drop-none (transposed P))
    ∙ sum_at n ν (transposed P) (λ k l. times_in-transposed k P ∙ letters_in_all k P ∙ add_up-none (λ r. times_in k (row P r)) 0 (length P) (λ r m. h r k l)) i
    ∙ ap (λ x. get_or ν i 0 + x) (times_in-transposed (suc i) P ∙ letters_in_all (suc i) P ∙ add_up-same (λ r. times_in (suc i) (row P r)) (λ r. times_in (suc i) (drop 0 (row P r))) 0 (length P) (λ r. ap (times_in (suc i)) (sym (drop-none (row P r)))))

-- if ν is weakly decreasing and P is a filling of outer/inner with letters from 1 to n, the test of its columns and the test `rows_test` of its rows
-- have the same result
pub test_same : (n : ℕ) (ν outer inner : List ℕ) (P : List (List ℕ)) → Falls outer → contains outer inner ≡ true → length ν ≡ n → is_falling ν ≡ true
    → AllFit n (pattern_of outer inner) P → (are_tableau_columns (transposed P) && is_good_by_columns n ν (transposed P)) ≡ rows_test n ν [] P
test_same n ν outer inner P falls holds long descends fit =
    tests_agree (are_tableau_columns (transposed P) && is_good_by_columns n ν (transposed P)) (rows_test n ν [] P) forth (λ e. back (rows_tell n ν [] P long (falls_places ν descends) letters (λ j l. drop_nothing (n - suc j) 0) e))
  where
    lengths : map length P ≡ outer
    lengths = filling_lengths n (pattern_of outer inner) P fit ∙ pattern_lengths outer inner holds

    size : length P ≡ length outer
    size = sym (length-map P (λ (w : List ℕ). length w)) ∙ ap (λ (w : List ℕ). length w) lengths

    facts : (r : ℕ) → RowCounts n (get_or inner r 0) (get_or outer r 0 - get_or inner r 0) (row P r)
    facts r = row_facts n outer inner P size (contains_places outer inner holds) fit r

    letters : (r k : ℕ) → n < k → times_in k (row P r) ≡ 0
    letters r k l = (facts r).letters k l

    forth : (are_tableau_columns (transposed P) && is_good_by_columns n ν (transposed P)) ≡ true → rows_test n ν [] P ≡ true
    forth e =
        let sum = sum_reached n ν (transposed P) in
        let end = without_last_zeros sum in
        let l = length-without_last_zeros sum in
        let j = length-join ν (content n (letters_of (transposed P))) in
        let c = length_content n (letters_of (transposed P)) in
        let T = tableau_tells n ν outer inner end P falls holds (contains_places outer inner holds) (omega arith) (omega arith) fit
        (and_from (are_tableau_columns (transposed P) && is_good_by_columns n ν (transposed P)) (same end end) e (same_from end end refl)) in
        rows_back n ν [] P T.rises T.letters T.columns (λ i m. drop_nothing (n - suc i) (up_to_letter (suc i) (row P 0))) (rows_compare n ν outer inner end P T)

    back : RowsTold n ν [] P → (are_tableau_columns (transposed P) && is_good_by_columns n ν (transposed P)) ≡ true
    back told =
        and_from (are_tableau_columns (transposed P)) (is_good_by_columns n ν (transposed P))
        (sym (grid-transposed nat_le may_stand_above P (subst Falls (sym lengths) falls))
        ∙ grid_back P told.rises (λ r. counts_below (row P r) (row P (suc r)) (told.rises r) (told.rises (suc r)) (columns r)))
        (good_back n ν (transposed P) falling)
      where
        whole : (k r : ℕ) → n ≤ k → up_to_letter k (row P r) ≡ get_or outer r 0
        whole k r l =
            let a = all_up_to k (row P r) (λ x m. letters r x (omega arith)) in
            let b = (facts r).long in
            let i = contains_places outer inner holds r in
            omega arith

        columns : (r k : ℕ) → up_to_letter (suc k) (row P (suc r)) ≤ up_to_letter k (row P r)
        columns r k = by (cases_lt k n)
          where
            by : (k < n) ⊎ (n ≤ k) → up_to_letter (suc k) (row P (suc r)) ≤ up_to_letter k (row P r)
            by (inl l) = told.columns r k l
            by (inr l) = let a = whole (suc k) (suc r) (omega arith) in let b = whole k r l in let f = falls_get outer falls r in omega arith

        falling : (j : ℕ) → is_falling (sum_reached n ν (drop j (transposed P))) ≡ true
        falling zero = places_fall (sum_reached n ν (drop 0 (transposed P))) (λ i.
            let e = columns_compare ν P told.rises columns told.compares 0 i in
            let l = sum_in_all n ν P letters (suc i) in let r = sum_in_all n ν P letters i in omega arith)
        falling (suc j) = places_fall (sum_reached n ν (drop (suc j) (transposed P))) (λ i.
            let e = columns_compare ν P told.rises columns told.compares (suc j) i in
            let l = sum_right n ν P letters j (suc i) in let r = sum_right n ν P letters j i in omega arith)

-- if ν is weakly decreasing and the row w is weakly increasing and passes `row_test`, ν plus the content of w is weakly decreasing
pub row_descends : (n : ℕ) (ν above w : List ℕ) → length ν ≡ n → Places ν → (is_chain nat_le w && row_test n ν above w) ≡ true → Places (join ν (content n w))
row_descends n ν above w long falls e k =
    let told = row_tells n ν above w (and_parts (is_chain nat_le w) (row_test n ν above w) e).1 in
    by (cases_lt (suc k) n) told
  where
    by : (suc k < n) ⊎ (n ≤ suc k) → RowTold n ν above w → get_or (join ν (content n w)) (suc k) 0 ≤ get_or (join ν (content n w)) k 0
    by (inl l) told =
        let a = get_or-join ν (content n w) (suc k) in
        let b = get_or-join ν (content n w) k in
        let c = at_content n (suc k) w l in
        let s = told.strip k l in
        omega arith
    by (inr l) told =
        let j = length-join ν (content n w) in
        let c = length_content n w in
        let a = get_or_past (join ν (content n w)) (suc k) 0 (omega arith) in
        omega arith
