-- A tableau P is good for the partition `start` if, for each column, start plus the content of this column and of the columns to its right is a
-- partition. Here the good tableaux P for which start plus the content of P is a given list `end` are described by the number of times that each
-- letter occurs in each row of P. Each row of P is padded: it begins with a zero for each cell of the inner partition.
use Rattle.std.proofs.Common.{◌≡◌, ℕ, zero, suc, ◌+◌, ◌-◌, ◌<◌, ◌≤◌, ◌⊎◌, ◌==◌, Bool, true, cond, ◌&&◌, List, [], ◌∷◌, map, length, drop, get_or, nat_le, sym, ◌∙◌, ap, subst, refl, inl, inr, arith}
use Rattle.std.proofs.lemmas.Bool.Decides.{nat_tests}
use Rattle.std.proofs.lemmas.Bool.{cases_lt, and_parts, and_from}
use Rattle.std.proofs.lemmas.List.{get_or_past, length-map}
use Rattle.sym_model.specs.Partition.{Falls, ArePositive, without_last_zeros}
use Rattle.sym_model.specs.Polynomial.{same, resize}
use Rattle.sym_model.specs.Schur.{times_in, letters_of, content, contains}
use Rattle.sym_model.specs.GoodTableau.{is_falling}
use Rattle.sym_model.proofs.Exponents.{same_true, same_from, length-join, length-resize}
use Rattle.tableau_laws.specs.PaddedRows.{transposed, pattern_of}
use Rattle.tableau_laws.specs.Grid.{may_stand_above, is_padded_tableau, are_tableau_columns}
use Rattle.tableau_laws.specs.ColumnFold.{sum_reached, is_good_by_columns}
use Rattle.tableau_laws.proofs.Contents.{times_in-transposed}
use Rattle.tableau_laws.proofs.PatternFillings.{AllFit, filling_lengths}
use Rattle.tableau_laws.proofs.Grids.{grid-transposed}
use Rattle.tableau_laws.proofs.RowSums.{pattern_lengths}
use Rattle.alternant_laws.proofs.Exchanges.{length_content}
use Rattle.alternant_laws.proofs.StraightShapes.{falls_places, same_places, at_resize}
use Rattle.alternant_laws.proofs.FallingAlternants.{resize-without_last_zeros, without_last_zeros-resize}
use Rattle.schur_laws.proofs.RisingRows.{up_to_letter, one_more_letter, zeros_up_to, Rises, below_counts, counts_below}
use Rattle.schur_laws.proofs.Interlacing.{add_up, add_up-last, add_up-none}
use Rattle.schur_laws.proofs.TableauPlaces.{row, RowCounts, line_tells, line_back, fit_at, fit_all, grid_tells, grid_back, letters_right, letters_in_all, good_tells, good_back, sum_at, places_fall}
use Rattle.strip_laws.proofs.Strips.{falls_get}
use Rattle.sym_model.proofs.Lists.{drop-none}

-- whether the padded rows P are a tableau that is good for start, and start plus its content is `end`
abbrev pub is_counted : ℕ → List ℕ → List ℕ → List (List ℕ) → Bool
is_counted n start end P =
    are_tableau_columns (transposed P) && is_good_by_columns n start (transposed P)
    && same (without_last_zeros (sum_reached n start (transposed P))) end

-- `sum_of cut start P i`: start_i plus the number of letters i + 1 in all the words cut(row) together, for the rows of P
abbrev pub sum_of : (List ℕ → List ℕ) → List ℕ → List (List ℕ) → ℕ → ℕ
sum_of cut start P i = get_or start i 0 + add_up (λ r. times_in (suc i) (cut (row P r))) 0 (length P)

pub record IsTableau (n : ℕ) (start outer inner end : List ℕ) (P : List (List ℕ)) : Type 0 where
  pub size : length P ≡ length outer
  pub rises : (r : ℕ) → Rises (row P r)
  pub zeros : (r : ℕ) → times_in 0 (row P r) ≡ get_or inner r 0
  pub long : (r : ℕ) → length (row P r) ≡ get_or outer r 0
  pub letters : (r k : ℕ) → n < k → times_in k (row P r) ≡ 0
  pub columns : (r k : ℕ) → up_to_letter (suc k) (row P (suc r)) ≤ up_to_letter k (row P r)
  pub good : (j i : ℕ) → sum_of (drop (suc j)) start P (suc i) ≤ sum_of (drop (suc j)) start P i
  pub all_good : (i : ℕ) → sum_of (λ w. w) start P (suc i) ≤ sum_of (λ w. w) start P i
  pub sums : (i : ℕ) → sum_of (λ w. w) start P i ≡ get_or end i 0

pub letters_up_to : (k : ℕ) (w : List ℕ) → up_to_letter k w ≡ times_in 0 w + add_up (λ i. times_in (suc i) w) 0 k
letters_up_to zero w = let e = zeros_up_to w in omega arith
letters_up_to (suc k) w =
    let e = letters_up_to k w in
    let f = one_more_letter k w in
    let g = add_up-last (λ i. times_in (suc i) w) 0 k in
    let d : 0 + k ≡ k = omega arith in
    let h = ap (λ i. times_in (suc i) w) d in
    omega arith

pub all_up_to : (m : ℕ) (w : List ℕ) → ((k : ℕ) → m < k → times_in k w ≡ 0) → up_to_letter m w ≡ length w
all_up_to m [] h = refl
all_up_to m (a ∷ w) h = by (cases_lt m a) (all_up_to m w (λ k l. let e = h k l in omega arith))
  where
    by : (m < a) ⊎ (a ≤ m) → up_to_letter m w ≡ length w → cond {A = ℕ} (nat_le a m) 1 0 + up_to_letter m w ≡ suc (length w)
    by (inl l) e = let f = h a l in let g : cond {A = ℕ} (a == a) 1 0 ≡ 1 = grind (arith, nat_tests) in absurd (omega arith)
    by (inr l) e = let g : cond {A = ℕ} (nat_le a m) 1 0 ≡ 1 = grind (arith, nat_tests) in omega arith

-- ---- consequences of the test `is_counted` for the rows of a tableau

falls_for : (outer : List ℕ) (P : List (List ℕ)) → map length P ≡ outer → Falls outer → Falls (map length P)
falls_for outer P e f = subst Falls (sym e) f

pub row_facts : (n : ℕ) (outer inner : List ℕ) (P : List (List ℕ)) → length P ≡ length outer → ((r : ℕ) → get_or inner r 0 ≤ get_or outer r 0)
    → AllFit n (pattern_of outer inner) P → (r : ℕ) → RowCounts n (get_or inner r 0) (get_or outer r 0 - get_or inner r 0) (row P r)
row_facts n outer inner P e inside f r = by (cases_lt r (length outer))
  where
    by : (r < length outer) ⊎ (length outer ≤ r) → RowCounts n (get_or inner r 0) (get_or outer r 0 - get_or inner r 0) (row P r)
    by (inl l) = line_tells n (get_or inner r 0) (get_or outer r 0 - get_or inner r 0) (row P r) (fit_at n outer inner P f r l)
    by (inr l) =
        let past : row P r ≡ [] = get_or_past P r [] (omega arith) in
        let o = get_or_past outer r 0 l in
        let i = inside r in
        record {
          zeros = ap (times_in 0) past ∙ omega arith;
          long = ap (λ (w : List ℕ). length w) past ∙ omega arith;
          letters = λ x m. ap (times_in x) past;
        }

-- if no letter of P is greater than n, then the entry at the index i of start + content(the columns after the first j + 1) is start_i plus the number
-- of letters i + 1 in these columns
pub sum_right : (n : ℕ) (start : List ℕ) (P : List (List ℕ)) → ((r k : ℕ) → n < k → times_in k (row P r) ≡ 0) → (j i : ℕ)
    → get_or (sum_reached n start (drop (suc j) (transposed P))) i 0 ≡ sum_of (drop (suc j)) start P i
sum_right n start P h j i =
    sum_at n start (drop (suc j) (transposed P)) (λ k l. letters_right k j P ∙ add_up-none (λ r. times_in k (drop (suc j) (row P r))) 0 (length P) (λ r m. none k (suc j) (row P r) (h r k l))) i
    ∙ ap (λ x. get_or start i 0 + x) (letters_right (suc i) j P)
  where
    none : (k d : ℕ) (w : List ℕ) → times_in k w ≡ 0 → times_in k (drop d w) ≡ 0
    none k zero [] e = refl
    none k (suc d) [] e = refl
    none k zero (a ∷ w) e = e
    none k (suc d) (a ∷ w) e = none k d w (omega arith)

sum_in_all : (n : ℕ) (start : List ℕ) (P : List (List ℕ)) → ((r k : ℕ) → n < k → times_in k (row P r) ≡ 0) → (i : ℕ)
    → get_or (sum_reached n start (transposed P)) i 0 ≡ sum_of (λ w. w) start P i
sum_in_all n start P h i =
    sum_at n start (transposed P) (λ k l. times_in-transposed k P ∙ letters_in_all k P ∙ add_up-none (λ r. times_in k (row P r)) 0 (length P) (λ r m. h r k l)) i
    ∙ ap (λ x. get_or start i 0 + x) (times_in-transposed (suc i) P ∙ letters_in_all (suc i) P)

length_sum : (n : ℕ) (start : List ℕ) (cs : List (List ℕ)) → length start ≤ n → length (sum_reached n start cs) ≡ n
length_sum n start cs h =
    let e = length-join start (content n (letters_of cs)) in
    let d = length_content n (letters_of cs) in
    omega arith

sum_tells : (n : ℕ) (s end : List ℕ) → length s ≡ n → length end ≤ n → without_last_zeros s ≡ end → (i : ℕ) → get_or s i 0 ≡ get_or end i 0
sum_tells n s end l m e i = by (cases_lt i n)
  where
    is : s ≡ resize n end
    is = sym (resize-without_last_zeros n s l) ∙ ap (resize n) e

    by : (i < n) ⊎ (n ≤ i) → get_or s i 0 ≡ get_or end i 0
    by (inl h) = ap (λ (v : List ℕ). get_or v i 0) is ∙ at_resize n i end h
    by (inr h) = get_or_past s i 0 (omega arith) ∙ sym (get_or_past end i 0 (omega arith))

sum_back : (n : ℕ) (s end : List ℕ) → length s ≡ n → length end ≤ n → ArePositive end → ((i : ℕ) → get_or s i 0 ≡ get_or end i 0) → without_last_zeros s ≡ end
sum_back n s end l m p h =
    ap without_last_zeros (same_places s (resize n end) (l ∙ sym (length-resize n end)) (λ i k. h i ∙ sym (at_resize n i end (omega arith))))
    ∙ without_last_zeros-resize n end p m

pub tableau_tells : (n : ℕ) (start outer inner end : List ℕ) (P : List (List ℕ)) → Falls outer → contains outer inner ≡ true → ((r : ℕ) → get_or inner r 0 ≤ get_or outer r 0)
    → length start ≤ n → length end ≤ n
    → AllFit n (pattern_of outer inner) P → is_counted n start end P ≡ true → IsTableau n start outer inner end P
tableau_tells n start outer inner end P falls holds inside s t fit c =
    let lengths = filling_lengths n (pattern_of outer inner) P fit ∙ pattern_lengths outer inner holds in
    let size = sym (length-map P (λ (w : List ℕ). length w)) ∙ ap (λ (w : List ℕ). length w) lengths in
    let a = and_parts (are_tableau_columns (transposed P) && is_good_by_columns n start (transposed P)) (same (without_last_zeros (sum_reached n start (transposed P))) end) c in
    let b = and_parts (are_tableau_columns (transposed P)) (is_good_by_columns n start (transposed P)) a.0 in
    let grid = grid-transposed nat_le may_stand_above P (falls_for outer P lengths falls) ∙ b.0 in
    let facts = row_facts n outer inner P size inside fit in
    let letters : (r k : ℕ) → n < k → times_in k (row P r) ≡ 0 = λ r. (facts r).letters in
    let falling : (j : ℕ) → is_falling (sum_reached n start (drop j (transposed P))) ≡ true = good_tells n start (transposed P) b.1 in
    let long : (r : ℕ) → length (row P r) ≡ get_or outer r 0 = λ r. (let e = (facts r).long in let i = inside r in omega arith) in
    let places : (i : ℕ) → sum_of (λ w. w) start P i ≡ get_or end i 0
    = λ i. sym (sum_in_all n start P letters i) ∙ sum_tells n (sum_reached n start (transposed P)) end (length_sum n start (transposed P) s) t (same_true (without_last_zeros (sum_reached n start (transposed P))) end a.1) i in
    record {
      size = size;
      rises = λ r. (grid_tells P grid r).0;
      zeros = λ r. (facts r).zeros;
      long = long;
      letters = letters;
      columns = λ r k. below_counts k (row P r) (row P (suc r)) (grid_tells P grid r).1
          (let e = long r in let e' = long (suc r) in let f = falls_get outer falls r in omega arith);
      good = λ j i. (let e = falls_places (sum_reached n start (drop (suc j) (transposed P))) (falling (suc j)) i in
          let l = sum_right n start P letters j (suc i) in let r = sum_right n start P letters j i in omega arith);
      all_good = λ i. (let e = falls_places (sum_reached n start (drop 0 (transposed P))) (falling 0) i in
          let d = ap (λ (cs : List (List ℕ)). get_or (sum_reached n start cs) (suc i) 0) (drop-none (transposed P)) in
          let d' = ap (λ (cs : List (List ℕ)). get_or (sum_reached n start cs) i 0) (drop-none (transposed P)) in
          let l = sum_in_all n start P letters (suc i) in let r = sum_in_all n start P letters i in omega arith);
      sums = places;
    }

pub tableau_back : (n : ℕ) (start outer inner end : List ℕ) (P : List (List ℕ)) → Falls outer → contains outer inner ≡ true → ((r : ℕ) → get_or inner r 0 ≤ get_or outer r 0)
    → length start ≤ n → length end ≤ n → ArePositive end
    → IsTableau n start outer inner end P → AllFit n (pattern_of outer inner) P × (is_counted n start end P ≡ true)
tableau_back n start outer inner end P falls holds inside s t positive T = (
  fit,
  and_from (are_tableau_columns (transposed P) && is_good_by_columns n start (transposed P)) (same (without_last_zeros (sum_reached n start (transposed P))) end)
      (and_from (are_tableau_columns (transposed P)) (is_good_by_columns n start (transposed P)) (sym (grid-transposed nat_le may_stand_above P (falls_for outer P lengths falls)) ∙ grid) good)
      (same_from (without_last_zeros (sum_reached n start (transposed P))) end
      (sum_back n (sum_reached n start (transposed P)) end (length_sum n start (transposed P) s) t positive (λ i. sum_in_all n start P T.letters i ∙ T.sums i))),
)
  where
    fit : AllFit n (pattern_of outer inner) P
    fit = fit_all n outer inner P T.size (λ r l. line_back n (get_or inner r 0) (get_or outer r 0 - get_or inner r 0) (row P r) (T.rises r) (record {
      zeros = T.zeros r;
      long = let e = T.long r in let i = inside r in omega arith;
      letters = T.letters r;
    }))

    lengths : map length P ≡ outer
    lengths = filling_lengths n (pattern_of outer inner) P fit ∙ pattern_lengths outer inner holds

    grid : is_padded_tableau P ≡ true
    grid = grid_back P T.rises (λ r. counts_below (row P r) (row P (suc r)) (T.rises r) (T.rises (suc r)) (T.columns r))

    falling : (j : ℕ) → is_falling (sum_reached n start (drop j (transposed P))) ≡ true
    falling zero = places_fall (sum_reached n start (drop 0 (transposed P))) (λ i.
        let e = T.all_good i in
        let d = ap (λ (cs : List (List ℕ)). get_or (sum_reached n start cs) (suc i) 0) (drop-none (transposed P)) in
        let d' = ap (λ (cs : List (List ℕ)). get_or (sum_reached n start cs) i 0) (drop-none (transposed P)) in
        let l = sum_in_all n start P T.letters (suc i) in let r = sum_in_all n start P T.letters i in omega arith)
    falling (suc j) = places_fall (sum_reached n start (drop (suc j) (transposed P))) (λ i.
        let e = T.good j i in
        let l = sum_right n start P T.letters j (suc i) in let r = sum_right n start P T.letters j i in omega arith)

    good : is_good_by_columns n start (transposed P) ≡ true
    good = good_back n start (transposed P) falling
