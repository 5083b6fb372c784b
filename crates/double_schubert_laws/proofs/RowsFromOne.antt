-- Products with Schubert polynomials, row by row of a diagram, as `diagram_rows_law` states them, with places counted from 1.
--     covers_at         Monk's sum of a function G over covers, by places, is the sum of G over lists of covers
--     pair_times_rows   `times_rows` is the polynomial whose pairings are the values of RowSteps
--     pair_one_row      `one_row` is the polynomial whose pairings are the expanded values
--     pair_next_power   the pairings of `one_row` with one power more of the variable
use Rattle.std.proofs.Common.{◌≡◌, ◌⊎◌, ℕ, zero, suc, ◌+◌, ◌-◌, ◌<◌, ◌≤◌, ◌==◌, List, [], ◌∷◌, length, get_or, map, take, flat_map, refl, sym, ◌∙◌, ap, ap₂, subst, arith, inl, inr, cond, nat_lt, None, Some, ℤ, pos, ◌+ℤ◌, ◌-ℤ◌, ◌*ℤ◌}
use Rattle.std.specs.List.{swap}
use Rattle.std.proofs.lemmas.Int.{ints}
use Rattle.std.proofs.lemmas.Bool.{cases_lt}
use Rattle.std.proofs.lemmas.Option.{none-some}
use Rattle.std.proofs.lemmas.List.{get_or-take, get_or_past, length-take}
use Rattle.sym_model.specs.Sum.{total, Once}
use Rattle.sym_model.specs.Partition.{Falls, after, cells}
use Rattle.sym_model.specs.PlaceOrders.{inversions, minus_one_to, sign}
use Rattle.sym_model.specs.Polynomial.{Poly, Same, In, nothing, one, negate, scale, times, restrict, pair, join}
use Rattle.sym_model.specs.BetaList.{rising_pairs}
use Rattle.sym_model.specs.Permutation.{IsOneLine, IsDescent, AreInverse, exchanged, first_ascent, code, swapped, covers_among}
use Rattle.sym_model.specs.DividedDifference.{divided_difference}
use Rattle.sym_model.specs.DoubleSchubert.{product_of, difference_in, difference_product, double_schubert}
use Rattle.sym_model.specs.Schubert.{schubert, schubert_over, schubert_in}
use Rattle.sym_model.proofs.AfterLists.{after_among}
use Rattle.sym_model.proofs.Exponents.{join_zeros}
use Rattle.sym_model.proofs.Polynomials.{pair_in, pair_plus, pair_negate, pair_scale, pair_each, pair_one, pair_restrict, pair_determined, same_from_pair, same_of_equal, Same_sym, Same_trans, In_one, In_times, In_restrict}
use Rattle.sym_model.proofs.PolynomialLaws.{restricted_test}
use Rattle.sym_model.proofs.Sums.{total_among, total_map, total_none, total_select}
use Rattle.schubert_laws.specs.Chains.{letters_before, elementary_in}
use Rattle.schubert_laws.specs.PathCovers.{covers_after, covers_before}
use Rattle.schubert_laws.proofs.AtOrigin.{at_origin, one_at_origin}
use Rattle.schubert_laws.proofs.ChainLetters.{cover_test}
use Rattle.schubert_laws.proofs.ChainSums.{if_less, if_not_less, later_term, monk_part, part_some}
use Rattle.schubert_laws.proofs.CoverTests.{letter_at, letter_most, up}
use Rattle.schubert_laws.proofs.DifferencesFromOne.{divided_respects}
use Rattle.schubert_laws.proofs.Exchanges.{Rises, IsFirstAscent, first_ascent_cases}
use Rattle.schubert_laws.proofs.MonkFromOne.{swap_is, sum_after, sum_split}
use Rattle.schubert_laws.proofs.Paths.{over_top, any_descent}
use Rattle.schubert_laws.proofs.Pieri.{after_factor, through_factor}
use Rattle.schubert_laws.proofs.PlaceSums.{sum_below, sum_below_ext}
use Rattle.double_schubert_laws.specs.AtZero.{at_x_zero}
use Rattle.double_schubert_laws.specs.DiagramRows.{AreWithin, HasLeftAscent, diagram_product, times_rows, over_covers_of, one_row, LeadsTo}
use Rattle.double_schubert_laws.proofs.DoubleDominant.{In_difference_in, pair_cells, entry_small, dominant_product}
use Rattle.double_schubert_laws.proofs.DoubleVariables.{any_descent_double}
use Rattle.double_schubert_laws.proofs.InverseSteps.{turned}
use Rattle.double_schubert_laws.proofs.Inverses.{inverse_at_zero, pair_x_zero, turned_is, from_one}
use Rattle.double_schubert_laws.proofs.Rows.{below, below_diagram, over_same, IsState, moved_by, moved_ext, place_in_state, value_at, expanded, expanded_ext}
use Rattle.double_schubert_laws.proofs.RowSteps.{In_over, value_of, row_term, row_step, row_none, row_tame, row_start}

-- ---- sums over covers, by places and as lists

covers_total : (G : List ℕ → ℤ) (q : List ℕ) (f : ℕ → List ℕ) (js : List ℕ)
    → total G (covers_among q (map f js)) ≡ total (λ j. cond (inversions (f j) == inversions q + 1) (G (f j)) (pos 0)) js
covers_total G q f js =
    total_select G (λ v. inversions v == inversions q + 1) (map f js) ∙ total_map (λ v. cond (inversions v == inversions q + 1) (G v) (pos 0)) f js

swap_term : (G : List ℕ → ℤ) (q : List ℕ) (a b i j : ℕ) → IsOneLine q → i - 1 ≡ a → j - 1 ≡ b → a < length q → b < length q
    → cond (inversions (swapped i j q) == inversions q + 1) (G (swapped i j q)) (pos 0) ≡ up G q a b
swap_term G q a b i j o x y h l =
    ap₂ (λ c d. cond (inversions (swap q c d) == inversions q + 1) (G (swap q c d)) (pos 0)) x y
    ∙ ap₂ (λ s v. cond s (G v) (pos 0)) (cover_test a b q o h l) (swap_is q a b h l)

total_before : (G : List ℕ → ℤ) (q : List ℕ) (r : ℕ) → IsOneLine q → r < length q → total G (covers_before (r + 1) q) ≡ sum_below r (λ a. up G q a r)
total_before G q r o h =
    let z : r + 1 - 1 ≡ r = omega arith in
    covers_total G q (λ a. swapped a (r + 1) q) (after 0 (r + 1 - 1))
    ∙ ap (λ n. total (λ j. cond (inversions (swapped j (r + 1) q) == inversions q + 1) (G (swapped j (r + 1) q)) (pos 0)) (after 0 n)) z
    ∙ total_among (λ j. cond (inversions (swapped j (r + 1) q) == inversions q + 1) (G (swapped j (r + 1) q)) (pos 0)) (λ j. up G q (j - 1) r) (after 0 r) (λ j m.
    let x = after_among 0 r j m in let x0 = x.0 in let x1 = x.1 in
    swap_term G q (j - 1) r j (r + 1) o refl (omega arith) (omega arith) h)
    ∙ sym (sum_after r 0 (λ a. up G q a r))
    ∙ sum_below_ext r (λ a. up G q (0 + a) r) (λ a. up G q a r) (λ a i. let e : 0 + a ≡ a = omega arith in ap (λ c. up G q c r) e)

total_after : (G : List ℕ → ℤ) (q : List ℕ) (r : ℕ) → IsOneLine q → r < length q → total G (covers_after (r + 1) q) ≡ sum_below (length q) (later_term (length q) r G q)
total_after G q r o h =
    let s = sum_split (length q) r (later_term (length q) r G q) h in
    let none = total_none (λ j. later_term (length q) r G q (j - 1)) (after 0 r) (λ j m. let x = after_among 0 r j m in let x0 = x.0 in let x1 = x.1 in if_not_less r (j - 1) _ (pos 0) (omega arith)) in
    let here : later_term (length q) r G q r ≡ pos 0 = if_not_less r r _ (pos 0) (omega arith) in
    let ups = covers_total G q (λ b. swapped (r + 1) b q) (after (r + 1) (length q - (r + 1))) in
    let same = total_among (λ j. cond (inversions (swapped (r + 1) j q) == inversions q + 1) (G (swapped (r + 1) j q)) (pos 0)) (λ j. later_term (length q) r G q (j - 1)) (after (r + 1) (length q - (r + 1))) (λ j m.
    let x = after_among (r + 1) (length q - (r + 1)) j m in let x0 = x.0 in let x1 = x.1 in
    swap_term G q r (j - 1) (r + 1) j o (omega arith) refl h (omega arith)
    ∙ sym (if_less r (j - 1) (cond (nat_lt (length q) (letter_at q (j - 1))) (pos 0) (up G q r (j - 1))) (pos 0) (omega arith)
    ∙ if_not_less (length q) (letter_at q (j - 1)) (pos 0) (up G q r (j - 1)) (letter_most q (j - 1) o (omega arith)))) in
    omega (arith, ints)

pub covers_at : (n i : ℕ) (G : List ℕ → ℤ) (q : List ℕ) → IsState n q → i < n
    → total G (covers_before (letters_before (n - i) q + 1) q) -ℤ total G (covers_after (letters_before (n - i) q + 1) q) ≡ moved_by n i G q
covers_at n i G q s h =
    let size = s.size in
    let p = place_in_state n i q s h in
    let b = total_before G q (letters_before (n - i) q) s.one_line (omega arith) in
    let a = total_after G q (letters_before (n - i) q) s.one_line (omega arith) in
    let m = part_some (length q) (letters_before (n - i) q) G q (letter_most q (letters_before (n - i) q) s.one_line (omega arith)) in
    let e = ap (λ k. monk_part k (letters_before (n - i) q) G q) size in
    omega (arith, ints)

-- ---- the product over some rows

In_cells : (n : ℕ) (cs : List (ℕ × ℕ)) → In (n + n) (product_of (n + n) (map (λ cell. difference_in cell.0 cell.1 n) cs))
In_cells n [] = In_one (n + n)
In_cells n (c ∷ cs) = In_times (n + n) (difference_in c.0 c.1 n) (product_of (n + n) (map (λ cell. difference_in cell.0 cell.1 n) cs)) (In_difference_in c.0 c.1 n) (In_cells n cs)

first_rows : (n : ℕ) (rows : List ℕ) (i : ℕ) (φ : List ℕ → ℤ) → AreWithin n rows → i ≤ n → pair (diagram_product (take i rows) n) φ ≡ pair (below n rows i) φ
first_rows n rows i φ w h =
    pair_cells n (take i rows) φ (let l = length-take i rows in omega arith) entry
    ∙ sym (below_diagram n rows i φ w h)
  where
    entry : (j : ℕ) → get_or (take i rows) j 0 ≤ n
    entry j = elim (cases_lt j i) [
      | inl l ↦ (let e = get_or-take i rows j 0 l in let b = w.at j in omega arith)
      | inr l ↦ (let e = get_or_past (take i rows) j 0 (let m = length-take i rows in omega arith) in omega arith)
    ]

-- s times a polynomial in y at x = 0
pair_at_q : (n k : ℕ) (s g : Poly) (f : List ℕ → ℤ) (q : List ℕ) → In (n + n) g
    → pair (times s (restrict k (at_x_zero n (schubert_over g q)))) f ≡ value_at n g (restricted_test k (after_factor s f)) q
pair_at_q n k s g f q i =
    through_factor s (restrict k (at_x_zero n (schubert_over g q))) f
    ∙ pair_restrict k (at_x_zero n (schubert_over g q)) (after_factor s f)
    ∙ pair_x_zero n (schubert_over g q) (restricted_test k (after_factor s f)) (In_over n g q i)

pub pair_times_rows : (n k : ℕ) (rows : List ℕ) (i : ℕ) (s : Poly) (f : List ℕ → ℤ) (q : List ℕ) → AreWithin n rows → i ≤ n → length q ≡ n
    → pair (times_rows k s (take i rows) q) f ≡ value_of n k s rows i f q
pair_times_rows n k rows i s f q w h e =
    ap (λ m. pair (times s (restrict k (at_x_zero m (schubert_over (diagram_product (take i rows) m) q)))) f) e
    ∙ pair_at_q n k s (diagram_product (take i rows) n) f q (In_cells n (cells (take i rows) []))
    ∙ over_same (diagram_product (take i rows) n) (below n rows i) q (at_origin n (restricted_test k (after_factor s f))) (λ ψ. first_rows n rows i ψ w h)

In_times_rows : (k : ℕ) (s : Poly) (rows q : List ℕ) → In k s → In k (times_rows k s rows q)
In_times_rows k s rows q i =
    In_times k s (restrict k (at_x_zero (length q) (schubert_over (diagram_product rows (length q)) q))) i (In_restrict k (at_x_zero (length q) (schubert_over (diagram_product rows (length q)) q)))

-- ---- one row more

pub pair_next_power : (e c m k : ℕ) (F : List ℕ → Poly) (f : List ℕ → ℤ) (q : List ℕ)
    → pair (one_row (suc e) c m k F q) f
    ≡ minus_one_to (suc e) *ℤ pair (F q) (after_factor (elementary_in (suc e) c k) f)
    +ℤ (total (λ v. pair (one_row e c m k F v) f) (covers_before (letters_before m q + 1) q) -ℤ total (λ v. pair (one_row e c m k F v) f) (covers_after (letters_before m q + 1) q))
pair_next_power e c m k F f q =
    let a = pair_plus (scale (minus_one_to (suc e)) (times (elementary_in (suc e) c k) (F q))) (over_covers_of m (λ v. one_row e c m k F v) q) f in
    let b = pair_scale (minus_one_to (suc e)) (times (elementary_in (suc e) c k) (F q)) f
    ∙ ap (λ z. minus_one_to (suc e) *ℤ z) (through_factor (elementary_in (suc e) c k) (F q) f) in
    let d = pair_plus (flat_map (λ v. one_row e c m k F v) (covers_before (letters_before m q + 1) q)) (negate (flat_map (λ v. one_row e c m k F v) (covers_after (letters_before m q + 1) q))) f in
    let g = pair_each (λ v. one_row e c m k F v) (covers_before (letters_before m q + 1) q) f in
    let n = pair_negate (flat_map (λ v. one_row e c m k F v) (covers_after (letters_before m q + 1) q)) f in
    let o = pair_each (λ v. one_row e c m k F v) (covers_after (letters_before m q + 1) q) f in
    omega (arith, ints)

pub pair_one_row : (e c n k i : ℕ) (F : List ℕ → Poly) (f : List ℕ → ℤ) (q : List ℕ) → ((v : List ℕ) → In k (F v)) → IsState n q → i < n
    → pair (one_row e c (n - i) k F q) f ≡ expanded e n i (λ d v. pair (F v) (after_factor (elementary_in d c k) f)) q
pair_one_row zero c n k i F f q j s h =
    pair_in k (F q) f (after_factor (one k) f) (j q) (λ β l. ap f (sym (join_zeros k β (omega arith))) ∙ sym (pair_one k (λ α. f (join α β))))
pair_one_row (suc e) c n k i F f q j s h =
    let a = pair_next_power e c (n - i) k F f q in
    let b = sym (turned_is (suc e) (pair (F q) (after_factor (elementary_in (suc e) c k) f))) in
    let x = covers_at n i (λ v. pair (one_row e c (n - i) k F v) f) q s h in
    let y = moved_ext n i (λ v. pair (one_row e c (n - i) k F v) f) (λ v. expanded e n i (λ d v. pair (F v) (after_factor (elementary_in d c k) f)) v) q s h (λ v t. pair_one_row e c n k i F f v j t h) in
    omega (arith, ints)

pair_row_of : (e c n k i : ℕ) (rows : List ℕ) (s : Poly) (f : List ℕ → ℤ) (q : List ℕ) → In k s → AreWithin n rows → IsState n q → i < n
    → pair (one_row e c (n - i) k (times_rows k s (take i rows)) q) f ≡ expanded e n i (row_term n k s rows i c f) q
pair_row_of e c n k i rows s f q j w t h =
    pair_one_row e c n k i (times_rows k s (take i rows)) f q (λ v. In_times_rows k s (take i rows) v j) t h
    ∙ expanded_ext e n i (λ d v. pair (times_rows k s (take i rows) v) (after_factor (elementary_in d c k) f)) (row_term n k s rows i c f) q t h (λ d v u.
    pair_times_rows n k rows i s (after_factor (elementary_in d c k) f) v w (omega arith) u.size)

pub rows_start : (k : ℕ) (s : Poly) (q : List ℕ) → In k s → first_ascent q ≡ None → Same (times_rows k s [] q) s
rows_start k s q i e =
    same_from_pair (times_rows k s [] q) s (λ f.
    pair_times_rows (length q) k [] 0 s f q none (omega arith) refl ∙ row_start (length q) k [] s f q i e)
  where
    none : AreWithin (length q) []
    none = record { at = λ i. omega arith }

pub rows_start_none : (k j : ℕ) (s : Poly) (q : List ℕ) → first_ascent q ≡ Some j → Same (times_rows k s [] q) nothing
rows_start_none k j s q e =
    same_from_pair (times_rows k s [] q) nothing (λ f.
    pair_at_q (length q) k s (one (length q + length q)) f q (In_one (length q + length q))
    ∙ by (first_ascent_cases q) (at_origin (length q) (restricted_test k (after_factor s f))))
  where
    by : ((i : ℕ) × IsFirstAscent q i) ⊎ ((first_ascent q ≡ None) × ((i : ℕ) → Rises i q → ⊥)) → (φ : List ℕ → ℤ) → pair (schubert_over (one (length q + length q)) q) φ ≡ pos 0
    by (inl found) φ = one_at_origin (length q + length q) found.0 q φ found.1.rises
    by (inr none) φ = absurd (none-some j (sym none.0 ∙ e))

pub next_row : (k i : ℕ) (s : Poly) (rows q : List ℕ) → In k s → IsOneLine q → AreWithin (length q) rows → i < length q
    → Same (times_rows k s (take (i + 1) rows) q) (one_row (get_or rows i 0) (get_or rows i 0) (length q - i) k (times_rows k s (take i rows)) q)
next_row k i s rows q j o w h =
    let z : i + 1 ≡ suc i = omega arith in
    same_from_pair (times_rows k s (take (i + 1) rows) q) (one_row (get_or rows i 0) (get_or rows i 0) (length q - i) k (times_rows k s (take i rows)) q) (λ f.
    ap (λ m. pair (times_rows k s (take m rows) q) f) z
    ∙ pair_times_rows (length q) k rows (suc i) s f q w h refl
    ∙ row_step (length q) k rows i s f q w (record { one_line = o; size = refl }) h
    ∙ sym (pair_row_of (get_or rows i 0) (get_or rows i 0) (length q) k i rows s f q j w (record { one_line = o; size = refl }) h))

pub rows_none : (k i : ℕ) (s : Poly) (rows q : List ℕ) → IsOneLine q → AreWithin (length q) rows → i ≤ length q → HasLeftAscent (length q - i) q
    → Same (times_rows k s (take i rows) q) nothing
rows_none k i s rows q o w h r =
    same_from_pair (times_rows k s (take i rows) q) nothing (λ f.
    pair_times_rows (length q) k rows i s f q w h refl ∙ row_none (length q) k rows i s f q w h (record { one_line = o; size = refl }) r)

pub row_within : (e c k i : ℕ) (s : Poly) (rows q : List ℕ) → In k s → IsOneLine q → AreWithin (length q) rows → i < length q → HasLeftAscent (length q - (i + 1)) q
    → Same (one_row e c (length q - i) k (times_rows k s (take i rows)) q) nothing
row_within e c k i s rows q j o w h r =
    let z : i + 1 ≡ suc i = omega arith in
    same_from_pair (one_row e c (length q - i) k (times_rows k s (take i rows)) q) nothing (λ f.
    let t = row_tame (length q) k rows i c e s f w h in
    pair_row_of e c (length q) k i rows s f q j w (record { one_line = o; size = refl }) h
    ∙ t.none 0 q (record { one_line = o; size = refl }) (subst (λ m. HasLeftAscent (length q - m) q) z r))

-- ---- the path, and all rows

pub code_within : (μ : List ℕ) → AreWithin (length μ) (code μ)
code_within μ = record { at = entry_small μ }

pub path_start : (μ p : List ℕ) → first_ascent p ≡ None → LeadsTo μ p μ
path_start μ p e =
    same_of_equal (schubert_over (double_schubert μ (length μ)) p) (double_schubert μ (length μ)) (over_top (double_schubert μ (length μ)) (rising_pairs p) p e)

pub path_step : (μ p w : List ℕ) (i : ℕ) → LeadsTo μ p w → IsDescent p i → IsDescent w i → LeadsTo μ (exchanged i p) (exchanged i w)
path_step μ p w i t d e =
    Same_trans (schubert_over (double_schubert μ (length μ)) (exchanged i p)) (divided_difference i (schubert_over (double_schubert μ (length μ)) p)) (double_schubert (exchanged i w) (length μ))
    (Same_sym (divided_difference i (schubert_over (double_schubert μ (length μ)) p)) (schubert_over (double_schubert μ (length μ)) (exchanged i p)) (any_descent (double_schubert μ (length μ)) p i d))
    (Same_trans (divided_difference i (schubert_over (double_schubert μ (length μ)) p)) (divided_difference i (double_schubert w (length μ))) (double_schubert (exchanged i w) (length μ))
    (divided_respects i (schubert_over (double_schubert μ (length μ)) p) (double_schubert w (length μ)) t)
    (any_descent_double w (length μ) i e))

-- all rows of the code of μ, at p: exchanges at common descents lead from μ and n, .., 1 to the inverse w of v and p
all_rows : (n k : ℕ) (s : Poly) (f : List ℕ → ℤ) (μ p v w : List ℕ) → length μ ≡ n → Once μ → Falls (code μ) → IsOneLine v → IsOneLine w → AreInverse v w → length w ≡ n → length p ≡ n → LeadsTo μ p w
    → pair (times_rows k s (code μ) p) f ≡ turned (inversions v) (pair (times s (schubert_in v k)) f)
all_rows n k s f μ p v w m o c x y a l q t =
    ap (λ j. pair (times s (restrict k (at_x_zero j (schubert_over (diagram_product (code μ) j) p)))) f) q
    ∙ pair_at_q n k s (diagram_product (code μ) n) f p (In_cells n (cells (code μ) []))
    ∙ over_same (diagram_product (code μ) n) (double_schubert μ n) p (at_origin n (restricted_test k (after_factor s f))) (λ ψ.
    sym (pair_determined (double_schubert μ n) (diagram_product (code μ) n) ψ (dominant_product n μ (omega arith) o c)))
    ∙ ap (λ j. pair (schubert_over (double_schubert μ j) p) (at_origin n (restricted_test k (after_factor s f)))) (sym m)
    ∙ pair_determined (schubert_over (double_schubert μ (length μ)) p) (double_schubert w (length μ)) (at_origin n (restricted_test k (after_factor s f))) t
    ∙ ap₂ (λ i j. pair (schubert_over (difference_product i j) w) (at_origin n (restricted_test k (after_factor s f)))) (l ∙ sym longs) (m ∙ sym longs)
    ∙ ap (λ j. pair (schubert_over (difference_product (length v) (length v)) w) (at_origin j (restricted_test k (after_factor s f)))) (sym longs)
    ∙ inverse_at_zero w v (restricted_test k (after_factor s f)) (from_one v w x y a)
    ∙ ap (turned (inversions v)) (sym (pair_restrict k (schubert v) (after_factor s f)) ∙ sym (through_factor s (schubert_in v k) f))
  where
    longs : length v ≡ n
    longs = a.as_long ∙ l

pub rows_end : (k : ℕ) (s : Poly) (μ p v w : List ℕ) → Once μ → Falls (code μ) → IsOneLine v → IsOneLine w → AreInverse v w → length w ≡ length μ → length p ≡ length μ → LeadsTo μ p w
    → Same (times_rows k s (code μ) p) (scale (sign v) (times s (schubert_in v k)))
rows_end k s μ p v w o c x y a l q t =
    same_from_pair (times_rows k s (code μ) p) (scale (sign v) (times s (schubert_in v k))) (λ f.
    all_rows (length μ) k s f μ p v w refl o c x y a l q t
    ∙ turned_is (inversions v) (pair (times s (schubert_in v k)) f)
    ∙ sym (pair_scale (sign v) (times s (schubert_in v k)) f))
