-- A row of a diagram letter by letter of the greater permutation w, as `double_rows_law` states it (`row_by_letters`): w is followed by more fixed letters
-- than the row has cells.
use Rattle.std.proofs.Common.{◌≡◌, ℕ, zero, suc, ◌+◌, ◌-◌, ◌<◌, ◌≤◌, List, [], ◌∷◌, ◌++◌, length, get_or, take, drop, flat_map, refl, sym, ◌∙◌, ap, ap₂, subst, arith, cond, nat_lt, Bool, true, false, ℤ, pos, ◌+ℤ◌, ◌-ℤ◌, length-append}
use Rattle.std.proofs.lemmas.Int.{ints}
use Rattle.std.proofs.Math.ListN.{get_or-append}
use Rattle.std.proofs.lemmas.List.{replicate-append-replicate}
use Rattle.sym_model.specs.Partition.{after}
use Rattle.sym_model.specs.PlaceOrders.{places}
use Rattle.sym_model.specs.Polynomial.{Term, Poly, Same, In, nothing, one, plus, negate, times, pair, resize}
use Rattle.sym_model.specs.Expansion.{beside}
use Rattle.sym_model.specs.Permutation.{IsOneLine}
use Rattle.sym_model.specs.DividedDifference.{variable_in, raised}
use Rattle.sym_model.specs.Schubert.{schubert_over}
use Rattle.sym_model.specs.DoubleSchubert.{restrict_both, double_schubert_in, shifted_in}
use Rattle.sym_model.proofs.AfterLists.{length_after}
use Rattle.sym_model.proofs.Exponents.{length-resize}
use Rattle.sym_model.proofs.Polynomials.{pair_in, pair_plus, pair_negate, pair_determined, same_from_pair, Same_refl, times_respects, In_plus, In_times, In_negate, In_each, In_map}
use Rattle.sym_model.proofs.PolynomialLaws.{one-times, times_assoc, pair_times_comm}
use Rattle.schubert_laws.specs.Chains.{letters_before, lifted}
use Rattle.schubert_laws.specs.PathCovers.{covers_after, covers_before}
use Rattle.schubert_laws.proofs.CoverTests.{letter_most}
use Rattle.schubert_laws.proofs.DifferenceLaws.{variable_after, pair_variable_times}
use Rattle.schubert_laws.proofs.Exchanges.{raise}
use Rattle.schubert_laws.proofs.FixedTails.{one_line_added}
use Rattle.schubert_laws.proofs.Pieri.{through_factor, after_factor}
use Rattle.schubert_laws.proofs.ChainSums.{lift, lift_ext}
use Rattle.schubert_laws.proofs.Swaps.{swap_at}
use Rattle.double_schubert_laws.specs.DiagramRows.{AreWithin, HasLeftAscent}
use Rattle.double_schubert_laws.proofs.InverseSteps.{turned}
use Rattle.double_schubert_laws.proofs.RowSteps.{In_over}
use Rattle.double_schubert_laws.proofs.Rows.{below, In_below, over_same, IsState, IsFree, free_below, free_more, moved_ext, place_in_state}
use Rattle.double_pieri_laws.specs.DoubleChains.{elementary_of, first_x, these_y}
use Rattle.double_pieri_laws.proofs.DoubleChainSums.{double_sum, lift_sum}
use Rattle.double_pieri_laws.proofs.DoublePieri.{shown, y_shown, exchanged_factors, pieri_at_y}
use Rattle.double_pieri_laws.proofs.DoublePieriLaw.{no_power_y, plain_product, fewer_letters}
use Rattle.double_pieri_laws.proofs.UnmovedLetters.{split_sum, split_ext}
use Rattle.double_row_laws.specs.DoubleRows.{times_double_rows, over_place_of}
use Rattle.double_row_laws.specs.SweptRows.{swept}
use Rattle.double_row_laws.proofs.ExpandedRows.{valued, moved_y, moved_y_ext, x_moves, In_y, In_elementary_y, with_y, expanded_y, row_expanded_y}
use Rattle.double_row_laws.proofs.RestrictedMirrors.{turned_over, elementary_turned_over}
use Rattle.double_row_laws.proofs.DoubleRowsFromOne.{tested, pair_tested, moved_factor, no_value_y, raised_test, x_factor, In_x, pair_times_rows_y}
use Rattle.double_row_laws.proofs.FreeRows.{flipped, free_x, gathered, In_gathered, gathered_value, letters_within}
use Rattle.double_row_laws.proofs.SweptLetters.{small_all, power_term, swept_expanded, swept_sum}
use Rattle.double_row_laws.proofs.SweptRows.{IsShifted, AreShown, y_to, pair_swept}

-- ---- powers of x_i as factors

abbrev x_of : ℕ → ℕ → Poly → Poly
x_of n i h = times (beside (variable_in (suc i) n) (one n)) h

abbrev powered : ℕ → ℕ → ℕ → Poly → Poly
powered zero n i h = h
powered (suc e) n i h = powered e n i (x_of n i h)

In_x_of : (n i : ℕ) (h : Poly) → In (n + n) h → In (n + n) (x_of n i h)
In_x_of n i h j = In_times (n + n) (beside (variable_in (suc i) n) (one n)) h (In_x n (suc i)) j

In_powered : (e n i : ℕ) (h : Poly) → In (n + n) h → In (n + n) (powered e n i h)
In_powered zero n i h j = j
In_powered (suc e) n i h j = In_powered e n i (x_of n i h) (In_x_of n i h j)

one_power_more : (e n i : ℕ) (h : Poly) → powered (suc e) n i h ≡ x_of n i (powered e n i h)
one_power_more zero n i h = refl
one_power_more (suc e) n i h = one_power_more e n i (x_of n i h)

power_moves : (n i : ℕ) (h : Poly) (φ : List ℕ → ℤ) (q : List ℕ) → In (n + n) h → IsState n q → i < n → valued (x_of n i h) φ q ≡ moved_y n i (valued h) φ q
power_moves n i h φ q j s l =
    over_same (x_of n i h) (times (variable_after i) h) q φ (λ ψ. x_factor n i h ψ j l ∙ sym (pair_variable_times i (n + n) h ψ j (omega arith)))
    ∙ x_moves n i h φ q j s l

-- ---- the sums of a row by powers

pair_flipped : (k : ℕ) (f : Poly) (φ : List ℕ → ℤ) → pair (flipped k f) φ ≡ turned k (pair f φ)
pair_flipped zero f φ = refl
pair_flipped (suc k) f φ = pair_flipped k (negate f) φ ∙ ap (turned k) (pair_negate f φ)

x_gathered : (e c n i : ℕ) (h : Poly) (ψ : List ℕ → ℤ) → pair (x_of n i (gathered e c n i h)) ψ ≡ pair (gathered e c n i (x_of n i h)) ψ
x_gathered zero c n i h ψ = refl
x_gathered (suc e) c n i h ψ =
    let x : Poly = beside (variable_in (suc i) n) (one n) in
    let E : Poly = elementary_of (n + n) (suc e) (these_y (places c) n) in
    let a = through_factor x (gathered (suc e) c n i h) ψ in
    let b = pair_plus (flipped (suc e) (times E h)) (times x (gathered e c n i h)) (after_factor x ψ) in
    let d = pair_flipped (suc e) (times E h) (after_factor x ψ) in
    let f = ap (turned (suc e)) (sym (through_factor x (times E h) ψ) ∙ exchanged_factors x E h ψ) in
    let g = pair_flipped (suc e) (times E (x_of n i h)) ψ in
    let k = x_gathered e c n i h (after_factor x ψ) in
    let l = through_factor x (gathered e c n i (x_of n i h)) ψ in
    let m = pair_plus (flipped (suc e) (times E (x_of n i h))) (times x (gathered e c n i (x_of n i h))) ψ in
    omega (arith, ints)

moved_expanded : (e c n i : ℕ) (h : Poly) (φ : List ℕ → ℤ) (q : List ℕ) → In (n + n) h → IsState n q → i < n → c ≤ n
    → moved_y n i (λ ψ v. expanded_y e n i (with_y n c h) ψ v) φ q ≡ expanded_y e n i (with_y n c (x_of n i h)) φ q
moved_expanded e c n i h φ q j s l k =
    moved_y_ext n i (λ ψ v. expanded_y e n i (with_y n c h) ψ v) (valued (gathered e c n i h)) φ φ q s l
    (sym (gathered_value e c n i h (λ α. φ (raise (letters_before (n - i) q) α)) q j s l k)) (λ v t. sym (gathered_value e c n i h φ v j t l k))
    ∙ sym (power_moves n i (gathered e c n i h) φ q (In_gathered e c n i h j) s l)
    ∙ over_same (x_of n i (gathered e c n i h)) (gathered e c n i (x_of n i h)) q φ (x_gathered e c n i h)
    ∙ gathered_value e c n i (x_of n i h) φ q (In_x_of n i h j) s l k

by_powers : (e c n i : ℕ) (h : Poly) (φ : List ℕ → ℤ) (q : List ℕ) → In (n + n) h → IsState n q → i < n → c ≤ n
    → expanded_y e n i (with_y n c h) φ q ≡ split_sum e (λ d a. turned d (pair (times (elementary_of (n + n) d (these_y (places c) n)) (schubert_over (powered a n i h) q)) φ))
by_powers zero c n i h φ q j s l k = refl
by_powers (suc e) c n i h φ q j s l k =
    ap (λ z. turned (suc e) (pair (with_y n c h (suc e) q) φ) +ℤ z) (moved_expanded e c n i h φ q j s l k ∙ by_powers e c n i (x_of n i h) φ q (In_x_of n i h j) s l k)

-- ---- the values of T^E·y^β·S_v

abbrev power_at : ℕ → ℕ → ℕ → Poly → ℕ → List ℕ → Poly
power_at n k i g E q = turned_over n k (schubert_over (powered E n i g) q)

abbrev labelled : ℕ → ℕ → ℕ → Poly → (List ℕ → ℤ) → List ℕ → ℕ → List ℕ → List ℕ → ℤ
labelled n k i g f q E = shown k (after_factor (power_at n k i g E q) f)

labelled_value : (n k i : ℕ) (g : Poly) (f : List ℕ → ℤ) (q : List ℕ) (E : ℕ) (β v : List ℕ) → labelled n k i g f q E β v ≡ valued (powered E n i g) (tested n k (shifted_in (v, β) k) f) q
labelled_value n k i g f q E β v =
    sym (through_factor (power_at n k i g E q) (shifted_in (v, β) k) f)
    ∙ pair_times_comm (power_at n k i g E q) (shifted_in (v, β) k) f
    ∙ pair_tested n k (shifted_in (v, β) k) (schubert_over (powered E n i g) q) f

y_in_front : (n k a : ℕ) (U : Poly) (f : List ℕ → ℤ) (β v : List ℕ) → IsOneLine v
    → pair U (tested n k (shifted_in (v, β) k) (after_factor (beside (one k) (variable_in a k)) f)) ≡ pair U (tested n k (shifted_in (v, raised a β) k) f)
y_in_front n k a U f β v o =
    let y : Poly = beside (one k) (variable_in a k) in
    let s : Poly = shifted_in (v, β) k in
    let t : Poly = turned_over n k U in
    sym (pair_tested n k s U (after_factor y f))
    ∙ sym (through_factor y (times s t) f)
    ∙ sym (pair_determined (times (times y s) t) (times y (times s t)) f (times_assoc y s t))
    ∙ pair_determined (times (times y s) t) (times (shifted_in (v, raised a β) k) t) f
    (times_respects (times y s) (shifted_in (v, raised a β) k) t t (same_from_pair (times y s) (shifted_in (v, raised a β) k) (λ ψ. y_shown k a β v ψ o)) (Same_refl t))
    ∙ pair_tested n k (shifted_in (v, raised a β) k) U f

labelled_shifts : (n k i : ℕ) (g : Poly) (f : List ℕ → ℤ) → In (n + n) g → i < n → IsShifted n i (labelled n k i g f)
labelled_shifts n k i g f j h = record {
  at = λ q E β v s o.
      let p = place_in_state n i q s h in
      let r : ℕ = letters_before (n - i) q in
      let z : suc (letters_before (n - i) q) ≡ letters_before (n - i) q + 1 = omega arith in
      let w : Poly = powered E n i g in
      let iw = In_powered E n i g j in
      labelled_value n k i g f q (suc E) β v
      ∙ ap (λ u. valued u (tested n k (shifted_in (v, β) k) f) q) (one_power_more E n i g)
      ∙ power_moves n i (powered E n i g) (tested n k (shifted_in (v, β) k) f) q iw s h
      ∙ ap₂ ◌+ℤ◌
      (pair_in (n + n) (schubert_over w q) (λ α. tested n k (shifted_in (v, β) k) f (raise (letters_before (n - i) q) α)) (tested n k (shifted_in (v, β) k) (after_factor (beside (one k) (variable_in (suc (letters_before (n - i) q)) k)) f))
      (In_over n w q iw) (λ α l. sym (raised_test n k (letters_before (n - i) q) (shifted_in (v, β) k) f p α l))
      ∙ y_in_front n k (suc (letters_before (n - i) q)) (schubert_over w q) f β v o
      ∙ ap (λ a. valued w (tested n k (shifted_in (v, raised a β) k) f) q) z
      ∙ sym (labelled_value n k i g f q E (raised (letters_before (n - i) q + 1) β) v))
      (moved_ext n i (valued w (tested n k (shifted_in (v, β) k) f)) (λ x. labelled n k i g f x E β v) q s h (λ x t. sym (labelled_value n k i g f x E β v)));
}

labelled_rows : (n k : ℕ) (rows : List ℕ) (i : ℕ) (f : List ℕ → ℤ) → AreWithin n rows → i ≤ n
    → AreShown n k f (λ v p. times_double_rows k (double_schubert_in v k) (take i rows) p) (labelled n k i (below n rows i) f)
labelled_rows n k rows i f w h = record {
  at = λ q v β s o.
      let U : Poly = schubert_over (below n rows i) q in
      let S : Poly = double_schubert_in v k in
      let y : Poly = y_to β k in
      through_factor y (times_double_rows k S (take i rows) q) f
      ∙ pair_times_rows_y n k rows i S (after_factor y f) q w h s.size
      ∙ sym (pair_tested n k S U (after_factor y f))
      ∙ sym (through_factor y (times S (turned_over n k U)) f)
      ∙ sym (pair_determined (times (times y S) (turned_over n k U)) (times y (times S (turned_over n k U))) f (times_assoc y S (turned_over n k U)))
      ∙ pair_tested n k (shifted_in (v, β) k) U f
      ∙ sym (labelled_value n k i (below n rows i) f q 0 β v);
}

-- ---- `swept` is a polynomial in k variables x and k variables y

In_swept : (m c k l : ℕ) (F : List ℕ → List ℕ → Poly) (w q : List ℕ) → ((v p : List ℕ) → In (k + k) (F v p)) → In (k + k) (swept m c k l F w q)
In_swept zero c k l F w q h = h w q
In_swept (suc m) c k l F w q h = by (nat_lt (letters_before (suc m) w) c) (λ v p. In_swept m c k l F v p h)
  where
    by : (t : Bool) → ((v p : List ℕ) → In (k + k) (swept m c k l F v p))
        → In (k + k) (cond t (plus (over_place_of l k (λ p. swept m c k l F w p) q) (negate (times (beside (one k) (variable_in (suc m) k)) (swept m c k l F w q))))
        (plus (swept m c k l F w q) (negate (flat_map (λ v. swept m c k l F v q) (lifted c (suc m) w)))))
    by true r =
        In_plus (k + k) (over_place_of l k (λ p. swept m c k l F w p) q) (negate (times (beside (one k) (variable_in (suc m) k)) (swept m c k l F w q)))
        (In_plus (k + k) (times (beside (one k) (variable_in (letters_before l q + 1) k)) (swept m c k l F w q)) _
        (In_times (k + k) (beside (one k) (variable_in (letters_before l q + 1) k)) (swept m c k l F w q) (In_y k (letters_before l q + 1)) (r w q))
        (In_plus (k + k) (flat_map (λ p. swept m c k l F w p) (covers_before (letters_before l q + 1) q)) (negate (flat_map (λ p. swept m c k l F w p) (covers_after (letters_before l q + 1) q)))
        (In_each (k + k) (λ p. swept m c k l F w p) (covers_before (letters_before l q + 1) q) (λ p x. r w p))
        (In_negate (k + k) (flat_map (λ p. swept m c k l F w p) (covers_after (letters_before l q + 1) q)) (In_each (k + k) (λ p. swept m c k l F w p) (covers_after (letters_before l q + 1) q) (λ p x. r w p)))))
        (In_negate (k + k) (times (beside (one k) (variable_in (suc m) k)) (swept m c k l F w q)) (In_times (k + k) (beside (one k) (variable_in (suc m) k)) (swept m c k l F w q) (In_y k (suc m)) (r w q)))
    by false r =
        In_plus (k + k) (swept m c k l F w q) (negate (flat_map (λ v. swept m c k l F v q) (lifted c (suc m) w))) (r w q)
        (In_negate (k + k) (flat_map (λ v. swept m c k l F v q) (lifted c (suc m) w)) (In_each (k + k) (λ v. swept m c k l F v q) (lifted c (suc m) w) (λ v x. r v q)))

-- ---- the row

In_cut : (m k : ℕ) (f : Poly) → In (k + k) (restrict_both m k f)
In_cut m k f =
    In_map (k + k) (λ (t : Term). (resize k (take m t.0) ++ resize k (drop m t.0), t.1)) _ (λ t x.
    let p = length-append (resize k (take m t.0)) (resize k (drop m t.0)) in
    let q = length-resize k (take m t.0) in
    let r = length-resize k (drop m t.0) in
    omega arith)

In_product_rows : (k : ℕ) (rows v p : List ℕ) → In (k + k) (times_double_rows k (double_schubert_in v k) rows p)
In_product_rows k rows v p =
    In_times (k + k) (double_schubert_in v k) (restrict_both (length p) k _) (In_cut (length v) k _) (In_cut (length p) k _)

no_power_in : (k : ℕ) (R : Poly) (f : List ℕ → ℤ) → In (k + k) R → pair (times (y_to [] k) R) f ≡ pair R f
no_power_in k R f i =
    ap (λ h. pair (times (beside (one k) h) R) f) (no_power_y k)
    ∙ ap (λ α. pair (times ((α, pos 1) ∷ []) R) f) (replicate-append-replicate k k 0)
    ∙ pair_determined (times (one (k + k)) R) R f (one-times (k + k) R i)

-- the term with e_d, both ways
one_term : (n k i c j d e : ℕ) (g : Poly) (u q : List ℕ) (f : List ℕ → ℤ) → IsOneLine u → c ≤ length u → c < j → c ≤ n → In (n + n) g
    → pair (times (elementary_of (n + n) d (these_y (places c) n)) (schubert_over (powered e n i g) q)) (tested n k (double_schubert_in (u ++ after (length u) j) k) f)
    ≡ double_sum (length u + 1) d c (labelled n k i g f q e) [] (u ++ after (length u) j)
one_term n k i c j d e g u q f o h l m b =
    let S : Poly = double_schubert_in (u ++ after (length u) j) k in
    let T : Poly = power_at n k i g e q in
    let El : Poly = elementary_of (k + k) d (first_x c k) in
    let z : length u + 1 + (j - 1) ≡ length u + j = omega arith in
    moved_factor n k S (elementary_of (n + n) d (these_y (places c) n)) El (schubert_over (powered e n i g) q) f (In_elementary_y n d (places c)) (In_over n (powered e n i g) q (In_powered e n i g b))
    (elementary_turned_over n k d (places c) (letters_within n c m))
    ∙ sym (pair_tested n k S (schubert_over (powered e n i g) q) (after_factor El f))
    ∙ sym (through_factor El (times S T) f)
    ∙ sym (pair_determined (times (times El S) T) (times El (times S T)) f (times_assoc El S T))
    ∙ pair_times_comm (times El S) T f
    ∙ through_factor T (times El S) f
    ∙ sym (plain_product k El (u ++ after (length u) j) (after_factor T f))
    ∙ sym (pieri_at_y c d j (length u + j) k u [] (after_factor T f) o h (omega arith) refl)
    ∙ ap (λ m. double_sum m d c (shown k (after_factor T f)) [] (u ++ after (length u) j)) (sym z)
    ∙ fewer_letters (j - 1) d c j (shown k (after_factor T f)) [] u o h (omega arith)

pub row_by_letters : (k i j : ℕ) (rows w q : List ℕ) → IsOneLine w → IsOneLine q → AreWithin (length q) rows → i < length q → get_or rows i 0 ≤ length w → get_or rows i 0 < j
    → Same (times_double_rows k (double_schubert_in (w ++ after (length w) j) k) (take (i + 1) rows) q)
    (swept (length w + 1) (get_or rows i 0) k (length q - i) (λ v p. times_double_rows k (double_schubert_in v k) (take i rows) p) (w ++ after (length w) j) q)
row_by_letters k i j rows w q o a r h l m =
    let z : i + 1 ≡ suc i = omega arith in
    let s : IsState (length q) q = record { one_line = a; size = refl } in
    let g : Poly = below (length q) rows i in
    let b = In_below (length q) rows i r (omega arith) in
    let c : ℕ = get_or rows i 0 in
    let W : List ℕ = w ++ after (length w) j in
    let ow = one_line_added j w o in
    let lw = length-append w (after (length w) j) in
    let la = length_after (length w) j in
    let F : List ℕ → List ℕ → Poly = λ v p. times_double_rows k (double_schubert_in v k) (take i rows) p in
    same_from_pair (times_double_rows k (double_schubert_in W k) (take (i + 1) rows) q) (swept (length w + 1) c k (length q - i) F W q) (λ f.
    ap (λ m. pair (times_double_rows k (double_schubert_in W k) (take m rows) q) f) z
    ∙ pair_times_rows_y (length q) k rows (suc i) (double_schubert_in W k) f q r h refl
    ∙ row_expanded_y (length q) i c g (tested (length q) k (double_schubert_in W k) f) q b s h (r.at i)
    ∙ by_powers c c (length q) i g (tested (length q) k (double_schubert_in W k) f) q b s h (r.at i)
    ∙ split_ext c (λ d e. turned d (pair (times (elementary_of (length q + length q) d (these_y (places c) (length q))) (schubert_over (powered e (length q) i g) q)) (tested (length q) k (double_schubert_in W k) f)))
    (power_term (length w + 1) c (labelled (length q) k i g f q) 0 [] W) (λ d e x.
    let y : e ≡ e + 0 = omega arith in
    ap (turned d) (one_term (length q) k i c j d e g w q f o l m (r.at i) b ∙ ap (λ t. double_sum (length w + 1) d c (labelled (length q) k i g f q t) [] W) y))
    ∙ ap (λ t. split_sum t (power_term (length w + 1) c (labelled (length q) k i g f q) 0 [] W)) (sym (small_all c (length w + 1) W (λ x y.
    let p = get_or-append w (after (length w) j) (suc x) x (omega arith) in
    let t = letter_most w x o (omega arith) in
    omega arith)))
    ∙ sym (swept_expanded (length w + 1) c (labelled (length q) k i g f q) 0 [] W ow (omega arith) (omega arith))
    ∙ sym (pair_swept (length w + 1) (length q) i c k F (labelled (length q) k i g f) f [] W q (labelled_rows (length q) k rows i f r (omega arith)) (labelled_shifts (length q) k i g f b h) s h ow (omega arith))
    ∙ no_power_in k (swept (length w + 1) c k (length q - i) F W q) f (In_swept (length w + 1) c k (length q - i) F W q (λ v p. In_product_rows k (take i rows) v p)))

-- ---- within the row: no value at lists with a left ascent

free_powered : (e n i : ℕ) (h : Poly) → In (n + n) h → i < n → IsFree n (suc i) h → IsFree n (suc i) (powered e n i h)
free_powered zero n i h j l f = f
free_powered (suc e) n i h j l f = free_powered e n i (x_of n i h) (In_x_of n i h j) l (free_x n i h j l f)

none_swept : (m c : ℕ) (φ : ℕ → List ℕ → List ℕ → ℤ) (E : ℕ) (β w : List ℕ) → ((e : ℕ) (γ v : List ℕ) → φ e γ v ≡ pos 0) → swept_sum m c φ E β w ≡ pos 0
none_swept zero c φ E β w z = z E β w
none_swept (suc m) c φ E β w z = by (nat_lt (letters_before (suc m) w) c) (λ e γ v. none_swept m c φ e γ v z)
  where
    by : (t : Bool) → ((e : ℕ) (γ v : List ℕ) → swept_sum m c φ e γ v ≡ pos 0)
        → cond t (swept_sum m c φ (suc E) β w -ℤ swept_sum m c φ E (raised (suc m) β) w)
        (swept_sum m c φ E β w -ℤ lift (λ v. swept_sum m c φ E β v) w c (letters_before (suc m) w)) ≡ pos 0
    by true rec =
        let a = rec (suc E) β w in
        let b = rec E (raised (suc m) β) w in
        omega (arith, ints)
    by false rec =
        let a = rec E β w in
        let b = lift_ext (λ v. swept_sum m c φ E β v) (λ v. pos 0) w c (letters_before (suc m) w) (λ a i j. rec E β (swap_at a (letters_before (suc m) w) w)) in
        let d = lift_sum (λ v. pos 0) (λ v. pos 0) w c (letters_before (suc m) w) in
        omega (arith, ints)

pub within_letters : (m c k i : ℕ) (rows w q : List ℕ) → IsOneLine w → IsOneLine q → AreWithin (length q) rows → i < length q → m ≤ length w → HasLeftAscent (length q - (i + 1)) q
    → Same (swept m c k (length q - i) (λ v p. times_double_rows k (double_schubert_in v k) (take i rows) p) w q) nothing
within_letters m c k i rows w q o a r h l t =
    let z : i + 1 ≡ suc i = omega arith in
    let s : IsState (length q) q = record { one_line = a; size = refl } in
    let g : Poly = below (length q) rows i in
    let b = In_below (length q) rows i r (omega arith) in
    let F : List ℕ → List ℕ → Poly = λ v p. times_double_rows k (double_schubert_in v k) (take i rows) p in
    let free = free_more (length q) i g (free_below (length q) rows i r (omega arith)) in
    same_from_pair (swept m c k (length q - i) F w q) nothing (λ f.
    sym (no_power_in k (swept m c k (length q - i) F w q) f (In_swept m c k (length q - i) F w q (λ v p. In_product_rows k (take i rows) v p)))
    ∙ pair_swept m (length q) i c k F (labelled (length q) k i g f) f [] w q (labelled_rows (length q) k rows i f r (omega arith)) (labelled_shifts (length q) k i g f b h) s h o l
    ∙ none_swept m c (labelled (length q) k i g f q) 0 [] w (λ e γ v.
    labelled_value (length q) k i g f q e γ v
    ∙ no_value_y (length q) (suc i) (powered e (length q) i g) (tested (length q) k (shifted_in (v, γ) k) f) q (omega arith)
    (free_powered e (length q) i g b h free) s (subst (λ m. HasLeftAscent (length q - m) q) z t)))
