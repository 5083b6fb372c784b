-- Products with double Schubert polynomials, row by row of a diagram, as `double_rows_law` states them, with places counted from 1.
--     pair_times_rows_y   `times_double_rows` is the polynomial whose pairings are the values of ExpandedRows
--     pair_one_row_y      `one_double_row` is the polynomial whose pairings are the expanded values
use Rattle.std.proofs.Common.{◌≡◌, ◌⊎◌, ℕ, zero, suc, ◌+◌, ◌-◌, ◌<◌, ◌≤◌, List, [], ◌∷◌, ◌++◌, length, get_or, take, drop, replicate, length-drop, flat_map, refl, sym, ◌∙◌, ap, ap₂, arith, inl, inr, None, Some, ℤ, pos, ◌+ℤ◌, ◌-ℤ◌, ◌*ℤ◌}
use Rattle.std.proofs.lemmas.Int.{ints}
use Rattle.std.proofs.lemmas.Bool.{cases_lt}
use Rattle.std.proofs.lemmas.Option.{none-some}
use Rattle.std.proofs.lemmas.List.{get_or-take, get_or_past, length-take, take-append-drop}
use Rattle.sym_model.specs.Sum.{total, Once}
use Rattle.sym_model.specs.Partition.{Falls}
use Rattle.sym_model.specs.PlaceOrders.{inversions, minus_one_to, sign, places}
use Rattle.sym_model.specs.BetaList.{rising_pairs}
use Rattle.sym_model.specs.Polynomial.{Term, Poly, Same, In, nothing, one, negate, scale, times, pair, join, coefficient}
use Rattle.sym_model.specs.Expansion.{beside}
use Rattle.sym_model.specs.DividedDifference.{x_to, variable, variable_in, differences_after}
use Rattle.sym_model.specs.Permutation.{IsOneLine, AreInverse, first_ascent, code}
use Rattle.sym_model.specs.DoubleSchubert.{double_schubert, double_schubert_in, difference_product}
use Rattle.sym_model.specs.Schubert.{schubert_over}
use Rattle.sym_model.proofs.AfterLists.{after_among}
use Rattle.sym_model.proofs.Exponents.{join_zeros, length-resize}
use Rattle.sym_model.proofs.Polynomials.{pair_in, pair_beside, pair_one, pair_plus, pair_negate, pair_scale, pair_each, pair_determined, same_from_pair, Same_refl, Same_trans, times_respects, In_one, In_beside, In_restrict}
use Rattle.sym_model.proofs.PolynomialLaws.{one-times, times-one}
use Rattle.schubert_laws.specs.Chains.{letters_before}
use Rattle.schubert_laws.specs.PathCovers.{covers_after, covers_before}
use Rattle.schubert_laws.proofs.AtOrigin.{one_at_origin}
use Rattle.schubert_laws.proofs.ChainSums.{place_below, letter_there}
use Rattle.schubert_laws.proofs.Differences.{pair_differences}
use Rattle.schubert_laws.proofs.Dominant.{pair_x_to}
use Rattle.schubert_laws.proofs.Exchanges.{raise, Rises, IsFirstAscent, first_ascent_cases}
use Rattle.schubert_laws.proofs.LeftSteps.{left_none}
use Rattle.schubert_laws.proofs.Paths.{over_top}
use Rattle.schubert_laws.proofs.Pieri.{after_factor, through_factor}
use Rattle.double_schubert_laws.specs.DiagramRows.{AreWithin, HasLeftAscent, diagram_product, over_covers_of, LeadsTo}
use Rattle.double_schubert_laws.proofs.BothRestrictions.{both, join_append, pair_restrict_both}
use Rattle.double_schubert_laws.proofs.DoubleDominant.{unit, pair_variable_in, pair_cells, dominant_product}
use Rattle.double_schubert_laws.proofs.InverseSteps.{turned}
use Rattle.double_schubert_laws.proofs.Inverses.{turned_is, from_one}
use Rattle.double_schubert_laws.proofs.RowSteps.{In_over}
use Rattle.double_schubert_laws.proofs.Rows.{below, In_below, below_diagram, over_same, IsState, moved_ext, place_in_state, IsFree, free_below}
use Rattle.double_schubert_laws.proofs.RowsFromOne.{covers_at}
use Rattle.double_pieri_laws.specs.DoubleChains.{elementary_of, first_x, these_y}
use Rattle.double_pieri_laws.proofs.DoublePieri.{exchanged_factors}
use Rattle.double_row_laws.specs.DoubleRows.{times_double_rows, over_place_of, one_double_row}
use Rattle.double_row_laws.proofs.ExpandedRows.{valued, expanded_y, expanded_y_agree, Agree, with_y, In_with_y, In_elementary_y, join_unit, row_expanded_y}
use Rattle.double_row_laws.proofs.MirroredDoubles.{mirrored}
use Rattle.double_row_laws.proofs.Mirrors.{mirror, raise_front}
use Rattle.double_row_laws.proofs.RestrictedMirrors.{turned_over, pair_turned_over, turned_over-times, x_turned_over, one_turned_over, elementary_turned_over}

-- ---- pairings of s·P, for a polynomial P with x and y exchanged, in k variables x and k variables y

-- the test f of such a product, as a test of P
abbrev pub tested : ℕ → ℕ → Poly → (List ℕ → ℤ) → List ℕ → ℤ
tested n k s f = mirror n (both n k (after_factor s f))

pub pair_tested : (n k : ℕ) (s P : Poly) (f : List ℕ → ℤ) → pair (times s (turned_over n k P)) f ≡ pair P (tested n k s f)
pair_tested n k s P f = through_factor s (turned_over n k P) f ∙ pair_turned_over n k P (after_factor s f)

-- a factor E of P that becomes F
pub moved_factor : (n k : ℕ) (s E F P : Poly) (f : List ℕ → ℤ) → In (n + n) E → In (n + n) P → Same (turned_over n k E) F
    → pair (times E P) (tested n k s f) ≡ pair P (tested n k s (after_factor F f))
moved_factor n k s E F P f i j e =
    sym (pair_tested n k s (times E P) f)
    ∙ pair_determined (times s (turned_over n k (times E P))) (times s (times F (turned_over n k P))) f
    (times_respects s s (turned_over n k (times E P)) (times F (turned_over n k P)) (Same_refl s)
    (Same_trans (turned_over n k (times E P)) (times (turned_over n k E) (turned_over n k P)) (times F (turned_over n k P))
    (turned_over-times n k E P i j)
    (times_respects (turned_over n k E) F (turned_over n k P) (turned_over n k P) e (Same_refl (turned_over n k P)))))
    ∙ exchanged_factors s F (turned_over n k P) f
    ∙ through_factor F (times s (turned_over n k P)) f
    ∙ pair_tested n k s P (after_factor F f)

pub x_factor : (n c : ℕ) (P : Poly) (φ : List ℕ → ℤ) → In (n + n) P → c < n → pair (times (beside (variable_in (suc c) n) (one n)) P) φ ≡ pair P (λ α. φ (raise c α))
x_factor n c P φ i h =
    through_factor (beside (variable_in (suc c) n) (one n)) P φ
    ∙ pair_in (n + n) P (after_factor (beside (variable_in (suc c) n) (one n)) φ) (λ α. φ (raise c α)) i (λ α l.
    let t = length-take n α in
    let d = length-drop n α in
    pair_beside (variable_in (suc c) n) (one n) (λ β. φ (join β α))
    ∙ pair_variable_in c n (λ γ. pair (one n) (λ β. φ (join (γ ++ β) α))) h
    ∙ pair_one n (λ β. φ (join (unit c n ++ β) α))
    ∙ ap φ
    (ap (join (unit c n ++ replicate n 0)) (sym (take-append-drop n α))
    ∙ join_append (unit c n) (replicate n 0) (take n α) (drop n α) (let e = length-resize n (replicate c 0 ++ (1 ∷ [])) in omega arith)
    ∙ ap₂ ◌++◌ (join_unit c n (take n α) (omega arith) h) (join_zeros n (drop n α) (omega arith))
    ∙ sym (raise_front c (take n α) (drop n α) (omega arith))
    ∙ ap (raise c) (take-append-drop n α)))

pub In_x : (n a : ℕ) → In (n + n) (beside (variable_in a n) (one n))
In_x n a = In_beside n n (variable_in a n) (one n) (In_restrict n (variable a)) (In_one n)

-- a variable x of P becomes a variable y
pub raised_test : (n k c : ℕ) (s : Poly) (f : List ℕ → ℤ) → c < n → Agree n (tested n k s (after_factor (beside (one k) (variable_in (suc c) k)) f)) (λ α. tested n k s f (raise c α))
raised_test n k c s f h α l =
    sym (pair_x_to α (tested n k s (after_factor (beside (one k) (variable_in (suc c) k)) f)))
    ∙ sym (moved_factor n k s (beside (variable_in (suc c) n) (one n)) (beside (one k) (variable_in (suc c) k)) (x_to α) f (In_x n (suc c)) inside (x_turned_over n k c h))
    ∙ x_factor n c (x_to α) (tested n k s f) inside h
    ∙ pair_x_to α (λ β. tested n k s f (raise c β))
  where
    inside : In (n + n) (x_to α)
    inside t (inl e) = ap (λ (s : Term). length s.0) e ∙ l
    inside t (inr m) = absurd m

-- ---- one row more

pair_next_y : (e c m k : ℕ) (F : List ℕ → Poly) (f : List ℕ → ℤ) (q : List ℕ)
    → pair (one_double_row (suc e) c m k F q) f
    ≡ minus_one_to (suc e) *ℤ pair (F q) (after_factor (elementary_of (k + k) (suc e) (first_x c k)) f)
    +ℤ (pair (one_double_row e c m k F q) (after_factor (beside (one k) (variable_in (letters_before m q + 1) k)) f)
    +ℤ (total (λ v. pair (one_double_row e c m k F v) f) (covers_before (letters_before m q + 1) q) -ℤ total (λ v. pair (one_double_row e c m k F v) f) (covers_after (letters_before m q + 1) q)))
pair_next_y e c m k F f q =
    let E : Poly = elementary_of (k + k) (suc e) (first_x c k) in
    let y : Poly = beside (one k) (variable_in (letters_before m q + 1) k) in
    let before : Poly = flat_map (λ v. one_double_row e c m k F v) (covers_before (letters_before m q + 1) q) in
    let later : Poly = flat_map (λ v. one_double_row e c m k F v) (covers_after (letters_before m q + 1) q) in
    let a = pair_plus (scale (minus_one_to (suc e)) (times E (F q))) (over_place_of m k (λ v. one_double_row e c m k F v) q) f in
    let b = pair_scale (minus_one_to (suc e)) (times E (F q)) f ∙ ap (λ z. minus_one_to (suc e) *ℤ z) (through_factor E (F q) f) in
    let p = pair_plus (times y (one_double_row e c m k F q)) (over_covers_of m (λ v. one_double_row e c m k F v) q) f in
    let r = through_factor y (one_double_row e c m k F q) f in
    let d = pair_plus before (negate later) f in
    let g = pair_each (λ v. one_double_row e c m k F v) (covers_before (letters_before m q + 1) q) f in
    let n = pair_negate later f in
    let o = pair_each (λ v. one_double_row e c m k F v) (covers_after (letters_before m q + 1) q) f in
    omega (arith, ints)

-- F(q) is s times U_q(g) with x and y exchanged
pub record IsValued (n k : ℕ) (s g : Poly) (F : List ℕ → Poly) : Type 0 where
  pub at : (v : List ℕ) (f : List ℕ → ℤ) → IsState n v → pair (F v) f ≡ valued g (tested n k s f) v

pub pair_one_row_y : (e c n k i : ℕ) (s g : Poly) (F : List ℕ → Poly) (f : List ℕ → ℤ) (q : List ℕ) → IsValued n k s g F → In (n + n) g → IsState n q → i < n → c ≤ n
    → pair (one_double_row e c (n - i) k F q) f ≡ expanded_y e n i (with_y n c g) (tested n k s f) q
pair_one_row_y zero c n k i s g F f q u j t h l =
    u.at q f t
    ∙ sym (pair_determined (times (one (n + n)) (schubert_over g q)) (schubert_over g q) (tested n k s f) (one-times (n + n) (schubert_over g q) (In_over n g q j)))
pair_one_row_y (suc e) c n k i s g F f q u j t h l =
    let p = place_in_state n i q t h in
    let r : ℕ = letters_before (n - i) q in
    let z : letters_before (n - i) q + 1 ≡ suc (letters_before (n - i) q) = omega arith in
    let a = pair_next_y e c (n - i) k F f q in
    let b = u.at q (after_factor (elementary_of (k + k) (suc e) (first_x c k)) f) t in
    let d = moved_factor n k s (elementary_of (n + n) (suc e) (these_y (places c) n)) (elementary_of (k + k) (suc e) (first_x c k)) (schubert_over g q) f (In_elementary_y n (suc e) (places c)) (In_over n g q j)
    (elementary_turned_over n k (suc e) (places c) (λ a m. let x = after_among 0 c a m in let x0 = x.0 in let x1 = x.1 in (omega arith, omega arith))) in
    let m = turned_is (suc e) (pair (with_y n c g (suc e) q) (tested n k s f)) in
    let w = ap (λ z. minus_one_to (suc e) *ℤ z) (b ∙ sym d) in
    let v = ap (λ x. pair (one_double_row e c (n - i) k F q) (after_factor (beside (one k) (variable_in x k)) f)) z
    ∙ pair_one_row_y e c n k i s g F (after_factor (beside (one k) (variable_in (suc (letters_before (n - i) q)) k)) f) q u j t h l
    ∙ expanded_y_agree e n i (with_y n c g) (tested n k s (after_factor (beside (one k) (variable_in (suc (letters_before (n - i) q)) k)) f)) (λ α. tested n k s f (raise (letters_before (n - i) q) α)) q
    (In_with_y n c g j) t h (raised_test n k (letters_before (n - i) q) s f p) in
    let x = covers_at n i (λ v. pair (one_double_row e c (n - i) k F v) f) q t h in
    let y = moved_ext n i (λ v. pair (one_double_row e c (n - i) k F v) f) (λ v. expanded_y e n i (with_y n c g) (tested n k s f) v) q t h (λ v x. pair_one_row_y e c n k i s g F f v u j x h l) in
    omega (arith, ints)

-- ---- the product over some rows

some_rows : (n : ℕ) (rows : List ℕ) (i : ℕ) (φ : List ℕ → ℤ) → AreWithin n rows → i ≤ n → pair (diagram_product (take i rows) n) φ ≡ pair (below n rows i) φ
some_rows n rows i φ w h =
    pair_cells n (take i rows) φ (let l = length-take i rows in omega arith) (λ j. elim (cases_lt j i) [
      | inl l ↦ (let e = get_or-take i rows j 0 l in let b = w.at j in omega arith)
      | inr l ↦ (let e = get_or_past (take i rows) j 0 (let m = length-take i rows in omega arith) in omega arith)
    ])
    ∙ sym (below_diagram n rows i φ w h)

pub pair_times_rows_y : (n k : ℕ) (rows : List ℕ) (i : ℕ) (s : Poly) (f : List ℕ → ℤ) (q : List ℕ) → AreWithin n rows → i ≤ n → length q ≡ n
    → pair (times_double_rows k s (take i rows) q) f ≡ valued (below n rows i) (tested n k s f) q
pair_times_rows_y n k rows i s f q w h e =
    ap (λ m. pair (times s (turned_over m k (schubert_over (diagram_product (take i rows) m) q))) f) e
    ∙ pair_tested n k s (schubert_over (diagram_product (take i rows) n) q) f
    ∙ over_same (diagram_product (take i rows) n) (below n rows i) q (tested n k s f) (λ ψ. some_rows n rows i ψ w h)

pub next_double_row : (k i : ℕ) (s : Poly) (rows q : List ℕ) → IsOneLine q → AreWithin (length q) rows → i < length q
    → Same (times_double_rows k s (take (i + 1) rows) q) (one_double_row (get_or rows i 0) (get_or rows i 0) (length q - i) k (times_double_rows k s (take i rows)) q)
next_double_row k i s rows q o w h =
    let z : i + 1 ≡ suc i = omega arith in
    let t : IsState (length q) q = record { one_line = o; size = refl } in
    let b = In_below (length q) rows i w (omega arith) in
    same_from_pair (times_double_rows k s (take (i + 1) rows) q) (one_double_row (get_or rows i 0) (get_or rows i 0) (length q - i) k (times_double_rows k s (take i rows)) q) (λ f.
    ap (λ m. pair (times_double_rows k s (take m rows) q) f) z
    ∙ pair_times_rows_y (length q) k rows (suc i) s f q w h refl
    ∙ row_expanded_y (length q) i (get_or rows i 0) (below (length q) rows i) (tested (length q) k s f) q b t h (w.at i)
    ∙ sym (pair_one_row_y (get_or rows i 0) (get_or rows i 0) (length q) k i s (below (length q) rows i) (times_double_rows k s (take i rows)) f q
    (record { at = λ v g u. pair_times_rows_y (length q) k rows i s g v w (omega arith) u.size }) b t h (w.at i)))

pub double_rows_start : (k : ℕ) (s : Poly) (q : List ℕ) → In (k + k) s → first_ascent q ≡ None → Same (times_double_rows k s [] q) s
double_rows_start k s q i e =
    let n : ℕ = length q in
    Same_trans (times_double_rows k s [] q) (times s (turned_over (length q) k (one (length q + length q)))) s
    (λ α. ap (λ u. coefficient (times s (turned_over (length q) k u)) α) (over_top (one (length q + length q)) (rising_pairs q) q e))
    (Same_trans (times s (turned_over (length q) k (one (length q + length q)))) (times s (one (k + k))) s
    (times_respects s s (turned_over (length q) k (one (length q + length q))) (one (k + k)) (Same_refl s) (one_turned_over (length q) k))
    (times-one (k + k) s i))

pub double_rows_start_none : (k j : ℕ) (s : Poly) (q : List ℕ) → first_ascent q ≡ Some j → Same (times_double_rows k s [] q) nothing
double_rows_start_none k j s q e =
    same_from_pair (times_double_rows k s [] q) nothing (λ f.
    pair_tested (length q) k s (schubert_over (one (length q + length q)) q) f
    ∙ by (first_ascent_cases q) (tested (length q) k s f))
  where
    by : ((i : ℕ) × IsFirstAscent q i) ⊎ ((first_ascent q ≡ None) × ((i : ℕ) → Rises i q → ⊥)) → (φ : List ℕ → ℤ) → pair (schubert_over (one (length q + length q)) q) φ ≡ pos 0
    by (inl found) φ = one_at_origin (length q + length q) found.0 q φ found.1.rises
    by (inr none) φ = absurd (none-some j (sym none.0 ∙ e))

-- ---- lists with a left ascent

pub no_value_y : (n i : ℕ) (g : Poly) (φ : List ℕ → ℤ) (q : List ℕ) → i ≤ n → IsFree n i g → IsState n q → HasLeftAscent (n - i) q → valued g φ q ≡ pos 0
no_value_y n i g φ q h f s r =
    let size = s.size in
    let first = r.first in
    let last = r.last in
    let p = place_below (suc r.letter) q s.one_line (omega arith) (omega arith) in
    left_none r.letter (letters_before r.letter q) (letters_before (suc r.letter) q) g q φ s.one_line r.order p
    (letter_there r.letter q s.one_line first (omega arith)) (letter_there (suc r.letter) q s.one_line (omega arith) (omega arith))
    (same_from_pair (differences_after (length q - suc r.letter) g) nothing (λ ψ.
    pair_differences (length q - suc r.letter) g ψ ∙ f.none (length q - suc r.letter) (omega arith) (omega arith) ψ))

pub double_rows_none : (k i : ℕ) (s : Poly) (rows q : List ℕ) → IsOneLine q → AreWithin (length q) rows → i ≤ length q → HasLeftAscent (length q - i) q
    → Same (times_double_rows k s (take i rows) q) nothing
double_rows_none k i s rows q o w h r =
    same_from_pair (times_double_rows k s (take i rows) q) nothing (λ f.
    pair_times_rows_y (length q) k rows i s f q w h refl
    ∙ no_value_y (length q) i (below (length q) rows i) (tested (length q) k s f) q h (free_below (length q) rows i w h) (record { one_line = o; size = refl }) r)

-- ---- all rows

every_row : (n k : ℕ) (s : Poly) (f : List ℕ → ℤ) (μ p v w : List ℕ) → length μ ≡ n → Once μ → Falls (code μ) → IsOneLine v → IsOneLine w → AreInverse v w → length w ≡ n → length p ≡ n → LeadsTo μ p w
    → pair (times_double_rows k s (code μ) p) f ≡ turned (inversions v) (pair (times s (double_schubert_in v k)) f)
every_row n k s f μ p v w m o c x y a l q t =
    ap (λ j. pair (times s (turned_over j k (schubert_over (diagram_product (code μ) j) p))) f) q
    ∙ pair_tested n k s (schubert_over (diagram_product (code μ) n) p) f
    ∙ over_same (diagram_product (code μ) n) (double_schubert μ n) p (tested n k s f) (λ ψ.
    sym (pair_determined (double_schubert μ n) (diagram_product (code μ) n) ψ (dominant_product n μ (omega arith) o c)))
    ∙ ap (λ j. pair (schubert_over (double_schubert μ j) p) (tested n k s f)) (sym m)
    ∙ pair_determined (schubert_over (double_schubert μ (length μ)) p) (double_schubert w (length μ)) (tested n k s f) t
    ∙ ap₂ (λ i j. pair (schubert_over (difference_product i j) w) (tested n k s f)) (l ∙ sym longs) (m ∙ sym longs)
    ∙ ap (λ j. pair (schubert_over (difference_product (length v) (length v)) w) (tested j k s f)) (sym longs)
    ∙ mirrored w v (both (length v) k (after_factor s f)) (from_one v w x y a)
    ∙ ap (turned (inversions v)) (sym (pair_restrict_both (length v) k (double_schubert v (length v)) (after_factor s f)) ∙ sym (through_factor s (double_schubert_in v k) f))
  where
    longs : length v ≡ n
    longs = a.as_long ∙ l

pub double_rows_end : (k : ℕ) (s : Poly) (μ p v w : List ℕ) → Once μ → Falls (code μ) → IsOneLine v → IsOneLine w → AreInverse v w → length w ≡ length μ → length p ≡ length μ → LeadsTo μ p w
    → Same (times_double_rows k s (code μ) p) (scale (sign v) (times s (double_schubert_in v k)))
double_rows_end k s μ p v w o c x y a l q t =
    same_from_pair (times_double_rows k s (code μ) p) (scale (sign v) (times s (double_schubert_in v k))) (λ f.
    every_row (length μ) k s f μ p v w refl o c x y a l q t
    ∙ turned_is (inversions v) (pair (times s (double_schubert_in v k)) f)
    ∙ sym (pair_scale (sign v) (times s (double_schubert_in v k)) f))
