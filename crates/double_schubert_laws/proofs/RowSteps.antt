-- The product of a polynomial s with the values of Rows, in any number k of variables y, row by row (`value_of`).
--     row_step      one more row: the values for i + 1 are sums of values for i times elementary polynomials
--     row_start     no row: the value at n, .., 1 is s
--     row_none      the value for i is 0 at q if the letters 1, .., n - i do not stand in decreasing order in q
--     row_tame      this stays so under x_i
use Rattle.std.proofs.Common.{◌≡◌, ℕ, zero, suc, ◌+◌, ◌-◌, ◌<◌, ◌≤◌, List, [], ◌∷◌, ◌++◌, length, drop, take, get_or, replicate, refl, sym, ◌∙◌, ap, ap₂, arith, cond, None, ℤ, pos, ◌+ℤ◌, ◌-ℤ◌, length-drop}
use Rattle.std.proofs.lemmas.Int.{ints}
use Rattle.sym_model.specs.BetaList.{rising_pairs}
use Rattle.sym_model.specs.Polynomial.{Term, Poly, Same, In, nothing, one, plus, negate, times, restrict, pair, join, all_zero}
use Rattle.sym_model.specs.Permutation.{first_ascent}
use Rattle.sym_model.specs.DividedDifference.{variable, variable_in}
use Rattle.sym_model.specs.Schubert.{schubert_over}
use Rattle.sym_model.proofs.Exponents.{resize-nil, resize_zeros, fits_in_zeros, join_zeros, join_comm}
use Rattle.sym_model.proofs.Polynomials.{pair_ext, pair_in, pair_plus, pair_negate, pair_times, pair_determined, pair_restrict, pair_one, same_from_pair, times_respects, plus_respects, Same_refl, Same_trans, In_one, In_plus, In_times, In_map, In_restrict}
use Rattle.sym_model.proofs.PolynomialLaws.{times_comm, times_assoc, times-one, restrict-plus, restrict-times, restrict-one, restricted_test}
use Rattle.sym_model.proofs.Sums.{Among_from_select}
use Rattle.schubert_laws.specs.Chains.{elementary_in}
use Rattle.schubert_laws.proofs.AtOrigin.{at_origin, origin_later}
use Rattle.schubert_laws.proofs.DifferenceLaws.{variable_after}
use Rattle.schubert_laws.proofs.Dominant.{pair_x_to}
use Rattle.schubert_laws.proofs.Exchanges.{raise}
use Rattle.schubert_laws.proofs.FixedLetters.{In_descended}
use Rattle.schubert_laws.proofs.Paths.{over_top}
use Rattle.schubert_laws.proofs.Pieri.{after_factor, through_factor}
use Rattle.double_schubert_laws.specs.DiagramRows.{AreWithin, HasLeftAscent}
use Rattle.double_schubert_laws.proofs.Rows.{row_times, below, In_row, In_below, over_combined, later_variable, IsState, moved_ext, value_at, x_acts, free_below, free_more, no_value, IsTame, tame_value, tame_expanded, expanded, expanded_ext, expanded_more, elementary_none, at_zero, with_elementary}
use Rattle.double_schubert_laws.proofs.DoubleDominant.{unit, length-unit, pair_variable_in}
use Rattle.double_schubert_laws.proofs.DoubleVariables.{fits_again, resize_again}
use Rattle.double_schubert_laws.proofs.InverseSteps.{turned, origin_zeros}
use Rattle.double_schubert_laws.proofs.Inverses.{pair_x_zero}

-- ---- polynomials at x = 0

pub In_over : (n : ℕ) (g : Poly) (q : List ℕ) → In (n + n) g → In (n + n) (schubert_over g q)
In_over n g q i = In_descended g (n + n) (rising_pairs q) q i

pair_at_zero : (n : ℕ) (g : Poly) (ψ : List ℕ → ℤ) (q : List ℕ) → In (n + n) g → pair (at_zero n g q) ψ ≡ value_at n g ψ q
pair_at_zero n g ψ q i = pair_x_zero n (schubert_over g q) ψ (In_over n g q i)

In_at_zero : (n : ℕ) (g : Poly) (q : List ℕ) → In (n + n) g → In n (at_zero n g q)
In_at_zero n g q i =
    In_map n (λ (t : Term). (drop n t.0, t.1)) _ (λ t m.
    let l = In_over n g q i t (Among_from_select (λ (t : Term). all_zero (take n t.0)) t (schubert_over g q) m).0 in
    omega (arith, length-drop n t.0))

pub In_elementary : (d k n : ℕ) → In n (elementary_in d k n)
In_elementary zero k n = In_one n
In_elementary (suc d) zero n = λ t m. absurd m
In_elementary (suc d) (suc k) n =
    In_plus n (elementary_in (suc d) k n) (times (variable_in (suc k) n) (elementary_in d k n)) (In_elementary (suc d) k n)
    (In_times n (variable_in (suc k) n) (elementary_in d k n) (In_restrict n (variable (suc k))) (In_elementary d k n))

join_unit : (c n : ℕ) (β : List ℕ) → length β ≡ n → c < n → join (unit c n) β ≡ raise c β
join_unit c zero β l h = absurd (omega arith)
join_unit c (suc n) [] l h = absurd (omega arith)
join_unit zero (suc n) (b ∷ β) l h =
    let e : 1 + b ≡ suc b = omega arith in
    ap₂ ◌∷◌ e (ap (λ α. join α β) (resize-nil n) ∙ join_zeros n β (omega arith))
join_unit (suc c) (suc n) (b ∷ β) l h = let e : 0 + b ≡ b = omega arith in ap₂ ◌∷◌ e (join_unit c n β (omega arith) (omega arith))

pair_y : (c n : ℕ) (P : Poly) (ψ : List ℕ → ℤ) → In n P → c < n → pair (times (variable_in (suc c) n) P) ψ ≡ pair P (λ β. ψ (raise c β))
pair_y c n P ψ i h =
    through_factor (variable_in (suc c) n) P ψ
    ∙ pair_in n P (after_factor (variable_in (suc c) n) ψ) (λ β. ψ (raise c β)) i (λ β l. pair_variable_in c n (λ α. ψ (join α β)) h ∙ ap ψ (join_unit c n β l h))

-- ---- the factors with one variable x

y_acts : (n c : ℕ) (h : Poly) (ψ : List ℕ → ℤ) (q : List ℕ) → In (n + n) h → IsState n q → c < n → value_at n (times (variable_after (n + c)) h) ψ q ≡ value_at n h (λ β. ψ (raise c β)) q
y_acts n c h ψ q i s l =
    let size = s.size in
    later_variable (n + n) (n + c) h q (at_origin n ψ) i (omega arith) (omega arith)
    ∙ pair_ext (schubert_over h q) (λ α. at_origin n ψ (raise (n + c) α)) (at_origin n (λ β. ψ (raise c β))) (origin_later n c ψ)

minus_acts : (n r c : ℕ) (h : Poly) (ψ : List ℕ → ℤ) (q : List ℕ)
    → value_at n (times (plus (variable_after r) (negate (variable_after (n + c)))) h) ψ q ≡ value_at n (times (variable_after r) h) ψ q -ℤ value_at n (times (variable_after (n + c)) h) ψ q
minus_acts n r c h ψ q =
    over_combined (times (plus (variable_after r) (negate (variable_after (n + c)))) h) (times (variable_after r) h) (times (variable_after (n + c)) h) q (at_origin n ψ) (λ φ.
    let a = pair_times (plus (variable_after r) (negate (variable_after (n + c)))) h φ in
    let b = pair_plus (variable_after r) (negate (variable_after (n + c))) (λ α. pair h (λ β. φ (join α β))) in
    let d = pair_negate (variable_after (n + c)) (λ α. pair h (λ β. φ (join α β))) in
    let e = pair_times (variable_after r) h φ in
    let f = pair_times (variable_after (n + c)) h φ in
    omega (arith, ints))

-- y_(c+1)·e_d(y_1, .., y_c) times U_q(g) at x = 0, paired with ψ
abbrev with_more : ℕ → ℕ → Poly → (List ℕ → ℤ) → ℕ → List ℕ → ℤ
with_more n c g ψ d q = pair (times (times (variable_in (suc c) n) (elementary_in d c n)) (at_zero n g q)) ψ

more_is : (n c : ℕ) (g : Poly) (ψ : List ℕ → ℤ) (d : ℕ) (q : List ℕ) → In (n + n) g → c < n → with_elementary n c g (λ β. ψ (raise c β)) d q ≡ with_more n c g ψ d q
more_is n c g ψ d q i h =
    sym (pair_y c n (times (elementary_in d c n) (at_zero n g q)) ψ (In_times n (elementary_in d c n) (at_zero n g q) (In_elementary d c n) (In_at_zero n g q i)) h)
    ∙ sym (pair_determined (times (times (variable_in (suc c) n) (elementary_in d c n)) (at_zero n g q)) (times (variable_in (suc c) n) (times (elementary_in d c n) (at_zero n g q))) ψ
    (times_assoc (variable_in (suc c) n) (elementary_in d c n) (at_zero n g q)))

one_more_variable : (n c : ℕ) (g : Poly) (ψ : List ℕ → ℤ) (d : ℕ) (q : List ℕ) → with_elementary n (suc c) g ψ (suc d) q ≡ with_elementary n c g ψ (suc d) q +ℤ with_more n c g ψ d q
one_more_variable n c g ψ d q =
    let a = pair_times (elementary_in (suc d) (suc c) n) (at_zero n g q) ψ in
    let b = pair_plus (elementary_in (suc d) c n) (times (variable_in (suc c) n) (elementary_in d c n)) (λ α. pair (at_zero n g q) (λ β. ψ (join α β))) in
    let e = pair_times (elementary_in (suc d) c n) (at_zero n g q) ψ in
    let f = pair_times (times (variable_in (suc c) n) (elementary_in d c n)) (at_zero n g q) ψ in
    omega (arith, ints)

none_with : (n c : ℕ) (g : Poly) (ψ : List ℕ → ℤ) (q : List ℕ) → with_elementary n c g ψ (suc c) q ≡ pos 0
none_with n c g ψ q = pair_times (elementary_in (suc c) c n) (at_zero n g q) ψ ∙ elementary_none (suc c) c n (λ α. pair (at_zero n g q) (λ β. ψ (join α β))) (omega arith)

turned_none : (k : ℕ) → turned k (pos 0) ≡ pos 0
turned_none zero = refl
turned_none (suc k) = turned_none k

row_expanded : (n i c : ℕ) (g : Poly) (ψ : List ℕ → ℤ) (q : List ℕ) → In (n + n) g → IsState n q → i < n → c ≤ n
    → value_at n (row_times n i c g) ψ q ≡ expanded c n i (with_elementary n c g ψ) q
row_expanded n i zero g ψ q j s h l =
    sym (pair_at_zero n g ψ q j)
    ∙ sym (pair_determined (times (one n) (at_zero n g q)) (at_zero n g q) ψ
    (Same_trans (times (one n) (at_zero n g q)) (times (at_zero n g q) (one n)) (at_zero n g q) (times_comm (one n) (at_zero n g q)) (times-one n (at_zero n g q) (In_at_zero n g q j))))
row_expanded n i (suc c) g ψ q j s h l =
    let k = In_row n i c g j h (omega arith) in
    let a = minus_acts n i c (row_times n i c g) ψ q in
    let b = x_acts n i (row_times n i c g) ψ q k s h in
    let d = moved_ext n i (value_at n (row_times n i c g) ψ) (λ v. expanded c n i (with_elementary n c g ψ) v) q s h (λ v t. row_expanded n i c g ψ v j t h (omega arith)) in
    let e = y_acts n c (row_times n i c g) ψ q k s (omega arith) in
    let f = row_expanded n i c g (λ β. ψ (raise c β)) q j s h (omega arith) in
    let m = expanded_ext c n i (with_elementary n c g (λ β. ψ (raise c β))) (with_more n c g ψ) q s h (λ x v t. more_is n c g ψ x v j (omega arith)) in
    let p = expanded_more c n i (with_elementary n c g ψ) (with_elementary n (suc c) g ψ) (with_more n c g ψ) q s h (λ v t. refl) (λ x v t. one_more_variable n c g ψ x v) in
    let z = ap (turned (suc c)) (none_with n c g ψ q) ∙ turned_none (suc c) in
    omega (arith, ints)

-- ---- in any number of variables y, times a polynomial s

abbrev pub value_of : ℕ → ℕ → Poly → List ℕ → ℕ → (List ℕ → ℤ) → List ℕ → ℤ
value_of n k s rows i f q = value_at n (below n rows i) (restricted_test k (after_factor s f)) q

restrict_variable : (k c n : ℕ) → c < n → Same (restrict k (variable_in (suc c) n)) (variable_in (suc c) k)
restrict_variable k c n h =
    let z : suc c - 1 ≡ c = omega arith in
    same_from_pair (restrict k (variable_in (suc c) n)) (variable_in (suc c) k) (λ φ.
    pair_restrict k (variable_in (suc c) n) φ
    ∙ pair_variable_in c n (restricted_test k φ) h
    ∙ ap₂ (λ t β. cond t (φ β) (pos 0))
    (fits_again k n (replicate c 0 ++ (1 ∷ [])) (let e = length-unit c in omega arith))
    (resize_again k n (replicate c 0 ++ (1 ∷ [])) (let e = length-unit c in omega arith))
    ∙ sym (pair_restrict k (variable (suc c)) φ ∙ pair_x_to (replicate (suc c - 1) 0 ++ (1 ∷ [])) (restricted_test k φ) ∙ ap (λ i. restricted_test k φ (replicate i 0 ++ (1 ∷ []))) z))

restrict_elementary : (k d c n : ℕ) → c ≤ n → Same (restrict k (elementary_in d c n)) (elementary_in d c k)
restrict_elementary k zero c n h = restrict-one k n
restrict_elementary k (suc d) zero n h = Same_refl nothing
restrict_elementary k (suc d) (suc c) n h =
    Same_trans (restrict k (plus (elementary_in (suc d) c n) (times (variable_in (suc c) n) (elementary_in d c n)))) (plus (restrict k (elementary_in (suc d) c n)) (restrict k (times (variable_in (suc c) n) (elementary_in d c n)))) (elementary_in (suc d) (suc c) k)
    (restrict-plus k (elementary_in (suc d) c n) (times (variable_in (suc c) n) (elementary_in d c n)))
    (plus_respects (restrict k (elementary_in (suc d) c n)) (elementary_in (suc d) c k) (restrict k (times (variable_in (suc c) n) (elementary_in d c n))) (times (variable_in (suc c) k) (elementary_in d c k))
    (restrict_elementary k (suc d) c n (omega arith))
    (Same_trans (restrict k (times (variable_in (suc c) n) (elementary_in d c n))) (times (restrict k (variable_in (suc c) n)) (restrict k (elementary_in d c n))) (times (variable_in (suc c) k) (elementary_in d c k))
    (restrict-times k (variable_in (suc c) n) (elementary_in d c n))
    (times_respects (restrict k (variable_in (suc c) n)) (variable_in (suc c) k) (restrict k (elementary_in d c n)) (elementary_in d c k) (restrict_variable k c n (omega arith)) (restrict_elementary k d c n (omega arith)))))

-- an elementary polynomial times a polynomial P in n variables, restricted and multiplied by s
elementary_moves : (n k c d : ℕ) (s P : Poly) (f : List ℕ → ℤ) → c ≤ n
    → pair (times (elementary_in d c n) P) (restricted_test k (after_factor s f)) ≡ pair P (restricted_test k (after_factor s (after_factor (elementary_in d c k) f)))
elementary_moves n k c d s P f h =
    sym (pair_restrict k (times (elementary_in d c n) P) (after_factor s f))
    ∙ pair_determined (restrict k (times (elementary_in d c n) P)) (times (elementary_in d c k) (restrict k P)) (after_factor s f)
    (Same_trans (restrict k (times (elementary_in d c n) P)) (times (restrict k (elementary_in d c n)) (restrict k P)) (times (elementary_in d c k) (restrict k P))
    (restrict-times k (elementary_in d c n) P)
    (times_respects (restrict k (elementary_in d c n)) (elementary_in d c k) (restrict k P) (restrict k P) (restrict_elementary k d c n h) (Same_refl (restrict k P))))
    ∙ sym (through_factor s (times (elementary_in d c k) (restrict k P)) f)
    ∙ sym (pair_determined (times (times s (elementary_in d c k)) (restrict k P)) (times s (times (elementary_in d c k) (restrict k P))) f (times_assoc s (elementary_in d c k) (restrict k P)))
    ∙ pair_determined (times (times s (elementary_in d c k)) (restrict k P)) (times (times (elementary_in d c k) s) (restrict k P)) f
    (times_respects (times s (elementary_in d c k)) (times (elementary_in d c k) s) (restrict k P) (restrict k P) (times_comm s (elementary_in d c k)) (Same_refl (restrict k P)))
    ∙ pair_determined (times (times (elementary_in d c k) s) (restrict k P)) (times (elementary_in d c k) (times s (restrict k P))) f (times_assoc (elementary_in d c k) s (restrict k P))
    ∙ through_factor (elementary_in d c k) (times s (restrict k P)) f
    ∙ through_factor s (restrict k P) (after_factor (elementary_in d c k) f)
    ∙ pair_restrict k P (after_factor s (after_factor (elementary_in d c k) f))

-- the value with an elementary polynomial of d factors among y_1, .., y_c
abbrev pub row_term : ℕ → ℕ → Poly → List ℕ → ℕ → ℕ → (List ℕ → ℤ) → ℕ → List ℕ → ℤ
row_term n k s rows i c f d q = value_of n k s rows i (after_factor (elementary_in d c k) f) q

pub row_step : (n k : ℕ) (rows : List ℕ) (i : ℕ) (s : Poly) (f : List ℕ → ℤ) (q : List ℕ) → AreWithin n rows → IsState n q → i < n
    → value_of n k s rows (suc i) f q ≡ expanded (get_or rows i 0) n i (row_term n k s rows i (get_or rows i 0) f) q
row_step n k rows i s f q w t h =
    let b = In_below n rows i w (omega arith) in
    row_expanded n i (get_or rows i 0) (below n rows i) (restricted_test k (after_factor s f)) q b t h (w.at i)
    ∙ expanded_ext (get_or rows i 0) n i (with_elementary n (get_or rows i 0) (below n rows i) (restricted_test k (after_factor s f))) (row_term n k s rows i (get_or rows i 0) f) q t h (λ d v u.
    elementary_moves n k (get_or rows i 0) d s (at_zero n (below n rows i) v) f (w.at i)
    ∙ pair_at_zero n (below n rows i) (restricted_test k (after_factor s (after_factor (elementary_in d (get_or rows i 0) k) f))) v b)

pub row_none : (n k : ℕ) (rows : List ℕ) (i : ℕ) (s : Poly) (f : List ℕ → ℤ) (q : List ℕ) → AreWithin n rows → i ≤ n → IsState n q → HasLeftAscent (n - i) q
    → value_of n k s rows i f q ≡ pos 0
row_none n k rows i s f q w h t r = no_value n i (below n rows i) (restricted_test k (after_factor s f)) q h (free_below n rows i w h) t r

pub row_tame : (n k : ℕ) (rows : List ℕ) (i c e : ℕ) (s : Poly) (f : List ℕ → ℤ) → AreWithin n rows → i < n → IsTame n i (expanded e n i (row_term n k s rows i c f))
row_tame n k rows i c e s f w h =
    tame_expanded e n i (row_term n k s rows i c f) h (λ d.
    tame_value n i (below n rows i) (restricted_test k (after_factor s (after_factor (elementary_in d c k) f))) (In_below n rows i w (omega arith)) h
    (free_more n i (below n rows i) (free_below n rows i w (omega arith))))

pub row_start : (n k : ℕ) (rows : List ℕ) (s : Poly) (f : List ℕ → ℤ) (q : List ℕ) → In k s → first_ascent q ≡ None → value_of n k s rows 0 f q ≡ pair s f
row_start n k rows s f q i e =
    ap (λ u. pair u (at_origin n (restricted_test k (after_factor s f)))) (over_top (one (n + n)) (rising_pairs q) q e)
    ∙ pair_one (n + n) (at_origin n (restricted_test k (after_factor s f)))
    ∙ origin_zeros n n (restricted_test k (after_factor s f))
    ∙ ap₂ (λ t β. cond t (after_factor s f β) (pos 0)) (fits_in_zeros k n) (resize_zeros k n)
    ∙ pair_in k s (λ α. f (join α (replicate k 0))) f i (λ α l. ap f (join_comm α (replicate k 0) ∙ join_zeros k α (omega arith)))
