-- A row of a diagram letter by letter of the greater permutation w (`swept`), for `double_rows_law`. The operator T of SweptLetters multiplies by x_i,
-- before the divided differences.
use Rattle.std.proofs.Common.{◌≡◌, ℕ, zero, suc, ◌+◌, ◌-◌, ◌<◌, ◌≤◌, List, [], length, flat_map, refl, sym, ◌∙◌, ap, arith, inl, inr, ◌⊎◌, cond, Bool, true, false, ℤ, pos, ◌+ℤ◌, ◌-ℤ◌}
use Rattle.std.proofs.lemmas.Int.{ints}
use Rattle.std.proofs.lemmas.Bool.{cases_lt, lt-ltb, le-ltb}
use Rattle.sym_model.specs.Sum.{total}
use Rattle.sym_model.specs.Polynomial.{Poly, Same, In, one, plus, negate, times, pair}
use Rattle.sym_model.specs.Expansion.{beside}
use Rattle.sym_model.specs.Permutation.{IsOneLine}
use Rattle.sym_model.specs.DividedDifference.{x_to, variable_in, x_to_in, raised}
use Rattle.sym_model.specs.DoubleSchubert.{double_schubert_in}
use Rattle.sym_model.proofs.Polynomials.{pair_times_each, pair_determined, same_from_pair, Same_refl, Same_trans, times_respects, In_times, In_one, In_beside, In_restrict}
use Rattle.sym_model.proofs.PolynomialLaws.{times_assoc, times_comm, times-one, pair_times_plus, pair_times_minus}
use Rattle.sym_model.proofs.Sums.{total_ext, total_append, total_each}
use Rattle.schubert_laws.specs.Chains.{letters_before, lifted, chains_from}
use Rattle.schubert_laws.specs.PathCovers.{covers_after, covers_before}
use Rattle.schubert_laws.proofs.ChainLetters.{total_chains}
use Rattle.schubert_laws.proofs.ChainSums.{place_below, if_less, if_not_less, lift, lift_ext, lift_none, lift_some, chain_sum, no_covers_left}
use Rattle.schubert_laws.proofs.CoverTests.{up}
use Rattle.schubert_laws.proofs.MonkFromOne.{one_line_swap}
use Rattle.schubert_laws.proofs.MonkStep.{is_cover}
use Rattle.schubert_laws.proofs.PlaceSums.{sum_below, sum_below_ext}
use Rattle.schubert_laws.proofs.Swaps.{swap_at, length-swap_at}
use Rattle.double_schubert_laws.proofs.Rows.{IsState, moved_by, moved_ext, moved_minus}
use Rattle.double_schubert_laws.proofs.RowsFromOne.{covers_at}
use Rattle.double_schubert_laws.proofs.DoubleVariables.{identity_double}
use Rattle.double_pieri_laws.proofs.DoubleChainSums.{lift_sum, raised_twice}
use Rattle.double_pieri_laws.proofs.DoublePieri.{y_shown}
use Rattle.double_pieri_laws.proofs.UnmovedLetters.{lift_at_covers}
use Rattle.double_row_laws.specs.DoubleRows.{over_place_of}
use Rattle.double_row_laws.specs.SweptRows.{swept}
use Rattle.double_row_laws.proofs.ExpandedRows.{In_y}
use Rattle.double_row_laws.proofs.SweptLetters.{swept_sum}

-- ---- the sum of a function over covers, as a list and by places

one_end : (m k : ℕ) (G : List ℕ → ℤ) (v : List ℕ) → total G (chains_from m zero k v) ≡ G v
one_end zero k G v = let e : G v +ℤ pos 0 ≡ G v = omega (arith, ints) in e
one_end (suc m) k G v = one_end m k G v

pub total_lift : (m k : ℕ) (G : List ℕ → ℤ) (w : List ℕ) → IsOneLine w → suc m ≤ length w → total G (lifted k (suc m) w) ≡ lift G w k (letters_before (suc m) w)
total_lift m k G w o l =
    let a = total_chains (suc m) 1 k G w o l in
    let b = total_chains m 1 k G w o (omega arith) in
    let c = total_append G (chains_from m 1 k w) (flat_map (λ v. chains_from m zero k v) (lifted k (suc m) w)) in
    let d = total_each G (λ v. chains_from m zero k v) (lifted k (suc m) w) in
    let e = total_ext (λ v. total G (chains_from m zero k v)) G (one_end m k G) (lifted k (suc m) w) in
    let f = lift_ext (λ v. chain_sum m zero k G v) G w k (letters_before (suc m) w) (λ a i j. no_covers_left m k G (swap_at a (letters_before (suc m) w) w)) in
    omega (arith, ints)

-- ---- Monk's sums of sums

moved_zero : (n i : ℕ) (q : List ℕ) → moved_by n i (λ v. pos 0) q ≡ pos 0
moved_zero n i q = let e = moved_minus n i (λ v. pos 0) (λ v. pos 0) q in omega (arith, ints)

moved_plus : (n i : ℕ) (F G : List ℕ → ℤ) (q : List ℕ) → IsState n q → i < n → moved_by n i (λ v. F v +ℤ G v) q ≡ moved_by n i F q +ℤ moved_by n i G q
moved_plus n i F G q s h =
    let e = moved_minus n i (λ v. F v +ℤ G v) G q in
    let f = moved_ext n i (λ v. (F v +ℤ G v) -ℤ G v) F q s h (λ v t. omega (arith, ints)) in
    omega (arith, ints)

moved_sum : (n i : ℕ) (c : ℕ) (H : ℕ → List ℕ → ℤ) (q : List ℕ) → IsState n q → i < n → moved_by n i (λ p. sum_below c (λ a. H a p)) q ≡ sum_below c (λ a. moved_by n i (H a) q)
moved_sum n i zero H q s h = moved_zero n i q
moved_sum n i (suc c) H q s h =
    moved_plus n i (H 0) (λ p. sum_below c (λ a. H (suc a) p)) q s h ∙ ap (λ z. moved_by n i (H 0) q +ℤ z) (moved_sum n i c (λ a. H (suc a)) q s h)

moved_if : (n i : ℕ) (t : Bool) (F : List ℕ → ℤ) (q : List ℕ) → moved_by n i (λ p. cond t (F p) (pos 0)) q ≡ cond t (moved_by n i F q) (pos 0)
moved_if n i true F q = refl
moved_if n i false F q = moved_zero n i q

moved_lift : (n i : ℕ) (K : List ℕ → List ℕ → ℤ) (w : List ℕ) (c b : ℕ) (q : List ℕ) → IsState n q → i < n
    → moved_by n i (λ p. lift (λ v. K v p) w c b) q ≡ lift (λ v. moved_by n i (λ p. K v p) q) w c b
moved_lift n i K w c b q s h = elim (cases_lt b c) [
  | inl f ↦
      moved_ext n i (λ p. lift (λ v. K v p) w c b) (λ p. pos 0) q s h (λ p t. lift_none (λ v. K v p) w c b f)
      ∙ moved_zero n i q
      ∙ sym (lift_none (λ v. moved_by n i (λ p. K v p) q) w c b f)
  | inr f ↦
      moved_ext n i (λ p. lift (λ v. K v p) w c b) (λ p. sum_below c (λ a. up (λ v. K v p) w a b)) q s h (λ p t. lift_some (λ v. K v p) w c b f)
      ∙ moved_sum n i c (λ a p. up (λ v. K v p) w a b) q s h
      ∙ sum_below_ext c (λ a. moved_by n i (λ p. up (λ v. K v p) w a b) q) (λ a. up (λ v. moved_by n i (λ p. K v p) q) w a b) (λ a l. moved_if n i (is_cover w a b) (λ p. K (swap_at a b w) p) q)
      ∙ sym (lift_some (λ v. moved_by n i (λ p. K v p) q) w c b f)
]

-- ---- T acts on q

-- φ(q) at E + 1 is φ(q) at E with the variable y of the place of the letter n - i, plus Monk's sum for this place
pub record IsShifted (n i : ℕ) (Φ : List ℕ → ℕ → List ℕ → List ℕ → ℤ) : Type 0 where
  pub at : (q : List ℕ) (E : ℕ) (β v : List ℕ) → IsState n q → IsOneLine v
      → Φ q (suc E) β v ≡ Φ q E (raised (letters_before (n - i) q + 1) β) v +ℤ moved_by n i (λ p. Φ p E β v) q

pub swept_shifted : (m n i c : ℕ) (Φ : List ℕ → ℕ → List ℕ → List ℕ → ℤ) (E : ℕ) (β w q : List ℕ) → IsShifted n i Φ → IsState n q → i < n → IsOneLine w → m ≤ length w
    → swept_sum m c (Φ q) (suc E) β w ≡ swept_sum m c (Φ q) E (raised (letters_before (n - i) q + 1) β) w +ℤ moved_by n i (λ p. swept_sum m c (Φ p) E β w) q
swept_shifted zero n i c Φ E β w q u s h o l = u.at q E β w s o
swept_shifted (suc m) n i c Φ E β w q u s h o l =
    by (cases_lt (letters_before (suc m) w) c) (swept_shifted m n i c Φ (suc E) β w q u s h o (omega arith)) (swept_shifted m n i c Φ E (raised (suc m) β) w q u s h o (omega arith))
    (swept_shifted m n i c Φ E β w q u s h o (omega arith)) (λ v x y. swept_shifted m n i c Φ E β v q u s h x (omega arith))
  where
    r : ℕ
    r = letters_before (n - i) q + 1

    inside : letters_before (suc m) w < length w
    inside = place_below (suc m) w o (omega arith) l

    by : (letters_before (suc m) w < c) ⊎ (c ≤ letters_before (suc m) w)
        → swept_sum m c (Φ q) (suc (suc E)) β w ≡ swept_sum m c (Φ q) (suc E) (raised (letters_before (n - i) q + 1) β) w +ℤ moved_by n i (λ p. swept_sum m c (Φ p) (suc E) β w) q
        → swept_sum m c (Φ q) (suc E) (raised (suc m) β) w ≡ swept_sum m c (Φ q) E (raised (letters_before (n - i) q + 1) (raised (suc m) β)) w +ℤ moved_by n i (λ p. swept_sum m c (Φ p) E (raised (suc m) β) w) q
        → swept_sum m c (Φ q) (suc E) β w ≡ swept_sum m c (Φ q) E (raised (letters_before (n - i) q + 1) β) w +ℤ moved_by n i (λ p. swept_sum m c (Φ p) E β w) q
        → ((v : List ℕ) → IsOneLine v → length v ≡ length w → swept_sum m c (Φ q) (suc E) β v ≡ swept_sum m c (Φ q) E (raised (letters_before (n - i) q + 1) β) v +ℤ moved_by n i (λ p. swept_sum m c (Φ p) E β v) q)
        → swept_sum (suc m) c (Φ q) (suc E) β w ≡ swept_sum (suc m) c (Φ q) E (raised (letters_before (n - i) q + 1) β) w +ℤ moved_by n i (λ p. swept_sum (suc m) c (Φ p) E β w) q
    by (inl f) a d e t =
        let x = if_less (letters_before (suc m) w) c (swept_sum m c (Φ q) (suc (suc E)) β w -ℤ swept_sum m c (Φ q) (suc E) (raised (suc m) β) w) (swept_sum m c (Φ q) (suc E) β w -ℤ lift (λ v. swept_sum m c (Φ q) (suc E) β v) w c (letters_before (suc m) w)) f in
        let y = if_less (letters_before (suc m) w) c (swept_sum m c (Φ q) (suc E) (raised (letters_before (n - i) q + 1) β) w -ℤ swept_sum m c (Φ q) E (raised (suc m) (raised (letters_before (n - i) q + 1) β)) w)
        (swept_sum m c (Φ q) E (raised (letters_before (n - i) q + 1) β) w -ℤ lift (λ v. swept_sum m c (Φ q) E (raised (letters_before (n - i) q + 1) β) v) w c (letters_before (suc m) w)) f in
        let z = moved_ext n i (λ p. swept_sum (suc m) c (Φ p) E β w) (λ p. swept_sum m c (Φ p) (suc E) β w -ℤ swept_sum m c (Φ p) E (raised (suc m) β) w) q s h (λ p g.
        if_less (letters_before (suc m) w) c (swept_sum m c (Φ p) (suc E) β w -ℤ swept_sum m c (Φ p) E (raised (suc m) β) w) (swept_sum m c (Φ p) E β w -ℤ lift (λ v. swept_sum m c (Φ p) E β v) w c (letters_before (suc m) w)) f) in
        let k = moved_minus n i (λ p. swept_sum m c (Φ p) (suc E) β w) (λ p. swept_sum m c (Φ p) E (raised (suc m) β) w) q in
        let b = ap (λ γ. swept_sum m c (Φ q) E γ w) (raised_twice (letters_before (n - i) q + 1) (suc m) β) in
        omega (arith, ints)
    by (inr f) a d e t =
        let x = if_not_less (letters_before (suc m) w) c (swept_sum m c (Φ q) (suc (suc E)) β w -ℤ swept_sum m c (Φ q) (suc E) (raised (suc m) β) w) (swept_sum m c (Φ q) (suc E) β w -ℤ lift (λ v. swept_sum m c (Φ q) (suc E) β v) w c (letters_before (suc m) w)) f in
        let y = if_not_less (letters_before (suc m) w) c (swept_sum m c (Φ q) (suc E) (raised (letters_before (n - i) q + 1) β) w -ℤ swept_sum m c (Φ q) E (raised (suc m) (raised (letters_before (n - i) q + 1) β)) w)
        (swept_sum m c (Φ q) E (raised (letters_before (n - i) q + 1) β) w -ℤ lift (λ v. swept_sum m c (Φ q) E (raised (letters_before (n - i) q + 1) β) v) w c (letters_before (suc m) w)) f in
        let z = moved_ext n i (λ p. swept_sum (suc m) c (Φ p) E β w) (λ p. swept_sum m c (Φ p) E β w -ℤ lift (λ v. swept_sum m c (Φ p) E β v) w c (letters_before (suc m) w)) q s h (λ p g.
        if_not_less (letters_before (suc m) w) c (swept_sum m c (Φ p) (suc E) β w -ℤ swept_sum m c (Φ p) E (raised (suc m) β) w) (swept_sum m c (Φ p) E β w -ℤ lift (λ v. swept_sum m c (Φ p) E β v) w c (letters_before (suc m) w)) f) in
        let k = moved_minus n i (λ p. swept_sum m c (Φ p) E β w) (λ p. lift (λ v. swept_sum m c (Φ p) E β v) w c (letters_before (suc m) w)) q in
        let j = moved_lift n i (λ v p. swept_sum m c (Φ p) E β v) w c (letters_before (suc m) w) q s h in
        let g = lift_at_covers (λ v. swept_sum m c (Φ q) (suc E) β v) (λ v. swept_sum m c (Φ q) E (raised (letters_before (n - i) q + 1) β) v +ℤ moved_by n i (λ p. swept_sum m c (Φ p) E β v) q) w c (letters_before (suc m) w) (λ a y j q.
        let p = inside in
        t (swap_at a (letters_before (suc m) w) w) (one_line_swap a (letters_before (suc m) w) w (omega arith) p o) (length-swap_at a (letters_before (suc m) w) w)) in
        let b = lift_sum (λ v. swept_sum m c (Φ q) E (raised (letters_before (n - i) q + 1) β) v) (λ v. moved_by n i (λ p. swept_sum m c (Φ p) E β v) q) w c (letters_before (suc m) w) in
        omega (arith, ints)

-- ---- powers of y as factors

abbrev pub y_to : List ℕ → ℕ → Poly
y_to β k = beside (one k) (x_to_in β k)

In_y_to : (β : List ℕ) (k : ℕ) → In (k + k) (y_to β k)
In_y_to β k = In_beside k k (one k) (x_to_in β k) (In_one k) (In_restrict k (x_to β))

no_letters : IsOneLine []
no_letters = record { letters = λ a i. absurd i; once = tt }

-- S_w for w of no letters is 1
empty_one : (k : ℕ) (p : Poly) (f : List ℕ → ℤ) → In (k + k) p → pair (times p (double_schubert_in [] k)) f ≡ pair p f
empty_one k p f i =
    pair_determined (times p (double_schubert_in [] k)) (times p (one (k + k))) f (times_respects p p (double_schubert_in [] k) (one (k + k)) (Same_refl p) (identity_double [] k no_letters refl))
    ∙ pair_determined (times p (one (k + k))) p f (times-one (k + k) p i)

y_raised : (k a : ℕ) (β : List ℕ) → Same (times (beside (one k) (variable_in a k)) (y_to β k)) (y_to (raised a β) k)
y_raised k a β =
    same_from_pair (times (beside (one k) (variable_in a k)) (y_to β k)) (y_to (raised a β) k) (λ f.
    let y : Poly = beside (one k) (variable_in a k) in
    sym (empty_one k (times y (y_to β k)) f (In_times (k + k) y (y_to β k) (In_y k a) (In_y_to β k)))
    ∙ pair_determined (times (times y (y_to β k)) (double_schubert_in [] k)) (times y (times (y_to β k) (double_schubert_in [] k))) f (times_assoc y (y_to β k) (double_schubert_in [] k))
    ∙ y_shown k a β [] f no_letters
    ∙ empty_one k (y_to (raised a β) k) f (In_y_to (raised a β) k))

raised_factor : (k a : ℕ) (β : List ℕ) (p : Poly) (f : List ℕ → ℤ) → pair (times (y_to β k) (times (beside (one k) (variable_in a k)) p)) f ≡ pair (times (y_to (raised a β) k) p) f
raised_factor k a β p f =
    let y : Poly = beside (one k) (variable_in a k) in
    sym (pair_determined (times (times (y_to β k) y) p) (times (y_to β k) (times y p)) f (times_assoc (y_to β k) y p))
    ∙ pair_determined (times (times (y_to β k) y) p) (times (y_to (raised a β) k) p) f
    (times_respects (times (y_to β k) y) (y_to (raised a β) k) p p (Same_trans (times (y_to β k) y) (times y (y_to β k)) (y_to (raised a β) k) (times_comm (y_to β k) y) (y_raised k a β)) (Same_refl p))

-- ---- `swept` is the polynomial whose pairings are the sums of SweptLetters

pub record AreShown (n k : ℕ) (f : List ℕ → ℤ) (F : List ℕ → List ℕ → Poly) (Φ : List ℕ → ℕ → List ℕ → List ℕ → ℤ) : Type 0 where
  pub at : (q v : List ℕ) (β : List ℕ) → IsState n q → IsOneLine v → pair (times (y_to β k) (F v q)) f ≡ Φ q 0 β v

pair_place : (n i k : ℕ) (β : List ℕ) (R : List ℕ → Poly) (f : List ℕ → ℤ) (q : List ℕ) → IsState n q → i < n
    → pair (times (y_to β k) (over_place_of (n - i) k R q)) f
    ≡ pair (times (y_to (raised (letters_before (n - i) q + 1) β) k) (R q)) f +ℤ moved_by n i (λ p. pair (times (y_to β k) (R p)) f) q
pair_place n i k β R f q s h =
    let y : Poly = times (beside (one k) (variable_in (letters_before (n - i) q + 1) k)) (R q) in
    let before : Poly = flat_map R (covers_before (letters_before (n - i) q + 1) q) in
    let later : Poly = flat_map R (covers_after (letters_before (n - i) q + 1) q) in
    let a = pair_times_plus (y_to β k) y (plus before (negate later)) f in
    let b = raised_factor k (letters_before (n - i) q + 1) β (R q) f in
    let c = pair_times_minus (y_to β k) before later f in
    let d = pair_times_each (y_to β k) R (covers_before (letters_before (n - i) q + 1) q) f in
    let e = pair_times_each (y_to β k) R (covers_after (letters_before (n - i) q + 1) q) f in
    let g = covers_at n i (λ p. pair (times (y_to β k) (R p)) f) q s h in
    omega (arith, ints)

pub pair_swept : (m n i c k : ℕ) (F : List ℕ → List ℕ → Poly) (Φ : List ℕ → ℕ → List ℕ → List ℕ → ℤ) (f : List ℕ → ℤ) (β w q : List ℕ) → AreShown n k f F Φ → IsShifted n i Φ
    → IsState n q → i < n → IsOneLine w → m ≤ length w → pair (times (y_to β k) (swept m c k (n - i) F w q)) f ≡ swept_sum m c (Φ q) 0 β w
pair_swept zero n i c k F Φ f β w q t u s h o l = t.at q w β s o
pair_swept (suc m) n i c k F Φ f β w q t u s h o l =
    by (cases_lt (letters_before (suc m) w) c)
    (λ γ p x. pair_swept m n i c k F Φ f γ w p t u x h o (omega arith))
    (λ v x y. pair_swept m n i c k F Φ f β v q t u s h x (omega arith))
  where
    inside : letters_before (suc m) w < length w
    inside = place_below (suc m) w o (omega arith) l

    taken : Poly
    taken = plus (over_place_of (n - i) k (λ p. swept m c k (n - i) F w p) q) (negate (times (beside (one k) (variable_in (suc m) k)) (swept m c k (n - i) F w q)))

    other : Poly
    other = plus (swept m c k (n - i) F w q) (negate (flat_map (λ v. swept m c k (n - i) F v q) (lifted c (suc m) w)))

    by : (letters_before (suc m) w < c) ⊎ (c ≤ letters_before (suc m) w)
        → ((γ p : List ℕ) → IsState n p → pair (times (y_to γ k) (swept m c k (n - i) F w p)) f ≡ swept_sum m c (Φ p) 0 γ w)
        → ((v : List ℕ) → IsOneLine v → length v ≡ length w → pair (times (y_to β k) (swept m c k (n - i) F v q)) f ≡ swept_sum m c (Φ q) 0 β v)
        → pair (times (y_to β k) (swept (suc m) c k (n - i) F w q)) f ≡ swept_sum (suc m) c (Φ q) 0 β w
    by (inl g) rec more =
        let R : Poly = swept m c k (n - i) F w q in
        let x = ap (λ t. pair (times (y_to β k) (cond t taken other)) f) (lt-ltb (letters_before (suc m) w) c g) in
        let y = if_less (letters_before (suc m) w) c (swept_sum m c (Φ q) 1 β w -ℤ swept_sum m c (Φ q) 0 (raised (suc m) β) w) (swept_sum m c (Φ q) 0 β w -ℤ lift (λ v. swept_sum m c (Φ q) 0 β v) w c (letters_before (suc m) w)) g in
        let a = pair_times_minus (y_to β k) (over_place_of (n - i) k (λ p. swept m c k (n - i) F w p) q) (times (beside (one k) (variable_in (suc m) k)) R) f in
        let b = pair_place n i k β (λ p. swept m c k (n - i) F w p) f q s h in
        let d = rec (raised (letters_before (n - i) q + 1) β) q s in
        let e = moved_ext n i (λ p. pair (times (y_to β k) (swept m c k (n - i) F w p)) f) (λ p. swept_sum m c (Φ p) 0 β w) q s h (λ p z. rec β p z) in
        let j = raised_factor k (suc m) β R f in
        let v = rec (raised (suc m) β) q s in
        let z = swept_shifted m n i c Φ 0 β w q u s h o (omega arith) in
        omega (arith, ints)
    by (inr g) rec more =
        let R : Poly = swept m c k (n - i) F w q in
        let x = ap (λ t. pair (times (y_to β k) (cond t taken other)) f) (le-ltb (letters_before (suc m) w) c g) in
        let y = if_not_less (letters_before (suc m) w) c (swept_sum m c (Φ q) 1 β w -ℤ swept_sum m c (Φ q) 0 (raised (suc m) β) w) (swept_sum m c (Φ q) 0 β w -ℤ lift (λ v. swept_sum m c (Φ q) 0 β v) w c (letters_before (suc m) w)) g in
        let a = pair_times_minus (y_to β k) R (flat_map (λ v. swept m c k (n - i) F v q) (lifted c (suc m) w)) f in
        let b = pair_times_each (y_to β k) (λ v. swept m c k (n - i) F v q) (lifted c (suc m) w) f in
        let d = total_lift m c (λ v. pair (times (y_to β k) (swept m c k (n - i) F v q)) f) w o l in
        let e = lift_at_covers (λ v. pair (times (y_to β k) (swept m c k (n - i) F v q)) f) (λ v. swept_sum m c (Φ q) 0 β v) w c (letters_before (suc m) w) (λ a j z r.
        let p = inside in
        more (swap_at a (letters_before (suc m) w) w) (one_line_swap a (letters_before (suc m) w) w (omega arith) p o) (length-swap_at a (letters_before (suc m) w) w)) in
        let v = rec β q s in
        omega (arith, ints)
