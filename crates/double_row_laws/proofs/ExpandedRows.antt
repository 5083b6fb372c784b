-- The polynomials U_q(g) that divided differences along a path to q give from a product g of the x_i - y_j over the cells (i, j) of a diagram, row by row:
-- the factors of a row are expanded in powers of x_i, with elementary polynomials in y as coefficients. Each x_i acts on q by Monk's rule for divided
-- differences, here with its term with a variable x (`row_expanded_y`). Places and variables are counted from 0.
use Rattle.std.proofs.Common.{◌≡◌, ℕ, zero, suc, ◌+◌, ◌-◌, ◌<◌, ◌≤◌, List, [], ◌∷◌, ◌++◌, length, get_or, take, drop, map, replicate, length-take, length-drop, refl, sym, ◌∙◌, ap, ap₂, arith, ℤ, pos, ◌+ℤ◌, ◌-ℤ◌, neg_ℤ}
use Rattle.std.proofs.lemmas.Int.{ints}
use Rattle.std.proofs.lemmas.List.{map-append, take-append-drop, length-replicate}
use Rattle.sym_model.specs.Partition.{after}
use Rattle.sym_model.specs.PlaceOrders.{places}
use Rattle.sym_model.specs.Polynomial.{Poly, In, one, plus, negate, times, pair, join}
use Rattle.sym_model.specs.Expansion.{beside}
use Rattle.sym_model.specs.DividedDifference.{variable, variable_in}
use Rattle.sym_model.specs.Schubert.{schubert_over}
use Rattle.sym_model.proofs.AfterLists.{length_after, after-last}
use Rattle.sym_model.proofs.Exponents.{resize-nil, join_zeros}
use Rattle.sym_model.proofs.Polynomials.{pair_in, pair_beside, pair_one, pair_plus, pair_negate, pair_times, pair_determined, In_one, In_plus, In_times, In_beside, In_restrict}
use Rattle.sym_model.proofs.PolynomialLaws.{one-times, times_assoc}
use Rattle.schubert_laws.specs.Chains.{letters_before}
use Rattle.schubert_laws.proofs.ChainSums.{letter_there, monk_part}
use Rattle.schubert_laws.proofs.CoverTests.{letter_is}
use Rattle.schubert_laws.proofs.DifferenceLaws.{variable_after}
use Rattle.schubert_laws.proofs.DualMonk.{dual_monk}
use Rattle.schubert_laws.proofs.Exchanges.{raise, length-raise}
use Rattle.schubert_laws.proofs.Pieri.{through_factor, after_factor}
use Rattle.double_schubert_laws.proofs.BothRestrictions.{join_append}
use Rattle.double_schubert_laws.proofs.DiagramProducts.{raise_raise}
use Rattle.double_schubert_laws.proofs.DoubleDominant.{unit, pair_variable_in}
use Rattle.double_schubert_laws.proofs.InverseSteps.{turned}
use Rattle.double_schubert_laws.proofs.RowSteps.{In_over}
use Rattle.double_schubert_laws.proofs.Rows.{row_times, In_row, over_combined, later_variable, IsState, moved_by, place_in_state, moved_ext, moved_minus}
use Rattle.double_pieri_laws.specs.DoubleChains.{elementary_of, these_y}
use Rattle.double_pieri_laws.proofs.DoublePieri.{covers_signed, elementary_last}
use Rattle.double_row_laws.proofs.Mirrors.{raise_back}

-- ---- products with a variable x_i

abbrev pub valued : Poly → (List ℕ → ℤ) → List ℕ → ℤ
valued g φ q = pair (schubert_over g q) φ

-- G(q) with the variable of the place of the letter n - i, plus Monk's sum for this place
abbrev pub moved_y : ℕ → ℕ → ((List ℕ → ℤ) → List ℕ → ℤ) → (List ℕ → ℤ) → List ℕ → ℤ
moved_y n i G φ q = G (λ α. φ (raise (letters_before (n - i) q) α)) q +ℤ moved_by n i (G φ) q

pub x_moves : (n i : ℕ) (g : Poly) (φ : List ℕ → ℤ) (q : List ℕ) → In (n + n) g → IsState n q → i < n
    → valued (times (variable_after i) g) φ q ≡ moved_y n i (valued g) φ q
x_moves n i g φ q k s h =
    let size = s.size in
    let p = place_in_state n i q s h in
    let t = letter_there (n - i) q s.one_line (omega arith) (omega arith) in
    let u = letter_is q (letters_before (n - i) q) 0 (omega arith) in
    let e : i ≡ length q - get_or q (letters_before (n - i) q) 0 = omega arith in
    let d = dual_monk g (n + n) (letters_before (n - i) q) q φ k (omega arith) s.one_line (omega arith) in
    let c = covers_signed (letters_before (n - i) q) (λ v. pair (schubert_over g v) φ) q s.one_line (omega arith) in
    let a = ap (λ j. pair (schubert_over (times (variable_after j) g) q) φ) e in
    let m = ap (λ m. monk_part m (letters_before (n - i) q) (λ v. pair (schubert_over g v) φ) q) size in
    omega (arith, ints)

-- the factor x_i - y_(c+1)
one_factor : (n i c : ℕ) (h : Poly) (φ : List ℕ → ℤ) (q : List ℕ) → In (n + n) h → IsState n q → i < n → c < n
    → valued (times (plus (variable_after i) (negate (variable_after (n + c)))) h) φ q ≡ moved_y n i (valued h) φ q -ℤ valued h (λ α. φ (raise (n + c) α)) q
one_factor n i c h φ q j s k l =
    let size = s.size in
    let a = over_combined (times (plus (variable_after i) (negate (variable_after (n + c)))) h) (times (variable_after i) h) (times (variable_after (n + c)) h) q φ (λ ψ.
    let a = pair_times (plus (variable_after i) (negate (variable_after (n + c)))) h ψ in
    let b = pair_plus (variable_after i) (negate (variable_after (n + c))) (λ α. pair h (λ β. ψ (join α β))) in
    let d = pair_negate (variable_after (n + c)) (λ α. pair h (λ β. ψ (join α β))) in
    let e = pair_times (variable_after i) h ψ in
    let f = pair_times (variable_after (n + c)) h ψ in
    omega (arith, ints)) in
    let x = x_moves n i h φ q j s k in
    let y = later_variable (n + n) (n + c) h q φ j (omega arith) (omega arith) in
    omega (arith, ints)

-- ---- sums of powers of x_i, which act on polynomials P(d, q)

abbrev pub expanded_y : ℕ → ℕ → ℕ → (ℕ → List ℕ → Poly) → (List ℕ → ℤ) → List ℕ → ℤ
expanded_y zero n i P φ q = pair (P 0 q) φ
expanded_y (suc e) n i P φ q = turned (suc e) (pair (P (suc e) q) φ) +ℤ moved_y n i (λ ψ v. expanded_y e n i P ψ v) φ q

-- φ and ψ agree at all exponents of n variables x and n variables y
abbrev pub Agree : ℕ → (List ℕ → ℤ) → (List ℕ → ℤ) → Type 0
Agree n φ ψ = (α : List ℕ) → length α ≡ n + n → φ α ≡ ψ α

abbrev pub AreIn : ℕ → (ℕ → List ℕ → Poly) → Type 0
AreIn n P = (d : ℕ) (v : List ℕ) → In (n + n) (P d v)

pub moved_y_ext : (n i : ℕ) (F G : (List ℕ → ℤ) → List ℕ → ℤ) (φ ψ : List ℕ → ℤ) (q : List ℕ) → IsState n q → i < n
    → F (λ α. φ (raise (letters_before (n - i) q) α)) q ≡ G (λ α. ψ (raise (letters_before (n - i) q) α)) q
    → ((v : List ℕ) → IsState n v → F φ v ≡ G ψ v) → moved_y n i F φ q ≡ moved_y n i G ψ q
moved_y_ext n i F G φ ψ q s h e f = ap₂ ◌+ℤ◌ e (moved_ext n i (F φ) (G ψ) q s h f)

pub expanded_y_agree : (e n i : ℕ) (P : ℕ → List ℕ → Poly) (φ ψ : List ℕ → ℤ) (q : List ℕ) → AreIn n P → IsState n q → i < n → Agree n φ ψ → expanded_y e n i P φ q ≡ expanded_y e n i P ψ q
expanded_y_agree zero n i P φ ψ q p s h a = pair_in (n + n) (P 0 q) φ ψ (p 0 q) a
expanded_y_agree (suc e) n i P φ ψ q p s h a =
    ap₂ (λ x y. turned (suc e) x +ℤ y) (pair_in (n + n) (P (suc e) q) φ ψ (p (suc e) q) a)
    (moved_y_ext n i (λ χ v. expanded_y e n i P χ v) (λ χ v. expanded_y e n i P χ v) φ ψ q s h
    (expanded_y_agree e n i P (λ α. φ (raise (letters_before (n - i) q) α)) (λ α. ψ (raise (letters_before (n - i) q) α)) q p s h (λ α l. a (raise (letters_before (n - i) q) α) (length-raise (letters_before (n - i) q) α ∙ l)))
    (λ v t. expanded_y_agree e n i P φ ψ v p t h a))

-- if K(0) = H(0), and K(d + 1) is H(d + 1) plus H(d) times the variable j
record IsMore (n j : ℕ) (H K : ℕ → List ℕ → Poly) : Type 0 where
  pub start : (v : List ℕ) (φ : List ℕ → ℤ) → IsState n v → pair (K 0 v) φ ≡ pair (H 0 v) φ
  pub next : (d : ℕ) (v : List ℕ) (φ : List ℕ → ℤ) → IsState n v → pair (K (suc d) v) φ ≡ pair (H (suc d) v) φ +ℤ pair (H d v) (λ α. φ (raise j α))

pub turned_plus : (k : ℕ) (y z : ℤ) → turned k (y +ℤ z) ≡ turned k y +ℤ turned k z
turned_plus zero y z = refl
turned_plus (suc k) y z = let e : neg_ℤ (y +ℤ z) ≡ neg_ℤ y +ℤ neg_ℤ z = omega (arith, ints) in ap (turned k) e ∙ turned_plus k (neg_ℤ y) (neg_ℤ z)

pub turned_next : (k : ℕ) (z : ℤ) → turned (suc k) z ≡ neg_ℤ (turned k z)
turned_next zero z = refl
turned_next (suc k) z = turned_next k (neg_ℤ z)

moved_y_minus : (n i : ℕ) (F G : (List ℕ → ℤ) → List ℕ → ℤ) (φ : List ℕ → ℤ) (q : List ℕ) → moved_y n i (λ ψ v. F ψ v -ℤ G ψ v) φ q ≡ moved_y n i F φ q -ℤ moved_y n i G φ q
moved_y_minus n i F G φ q = let e = moved_minus n i (F φ) (G φ) q in omega (arith, ints)

expanded_y_more : (e n i j : ℕ) (H K : ℕ → List ℕ → Poly) (φ : List ℕ → ℤ) (q : List ℕ) → AreIn n H → IsMore n j H K → IsState n q → i < n
    → expanded_y (suc e) n i K φ q ≡ expanded_y (suc e) n i H φ q -ℤ expanded_y e n i H (λ α. φ (raise j α)) q
expanded_y_more zero n i j H K φ q p m s h =
    let a = m.next 0 q φ s in
    let b = moved_y_ext n i (λ ψ v. pair (K 0 v) ψ) (λ ψ v. pair (H 0 v) ψ) φ φ q s h (m.start q (λ α. φ (raise (letters_before (n - i) q) α)) s) (λ v t. m.start v φ t) in
    omega (arith, ints)
expanded_y_more (suc e) n i j H K φ q p m s h =
    let a = ap (turned (suc (suc e))) (m.next (suc e) q φ s) ∙ turned_plus (suc (suc e)) (pair (H (suc (suc e)) q) φ) (pair (H (suc e) q) (λ α. φ (raise j α))) in
    let t = turned_next (suc e) (pair (H (suc e) q) (λ α. φ (raise j α))) in
    let b = moved_y_ext n i (λ ψ v. expanded_y (suc e) n i K ψ v) (λ ψ v. expanded_y (suc e) n i H ψ v -ℤ expanded_y e n i H (λ α. ψ (raise j α)) v) φ φ q s h
    (expanded_y_more e n i j H K (λ α. φ (raise (letters_before (n - i) q) α)) q p m s h) (λ v u. expanded_y_more e n i j H K φ v p m u h) in
    let c = moved_y_minus n i (λ ψ v. expanded_y (suc e) n i H ψ v) (λ ψ v. expanded_y e n i H (λ α. ψ (raise j α)) v) φ q in
    let d = expanded_y_agree e n i H (λ α. φ (raise (letters_before (n - i) q) (raise j α))) (λ α. φ (raise j (raise (letters_before (n - i) q) α))) q p s h (λ α l. ap φ (raise_raise (letters_before (n - i) q) j α)) in
    omega (arith, ints)

-- ---- variables y as factors

pub join_unit : (c n : ℕ) (β : List ℕ) → length β ≡ n → c < n → join (unit c n) β ≡ raise c β
join_unit c zero β l h = absurd (omega arith)
join_unit c (suc n) [] l h = absurd (omega arith)
join_unit zero (suc n) (b ∷ β) l h = ap₂ ◌∷◌ (let e : 1 + b ≡ suc b = omega arith in e) (ap (λ α. join α β) (resize-nil n) ∙ join_zeros n β (omega arith))
join_unit (suc c) (suc n) (b ∷ β) l h = ap₂ ◌∷◌ (let e : 0 + b ≡ b = omega arith in e) (join_unit c n β (omega arith) (omega arith))

pub In_y : (n a : ℕ) → In (n + n) (beside (one n) (variable_in a n))
In_y n a = In_beside n n (one n) (variable_in a n) (In_one n) (In_restrict n (variable a))

pub y_factor : (n c : ℕ) (P : Poly) (φ : List ℕ → ℤ) → In (n + n) P → c < n → pair (times (beside (one n) (variable_in (suc c) n)) P) φ ≡ pair P (λ α. φ (raise (n + c) α))
y_factor n c P φ i h =
    through_factor (beside (one n) (variable_in (suc c) n)) P φ
    ∙ pair_in (n + n) P (after_factor (beside (one n) (variable_in (suc c) n)) φ) (λ α. φ (raise (n + c) α)) i (λ α l.
    let t = length-take n α in
    let d = length-drop n α in
    let z = length-replicate {A = ℕ} n 0 in
    pair_beside (one n) (variable_in (suc c) n) (λ β. φ (join β α))
    ∙ pair_one n (λ β. pair (variable_in (suc c) n) (λ γ. φ (join (β ++ γ) α)))
    ∙ pair_variable_in c n (λ γ. φ (join (replicate n 0 ++ γ) α)) h
    ∙ ap φ
    (ap (join (replicate n 0 ++ unit c n)) (sym (take-append-drop n α))
    ∙ join_append (replicate n 0) (unit c n) (take n α) (drop n α) (omega arith)
    ∙ ap₂ ◌++◌ (join_zeros n (take n α) (omega arith)) (join_unit c n (drop n α) (omega arith) h)
    ∙ sym (raise_back n c (take n α) (drop n α) (omega arith))
    ∙ ap (raise (n + c)) (take-append-drop n α)))

pub In_elementary_y : (n d : ℕ) (letters : List ℕ) → In (n + n) (elementary_of (n + n) d (these_y letters n))
In_elementary_y n zero letters = In_one (n + n)
In_elementary_y n (suc d) [] = λ t m. absurd m
In_elementary_y n (suc d) (a ∷ letters) =
    In_plus (n + n) (elementary_of (n + n) (suc d) (these_y letters n)) (times (beside (one n) (variable_in a n)) (elementary_of (n + n) d (these_y letters n))) (In_elementary_y n (suc d) letters)
    (In_times (n + n) (beside (one n) (variable_in a n)) (elementary_of (n + n) d (these_y letters n)) (In_y n a) (In_elementary_y n d letters))

no_elementary : (n d : ℕ) (letters : List ℕ) (φ : List ℕ → ℤ) → length letters < d → pair (elementary_of (n + n) d (these_y letters n)) φ ≡ pos 0
no_elementary n zero letters φ h = absurd (omega arith)
no_elementary n (suc d) [] φ h = refl
no_elementary n (suc d) (a ∷ letters) φ h =
    let y : Poly = beside (one n) (variable_in a n) in
    let e : Poly = elementary_of (n + n) d (these_y letters n) in
    let p = pair_plus (elementary_of (n + n) (suc d) (these_y letters n)) (times y e) φ in
    let a = no_elementary n (suc d) letters φ (omega arith) in
    let t = through_factor y e φ in
    let b = no_elementary n d letters (after_factor y φ) (omega arith) in
    omega (arith, ints)

-- e_d(y_1, .., y_c)·U_q(g)
abbrev pub with_y : ℕ → ℕ → Poly → ℕ → List ℕ → Poly
with_y n c g d q = times (elementary_of (n + n) d (these_y (places c) n)) (schubert_over g q)

pub In_with_y : (n c : ℕ) (g : Poly) → In (n + n) g → AreIn n (with_y n c g)
In_with_y n c g i d v = In_times (n + n) (elementary_of (n + n) d (these_y (places c) n)) (schubert_over g v) (In_elementary_y n d (places c)) (In_over n g v i)

one_letter_more : (n c : ℕ) (g : Poly) → In (n + n) g → c < n → IsMore n (n + c) (with_y n c g) (with_y n (suc c) g)
one_letter_more n c g i h = record {
  start = λ v φ s. refl;
  next = λ d v φ s.
      let z : 0 + suc c ≡ suc c = omega arith in
      let y : Poly = beside (one n) (variable_in (suc c) n) in
      let e : Poly = elementary_of (n + n) d (these_y (places c) n) in
      let p : Poly = schubert_over g v in
      let l : these_y (places (suc c)) n ≡ these_y (places c) n ++ (beside (one n) (variable_in (suc c) n) ∷ []) =
      ap (map (λ i. beside (one n) (variable_in i n))) (after-last 0 c ∙ ap (λ i. after 0 c ++ (i ∷ [])) z) ∙ map-append (λ i. beside (one n) (variable_in i n)) (places c) (suc c ∷ []) in
      let a = ap (λ hs. pair (times (elementary_of (n + n) (suc d) hs) (schubert_over g v)) φ) l in
      let b = pair_times (elementary_of (n + n) (suc d) (these_y (places c) n ++ (beside (one n) (variable_in (suc c) n) ∷ []))) (schubert_over g v) φ in
      let f = elementary_last (n + n) d (these_y (places c) n) (beside (one n) (variable_in (suc c) n)) (λ α. pair (schubert_over g v) (λ β. φ (join α β))) in
      let q = pair_times (elementary_of (n + n) (suc d) (these_y (places c) n)) (schubert_over g v) φ in
      let r = pair_times (times y e) p φ in
      let t = pair_determined (times (times y e) p) (times y (times e p)) φ (times_assoc y e p) in
      let u = y_factor n c (times e p) φ (In_with_y n c g i d v) h in
      omega (arith, ints);
}

-- ---- a row

pub turned_none : (k : ℕ) → turned k (pos 0) ≡ pos 0
turned_none zero = refl
turned_none (suc k) = turned_none k

pub row_expanded_y : (n i c : ℕ) (g : Poly) (φ : List ℕ → ℤ) (q : List ℕ) → In (n + n) g → IsState n q → i < n → c ≤ n
    → valued (row_times n i c g) φ q ≡ expanded_y c n i (with_y n c g) φ q
row_expanded_y n i zero g φ q j s h l = sym (pair_determined (times (one (n + n)) (schubert_over g q)) (schubert_over g q) φ (one-times (n + n) (schubert_over g q) (In_over n g q j)))
row_expanded_y n i (suc c) g φ q j s h l =
    let k = In_row n i c g j h (omega arith) in
    let a = one_factor n i c (row_times n i c g) φ q k s h (omega arith) in
    let d = moved_y_ext n i (valued (row_times n i c g)) (λ ψ v. expanded_y c n i (with_y n c g) ψ v) φ φ q s h
    (row_expanded_y n i c g (λ α. φ (raise (letters_before (n - i) q) α)) q j s h (omega arith)) (λ v t. row_expanded_y n i c g φ v j t h (omega arith)) in
    let f = row_expanded_y n i c g (λ α. φ (raise (n + c) α)) q j s h (omega arith) in
    let m = expanded_y_more c n i (n + c) (with_y n c g) (with_y n (suc c) g) φ q (In_with_y n c g j) (one_letter_more n c g j (omega arith)) s h in
    let p = pair_times (elementary_of (n + n) (suc c) (these_y (places c) n)) (schubert_over g q) φ in
    let z = no_elementary n (suc c) (places c) (λ α. pair (schubert_over g q) (λ β. φ (join α β))) (omega (arith, length_after 0 c)) in
    let t = ap (turned (suc c)) (p ∙ z) ∙ turned_none (suc c) in
    omega (arith, ints)
