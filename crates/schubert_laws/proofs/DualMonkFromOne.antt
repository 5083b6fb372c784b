-- Monk's rule for divided differences of x_j·g, with places counted from 1, as `dual_monk_law` states it.
use Rattle.std.proofs.Common.{◌≡◌, ℕ, zero, suc, ◌+◌, ◌-◌, ◌<◌, ◌≤◌, List, length, get_or, map, refl, sym, ◌∙◌, ap, ap₂, arith, cond, ◌==◌, ℤ, pos, ◌+ℤ◌, neg_ℤ}
use Rattle.std.specs.List.{swap}
use Rattle.std.proofs.lemmas.Int.{ints}
use Rattle.std.proofs.lemmas.List.{get_or_default}
use Rattle.sym_model.specs.Sum.{total}
use Rattle.sym_model.specs.Partition.{after}
use Rattle.sym_model.specs.PlaceOrders.{inversions}
use Rattle.sym_model.specs.Polynomial.{Poly, Same, In, plus, negate, times, pair}
use Rattle.sym_model.specs.BetaList.{rising_pairs}
use Rattle.sym_model.specs.Permutation.{IsOneLine, letter, swapped, covers_among}
use Rattle.sym_model.specs.DividedDifference.{variable}
use Rattle.sym_model.specs.Schubert.{schubert_over}
use Rattle.sym_model.proofs.AfterLists.{after_among}
use Rattle.sym_model.proofs.Polynomials.{pair_plus, pair_negate, pair_each, same_from_pair}
use Rattle.sym_model.proofs.Sums.{total_among, total_map, total_select, total_neg}
use Rattle.schubert_laws.specs.PathCovers.{covers_after, covers_before, each_over}
use Rattle.schubert_laws.proofs.ChainLetters.{cover_test}
use Rattle.schubert_laws.proofs.DifferenceLaws.{variable_after, pair_variable_times}
use Rattle.schubert_laws.proofs.DifferencesFromOne.{variable_is}
use Rattle.schubert_laws.proofs.DualMonk.{dual_monk}
use Rattle.schubert_laws.proofs.FixedLetters.{In_descended}
use Rattle.schubert_laws.proofs.MonkFromOne.{swap_is, sum_split}
use Rattle.schubert_laws.proofs.MonkStep.{covered, value, signed_up, signed_down, signed_same, covered_sym}
use Rattle.schubert_laws.proofs.Swaps.{among_get}

-- the sum over those lists f(j) that are covers of w
pair_lists : (g : Poly) (φ : List ℕ → ℤ) (w : List ℕ) (f : ℕ → List ℕ) (js : List ℕ)
    → pair (each_over g (covers_among w (map f js))) φ ≡ total (λ j. cond (inversions (f j) == inversions w + 1) (pair (schubert_over g (f j)) φ) (pos 0)) js
pair_lists g φ w f js =
    pair_each (λ v. schubert_over g v) (covers_among w (map f js)) φ
    ∙ total_select (λ v. pair (schubert_over g v) φ) (λ v. inversions v == inversions w + 1) (map f js)
    ∙ total_map (λ v. cond (inversions v == inversions w + 1) (pair (schubert_over g v) φ) (pos 0)) f js

one_cover : (g : Poly) (φ : List ℕ → ℤ) (w : List ℕ) (a b : ℕ) → IsOneLine w → a < length w → b < length w
    → cond (inversions (swap w a b) == inversions w + 1) (pair (schubert_over g (swap w a b)) φ) (pos 0) ≡ covered g φ w a b
one_cover g φ w a b o h l = ap₂ (λ t v. cond t (pair (schubert_over g v) φ) (pos 0)) (cover_test a b w o h l) (swap_is w a b h l)

dual_at : (g : Poly) (n q : ℕ) (p : List ℕ) (φ : List ℕ → ℤ) → In n g → length p ≤ n → IsOneLine p → q < length p
    → pair (times (variable (suc q)) (schubert_over g p)) φ
    ≡ pair (schubert_over (times (variable (length p + 1 - letter p (suc q))) g) p) φ
    +ℤ (pair (each_over g (covers_after (suc q) p)) φ +ℤ neg_ℤ (pair (each_over g (covers_before (suc q) p)) φ))
dual_at g n q p φ i l o h =
    let z : suc q - 1 ≡ q = omega arith in
    let d = dual_monk g n q p φ i l o h in
    let x = ap (λ v. pair (times v (schubert_over g p)) φ) (variable_is q (suc q) refl) ∙ pair_variable_times q n (schubert_over g p) φ (In_descended g n (rising_pairs p) p i) (omega arith) in
    let y = same_letter in
    let s = sum_split (length p) q (value g φ p q) h in
    let here = signed_same q q (covered g φ p q q) refl in
    let ups = pair_lists g φ p (λ b. swapped (suc q) b p) (after (suc q) (length p - suc q)) in
    let downs = pair_lists g φ p (λ a. swapped a (suc q) p) (after 0 (suc q - 1)) in
    let e : q + 1 ≡ suc q = omega arith in
    let up = total_among (λ j. value g φ p q (j - 1)) (λ j. cond (inversions (swapped (suc q) j p) == inversions p + 1) (pair (schubert_over g (swapped (suc q) j p)) φ) (pos 0)) (after (q + 1) (length p - (q + 1))) (λ j m.
    let r = after_among (q + 1) (length p - (q + 1)) j m in let r0 = r.0 in let r1 = r.1 in
    signed_up q (j - 1) (covered g φ p q (j - 1)) (omega arith)
    ∙ sym (ap (λ t. cond (inversions (swap p t (j - 1)) == inversions p + 1) (pair (schubert_over g (swap p t (j - 1))) φ) (pos 0)) z ∙ one_cover g φ p q (j - 1) o h (omega arith))) in
    let down = total_among (λ j. value g φ p q (j - 1)) (λ j. neg_ℤ (cond (inversions (swapped j (suc q) p) == inversions p + 1) (pair (schubert_over g (swapped j (suc q) p)) φ) (pos 0))) (after 0 q) (λ j m.
    let r = after_among 0 q j m in let r0 = r.0 in let r1 = r.1 in
    signed_down q (j - 1) (covered g φ p q (j - 1)) (omega arith)
    ∙ ap neg_ℤ (covered_sym g φ p q (j - 1)
    ∙ sym (ap (λ t. cond (inversions (swap p (j - 1) t) == inversions p + 1) (pair (schubert_over g (swap p (j - 1) t)) φ) (pos 0)) z ∙ one_cover g φ p (j - 1) q o (omega arith) h))) in
    let neg = total_neg (λ j. cond (inversions (swapped j (suc q) p) == inversions p + 1) (pair (schubert_over g (swapped j (suc q) p)) φ) (pos 0)) (after 0 q) in
    let u = ap (λ t. total (λ j. cond (inversions (swapped (suc q) j p) == inversions p + 1) (pair (schubert_over g (swapped (suc q) j p)) φ) (pos 0)) (after t (length p - t))) e in
    let v = ap (λ t. total (λ j. cond (inversions (swapped j (suc q) p) == inversions p + 1) (pair (schubert_over g (swapped j (suc q) p)) φ) (pos 0)) (after 0 t)) z in
    omega (arith, ints)
  where
    same_letter : pair (schubert_over (times (variable (length p + 1 - letter p (suc q))) g) p) φ ≡ pair (schubert_over (times (variable_after (length p - get_or p q 0)) g) p) φ
    same_letter =
        let z : suc q - 1 ≡ q = omega arith in
        let a = ap (λ i. get_or p i (suc q)) z ∙ get_or_default p q (suc q) 0 h in
        let b = (o.letters (get_or p q 0) (among_get q 0 p h)).1 in
        ap (λ x. pair (schubert_over (times x g) p) φ) (variable_is (length p - get_or p q 0) (length p + 1 - letter p (suc q)) (omega arith))

pub dual_monk_in : (g : Poly) (n r : ℕ) (p : List ℕ) → In n g → length p ≤ n → IsOneLine p → 1 ≤ r → r ≤ length p
    → Same (times (variable r) (schubert_over g p))
    (plus (schubert_over (times (variable (length p + 1 - letter p r)) g) p) (plus (each_over g (covers_after r p)) (negate (each_over g (covers_before r p)))))
dual_monk_in g n zero p i l o h m = λ α. absurd (omega arith)
dual_monk_in g n (suc q) p i l o h m =
    same_from_pair (times (variable (suc q)) (schubert_over g p)) (plus (schubert_over (times (variable (length p + 1 - letter p (suc q))) g) p) (plus (each_over g (covers_after (suc q) p)) (negate (each_over g (covers_before (suc q) p))))) (λ φ.
    dual_at g n q p φ i l o (omega arith)
    ∙ sym (pair_plus (schubert_over (times (variable (length p + 1 - letter p (suc q))) g) p) (plus (each_over g (covers_after (suc q) p)) (negate (each_over g (covers_before (suc q) p)))) φ
    ∙ ap (λ z. pair (schubert_over (times (variable (length p + 1 - letter p (suc q))) g) p) φ +ℤ z)
    (pair_plus (each_over g (covers_after (suc q) p)) (negate (each_over g (covers_before (suc q) p))) φ
    ∙ ap (λ z. pair (each_over g (covers_after (suc q) p)) φ +ℤ z) (pair_negate (each_over g (covers_before (suc q) p)) φ))))
