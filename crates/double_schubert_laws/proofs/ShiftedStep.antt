-- The product of y^e·S_w with x_r - y_c as a sum of products y^d·S_v, for double Schubert polynomials.
use Rattle.std.proofs.Common.{◌≡◌, ℕ, ◌≤◌, List, ◌++◌, replicate, refl, sym, ◌∙◌, ap, ℤ, ◌+ℤ◌, ◌-ℤ◌, flat_map}
use Rattle.std.proofs.lemmas.Int.{ints}
use Rattle.std.proofs.lemmas.List.{length-replicate}
use Rattle.std.proofs.Common.{arith, flat_map}
use Rattle.sym_model.specs.Sum.{total}
use Rattle.sym_model.specs.Polynomial.{Poly, Same, one, plus, negate, times, pair, join}
use Rattle.sym_model.specs.Permutation.{IsOneLine, letter, covers_up, covers_down}
use Rattle.sym_model.specs.DividedDifference.{x_to, x_to_in, variable, variable_in, raised}
use Rattle.sym_model.specs.Expansion.{beside}
use Rattle.sym_model.proofs.Exponents.{join_zeros}
use Rattle.sym_model.proofs.Polynomials.{pair_ext, pair_one, pair_each, pair_plus, pair_negate, pair_times, pair_times_each, pair_beside, pair_determined, same_from_pair, Same_refl, Same_sym, Same_trans, times_respects}
use Rattle.sym_model.proofs.PolynomialLaws.{times_comm, times_assoc, times-plus, times-negate, restrict-times}
use Rattle.sym_model.specs.DoubleSchubert.{difference_in, double_schubert_in, shifted_in, double_schuberts_in}
use Rattle.double_schubert_laws.proofs.BothRestrictions.{join_append}
use Rattle.double_schubert_laws.proofs.DoubleVariables.{double_monk_in}

-- the polynomial f(y_1, .., y_n), as a polynomial in n variables x and n variables y
abbrev in_y : ℕ → Poly → Poly
in_y n f = beside (one n) f

in_y-times : (n : ℕ) (f g : Poly) → Same (times (in_y n f) (in_y n g)) (in_y n (times f g))
in_y-times n f g =
    same_from_pair (times (in_y n f) (in_y n g)) (in_y n (times f g)) (λ φ.
    pair_times (in_y n f) (in_y n g) φ
    ∙ pair_beside (one n) f (λ α. pair (in_y n g) (λ β. φ (join α β)))
    ∙ pair_one n (λ γ. pair f (λ α. pair (in_y n g) (λ β. φ (join (γ ++ α) β))))
    ∙ pair_ext f (λ α. pair (in_y n g) (λ β. φ (join (replicate n 0 ++ α) β))) (λ α. pair g (λ β. φ (replicate n 0 ++ join α β))) (λ α.
    pair_beside (one n) g (λ β. φ (join (replicate n 0 ++ α) β))
    ∙ pair_one n (λ γ. pair g (λ β. φ (join (replicate n 0 ++ α) (γ ++ β))))
    ∙ pair_ext g (λ β. φ (join (replicate n 0 ++ α) (replicate n 0 ++ β))) (λ β. φ (replicate n 0 ++ join α β)) (λ β.
    ap φ (join_append (replicate n 0) α (replicate n 0) β refl ∙ ap (λ l. l ++ join α β) (join_zeros n (replicate n 0) (let l = length-replicate {A = ℕ} n 0 in omega arith)))))
    ∙ sym (pair_beside (one n) (times f g) φ ∙ pair_one n (λ γ. pair (times f g) (λ β. φ (γ ++ β))) ∙ pair_times f g (λ β. φ (replicate n 0 ++ β))))

in_y_respects : (n : ℕ) (f g : Poly) → Same f g → Same (in_y n f) (in_y n g)
in_y_respects n f g e =
    same_from_pair (in_y n f) (in_y n g) (λ φ.
    pair_beside (one n) f φ
    ∙ pair_ext (one n) (λ α. pair f (λ β. φ (α ++ β))) (λ α. pair g (λ β. φ (α ++ β))) (λ α. pair_determined f g (λ β. φ (α ++ β)) e)
    ∙ sym (pair_beside (one n) g φ))

y_next : (n j : ℕ) (e : List ℕ) → Same (times (in_y n (x_to_in e n)) (in_y n (variable_in j n))) (in_y n (x_to_in (raised j e) n))
y_next n j e =
    Same_trans (times (in_y n (x_to_in e n)) (in_y n (variable_in j n))) (in_y n (times (x_to_in e n) (variable_in j n))) (in_y n (x_to_in (raised j e) n))
    (in_y-times n (x_to_in e n) (variable_in j n))
    (in_y_respects n (times (x_to_in e n) (variable_in j n)) (x_to_in (raised j e) n)
    (Same_sym (x_to_in (raised j e) n) (times (x_to_in e n) (variable_in j n)) (restrict-times n (x_to e) (variable j))))

pair_y_next : (n j : ℕ) (w e : List ℕ) (φ : List ℕ → ℤ) → pair (times (in_y n (variable_in j n)) (shifted_in (w, e) n)) φ ≡ pair (shifted_in (w, raised j e) n) φ
pair_y_next n j w e φ =
    let y = in_y n (variable_in j n) in
    let p = in_y n (x_to_in e n) in
    let s = double_schubert_in w n in
    pair_determined (times y (times p s)) (times (times y p) s) φ (Same_sym (times (times y p) s) (times y (times p s)) (times_assoc y p s))
    ∙ pair_determined (times (times y p) s) (times (in_y n (x_to_in (raised j e) n)) s) φ
    (times_respects (times y p) (in_y n (x_to_in (raised j e) n)) s s (Same_trans (times y p) (times p y) (in_y n (x_to_in (raised j e) n)) (times_comm y p) (y_next n j e)) (Same_refl s))

pair_swapped : (d p s : Poly) (φ : List ℕ → ℤ) → pair (times d (times p s)) φ ≡ pair (times p (times d s)) φ
pair_swapped d p s φ =
    pair_determined (times d (times p s)) (times (times d p) s) φ (Same_sym (times (times d p) s) (times d (times p s)) (times_assoc d p s))
    ∙ pair_determined (times (times d p) s) (times (times p d) s) φ (times_respects (times d p) (times p d) s s (times_comm d p) (Same_refl s))
    ∙ pair_determined (times (times p d) s) (times p (times d s)) φ (times_assoc p d s)

pair_other_y : (n r c l : ℕ) (f : Poly) (φ : List ℕ → ℤ) → pair (times (difference_in r c n) f) φ
    ≡ (pair (times (difference_in r l n) f) φ +ℤ pair (times (in_y n (variable_in l n)) f) φ) -ℤ pair (times (in_y n (variable_in c n)) f) φ
pair_other_y n r c l f φ =
    let x = beside (variable_in r n) (one n) in
    let ψ : List ℕ → ℤ = λ α. pair f (λ β. φ (join α β)) in
    let a = pair_times (difference_in r c n) f φ in
    let b = pair_times (difference_in r l n) f φ in
    let yc = pair_times (in_y n (variable_in c n)) f φ in
    let yl = pair_times (in_y n (variable_in l n)) f φ in
    let p = pair_plus x (negate (in_y n (variable_in c n))) (λ α. pair f (λ β. φ (join α β))) in
    let q = pair_plus x (negate (in_y n (variable_in l n))) (λ α. pair f (λ β. φ (join α β))) in
    let s = pair_negate (in_y n (variable_in c n)) (λ α. pair f (λ β. φ (join α β))) in
    let t = pair_negate (in_y n (variable_in l n)) (λ α. pair f (λ β. φ (join α β))) in
    omega (arith, ints)

pub shifted_step : (n r c : ℕ) (w e : List ℕ) (φ : List ℕ → ℤ) → IsOneLine w → 1 ≤ r
    → pair (times (difference_in r c n) (shifted_in (w, e) n)) φ
    ≡ ((total (λ v. pair (shifted_in (v, e) n) φ) (covers_up r w) -ℤ total (λ v. pair (shifted_in (v, e) n) φ) (covers_down r w))
    +ℤ pair (shifted_in (w, raised (letter w r) e) n) φ) -ℤ pair (shifted_in (w, raised c e) n) φ
shifted_step n r c w e φ o h =
    let p = in_y n (x_to_in e n) in
    let s = double_schubert_in w n in
    let up = double_schuberts_in (covers_up r w) n in
    let down = double_schuberts_in (covers_down r w) n in
    let a = pair_other_y n r c (letter w r) (shifted_in (w, e) n) φ in
    let b = pair_y_next n (letter w r) w e φ in
    let d = pair_y_next n c w e φ in
    let f = pair_swapped (difference_in r (letter w r) n) p s φ in
    let g = pair_determined (times p (times (difference_in r (letter w r) n) s)) (times p (plus up (negate down))) φ
    (times_respects p p (times (difference_in r (letter w r) n) s) (plus up (negate down)) (Same_refl p) (double_monk_in r n w o h)) in
    let i = pair_determined (times p (plus up (negate down))) (plus (times p up) (times p (negate down))) φ (times-plus p up (negate down)) in
    let j = pair_plus (times p up) (times p (negate down)) φ in
    let k = pair_determined (times p (negate down)) (negate (times p down)) φ (times-negate p down) in
    let l = pair_negate (times p down) φ in
    let u = pair_times_each p (λ (v : List ℕ). double_schubert_in v n) (covers_up r w) φ in
    let v = pair_times_each p (λ (v : List ℕ). double_schubert_in v n) (covers_down r w) φ in
    omega (arith, ints)

-- the sum of y^e·S_v over the permutations v of a list, in n variables x and n variables y
abbrev pub shifts_in : List (List ℕ) → List ℕ → ℕ → Poly
shifts_in ws e n = flat_map (λ v. shifted_in (v, e) n) ws

pub shifted_product : (w e : List ℕ) (r c n : ℕ) → IsOneLine w → 1 ≤ r
    → Same (times (difference_in r c n) (shifted_in (w, e) n))
    (plus (plus (shifts_in (covers_up r w) e n) (negate (shifts_in (covers_down r w) e n))) (plus (shifted_in (w, raised (letter w r) e) n) (negate (shifted_in (w, raised c e) n))))
shifted_product w e r c n o h =
    let up = shifts_in (covers_up r w) e n in
    let down = shifts_in (covers_down r w) e n in
    let more = shifted_in (w, raised (letter w r) e) n in
    let less = shifted_in (w, raised c e) n in
    same_from_pair (times (difference_in r c n) (shifted_in (w, e) n)) (plus (plus up (negate down)) (plus more (negate less))) (λ φ.
    let a = shifted_step n r c w e φ o h in
    let b = pair_plus (plus up (negate down)) (plus more (negate less)) φ in
    let d = pair_plus up (negate down) φ in
    let f = pair_plus more (negate less) φ in
    let g = pair_negate down φ in
    let i = pair_negate less φ in
    let u = pair_each (λ (v : List ℕ). shifted_in (v, e) n) (covers_up r w) φ in
    let v = pair_each (λ (v : List ℕ). shifted_in (v, e) n) (covers_down r w) φ in
    omega (arith, ints))
