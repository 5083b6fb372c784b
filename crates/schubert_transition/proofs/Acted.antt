-- The product x^e·S_w of a monomial and a Schubert polynomial in n variables (specs/Acted).
--     acted_start       for e = 0 the product is S_w
--     acted_natural     the product has no negative coefficients
--     acted_at          if x^α is the first monomial of S_w, the coefficient of x^e·x^α in the product is at least 1
use Rattle.std.proofs.Common.{◌≡◌, ℕ, Bool, true, false, cond, List, [], refl, ap, ◌∙◌, arith, ℤ, pos, ◌≤ℤ◌}
use Rattle.std.proofs.lemmas.Int.{ints}
use Rattle.sym_model.specs.Polynomial.{Poly, same, join, pair, one, resize, fits_in}
use Rattle.sym_model.specs.Schubert.{schubert, schubert_in}
use Rattle.sym_model.proofs.Sums.{total_not_negative}
use Rattle.sym_model.proofs.Exponents.{same_true, same_refl, join_zeros, resize-nil, fits_in_length}
use Rattle.sym_model.proofs.Polynomials.{pair_in, at_only, In_restrict, at_only-nonnegative}
use Rattle.sym_model.proofs.Integers.{cond-nonnegative}
use Rattle.transition_laws.specs.Acted.{acted}
use Rattle.transition_walk.proofs.Monomials.{HasMonomials}
use Rattle.sym_model.proofs.PolynomialLaws.{restricted_test}

pub acted_start : (n : ℕ) (φ : List ℕ → ℤ) (w : List ℕ) → acted n φ w [] ≡ pair (schubert_in w n) φ
acted_start n φ w =
    ap (λ b. cond b (pair (schubert_in w n) (λ β. φ (join (resize n []) β))) (pos 0)) (fits_in_length n [] (omega arith))
    ∙ pair_in n (schubert_in w n) (λ β. φ (join (resize n []) β)) φ (In_restrict n (schubert w))
    (λ β l. ap φ (ap (λ α. join α β) (resize-nil n) ∙ join_zeros n β (omega arith)))

-- ---- the coefficients of x^e·S_w are not negative

monomials_natural : (f : Poly) (φ : List ℕ → ℤ) (h : HasMonomials f) → ((α : List ℕ) → pos 0 ≤ℤ φ α) → φ h.first ≤ℤ pair f φ
monomials_natural f φ h k = let a = h.sums φ in let b = total_not_negative φ h.others k in omega (arith, ints)

pub shown_natural : (n : ℕ) (φ : List ℕ → ℤ) (e : List ℕ) → ((α : List ℕ) → pos 0 ≤ℤ φ α) → pos 0 ≤ℤ restricted_test n φ e
shown_natural n φ e k = cond-nonnegative (fits_in n e) (φ (resize n e)) (k (resize n e))

pub acted_natural : (n : ℕ) (φ : List ℕ → ℤ) (w e : List ℕ) → HasMonomials (schubert_in w n) → ((α : List ℕ) → pos 0 ≤ℤ φ α) → pos 0 ≤ℤ acted n φ w e
acted_natural n φ w e h k =
    shown_natural n (λ α. pair (schubert_in w n) (λ β. φ (join α β))) e
    (λ α. let a = monomials_natural (schubert_in w n) (λ β. φ (join α β)) h (λ β. k (join α β)) in let b = k (join α h.first) in omega (arith, ints))

pub at_only_here : (γ : List ℕ) → at_only γ γ ≡ pos 1
at_only_here γ = ap (λ b. cond b (pos 1) (pos 0)) (same_refl γ)

pub acted_at : (n : ℕ) (w α e : List ℕ) (h : HasMonomials (schubert_in w n)) → fits_in n α ≡ true
    → at_only α e ≤ℤ acted n (at_only (join (resize n α) h.first)) w e
acted_at n w α e h fits = by (same e α) refl
  where
    by : (b : Bool) → same e α ≡ b → cond b (pos 1) (pos 0) ≤ℤ acted n (at_only (join (resize n α) h.first)) w e
    by false p = acted_natural n (at_only (join (resize n α) h.first)) w e h (at_only-nonnegative (join (resize n α) h.first))
    by true p =
        let is : e ≡ α = same_true e α p in
        let γ : List ℕ = join (resize n α) h.first in
        let shows : acted n (at_only (join (resize n α) h.first)) w e ≡ pair (schubert_in w n) (λ β. at_only (join (resize n α) h.first) (join (resize n α) β)) =
        ap (λ x. acted n (at_only (join (resize n α) h.first)) w x) is
        ∙ ap (λ b. cond b (pair (schubert_in w n) (λ β. at_only (join (resize n α) h.first) (join (resize n α) β))) (pos 0)) fits in
        let m = monomials_natural (schubert_in w n) (λ β. at_only (join (resize n α) h.first) (join (resize n α) β)) h (λ β. at_only-nonnegative (join (resize n α) h.first) (join (resize n α) β)) in
        let one = at_only_here (join (resize n α) h.first) in
        omega (arith, ints)
