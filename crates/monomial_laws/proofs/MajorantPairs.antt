-- For a polynomial f, and a function φ of exponent lists, let `pair f φ` be the sum of c·φ(α) over the terms c·x^α of f. If F is a majorant of f
-- (`IsMajorant`), and no value of φ is negative, then `pair F φ` is at least the absolute value of `pair f φ`.
use Rattle.std.proofs.Common.{◌≡◌, ◌⊎◌, ℕ, zero, suc, ◌≤◌, cond, not, List, [], ◌∷◌, length, sym, ap, subst, inl, inr, arith, ℤ, pos, ◌+ℤ◌, ◌*ℤ◌}
use Rattle.std.specs.Prelude.{◌≤ℤ◌, nat_abs}
use Rattle.std.proofs.lemmas.Int.{ints}
use Rattle.sym_model.specs.Polynomial.{Poly, coefficient, plus, negate, pair}
use Rattle.sym_model.proofs.Exponents.{same_refl, same_or_not}
use Rattle.sym_model.proofs.Polynomials.{pair_plus, pair_negate, pair_others, others, length_others, others_there, others_elsewhere, coefficient_plus, coefficient_negate}
use Rattle.sym_model.proofs.Integers.{product-nonnegative}
use Rattle.monomial_laws.specs.Majorant.{IsMajorant}

nonnegative_by_length : (n : ℕ) (f : Poly) (φ : List ℕ → ℤ) → length f ≤ n → ((α : List ℕ) → pos 0 ≤ℤ coefficient f α) → ((α : List ℕ) → pos 0 ≤ℤ φ α) → pos 0 ≤ℤ pair f φ
nonnegative_by_length n [] φ l h p = omega (arith, ints)
nonnegative_by_length zero (t ∷ f) φ l h p = absurd (omega arith)
nonnegative_by_length (suc n) (t ∷ f) φ l h p =
    let left = others t.0 (t ∷ f) in
    let fewer : length left ≤ n = rw shorter (omega (arith, length_others t.0 f)) in
    let rest = nonnegative_by_length n left φ fewer (λ β. by β (same_or_not t.0 β)) p in
    let here = product-nonnegative (φ t.0) (coefficient (t ∷ f) t.0) (p t.0) (h t.0) in
    subst (λ z. pos 0 ≤ℤ z) (sym (pair_others t.0 (t ∷ f) φ)) (both (φ t.0 *ℤ coefficient (t ∷ f) t.0) (pair left φ) here rest)
  where
    both : (x y : ℤ) → pos 0 ≤ℤ x → pos 0 ≤ℤ y → pos 0 ≤ℤ (x +ℤ y)
    both x y a b = omega (arith, ints)

    shorter : others t.0 (t ∷ f) ≡ others t.0 f
    shorter = ap (λ b. cond (not b) (t ∷ others t.0 f) (others t.0 f)) (same_refl t.0)

    by : (β : List ℕ) → (t.0 ≡ β) ⊎ (t.0 ≡ β → ⊥) → pos 0 ≤ℤ coefficient (others t.0 (t ∷ f)) β
    by β (inl e) = subst (λ γ. pos 0 ≤ℤ coefficient (others t.0 (t ∷ f)) γ) e (subst (λ z. pos 0 ≤ℤ z) (sym (others_there t.0 (t ∷ f))) (omega (arith, ints)))
    by β (inr d) = subst (λ z. pos 0 ≤ℤ z) (sym (others_elsewhere t.0 β (t ∷ f) d)) (h β)

pub pair_nonnegative : (f : Poly) (φ : List ℕ → ℤ) → ((α : List ℕ) → pos 0 ≤ℤ coefficient f α) → ((α : List ℕ) → pos 0 ≤ℤ φ α) → pos 0 ≤ℤ pair f φ
pair_nonnegative f φ h p = nonnegative_by_length (length f) f φ (omega arith) h p

-- if F is a majorant of f, and no value of φ is negative, then `pair F φ` is at least the absolute value of `pair f φ`
pub majorant-pair : (F f : Poly) (φ : List ℕ → ℤ) → IsMajorant F f → ((α : List ℕ) → pos 0 ≤ℤ φ α) → pos (nat_abs (pair f φ)) ≤ℤ pair F φ
majorant-pair F f φ m p =
    let a = pair_nonnegative (plus F f) φ (λ α. omega (arith, ints, m α, coefficient_plus F f α)) p in
    let b = pair_nonnegative (plus F (negate f)) φ (λ α. omega (arith, ints, m α, coefficient_plus F (negate f) α, coefficient_negate f α)) p in
    omega (arith, ints, pair_plus F f φ, pair_plus F (negate f) φ, pair_negate f φ)
