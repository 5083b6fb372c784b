-- Combinations with the same coefficients have the same value as polynomials, whatever the order of their terms.
use Rattle.std.proofs.Common.{◌≡◌, ℕ, ◌*◌, ◌/◌, Bool, true, List, [], ◌∷◌, length, ℤ, pos, ◌*ℤ◌, refl, sym, ap, ◌∙◌, inl, inr, arith, rules}
use Rattle.std.specs.Cmp.{IsEquivalence}
use Rattle.sym_model.specs.Sum.{total, Among, Once, Within}
use Rattle.sym_model.specs.Polynomial.{Poly, coefficient as coefficient_of}
use Rattle.sym_model.specs.Expansion.{Fraction, Terms, denominators, cleared, Represents}
use Rattle.sym_model.proofs.Sums.{without, length-without, Within_tail, length_within, Within-without}
use Rattle.sym_model.proofs.Polynomials.{coefficient_plus, coefficient_scale}
use Rattle.sparse_polys.specs.Combination.{IsCombination, HasSameCoefficients}
use Rattle.sparse_polys.proofs.Totals.{once, carried, total_same}
use Rattle.std.proofs.Math.Nat.{mul_left_comm}

module _ {L : Type 0} where
  denominators-without : (x : L × Fraction) (xs : Terms L) (m : Among x xs) → denominators xs ≡ x.1.1 * denominators (without x xs m)
  denominators-without x [] m = absurd m
  denominators-without x (y ∷ xs) (inl e) = ap (λ (z : L × Fraction). z.1.1 * denominators xs) (sym e)
  denominators-without x (y ∷ xs) (inr m) =
      ap (λ n. y.1.1 * n) (denominators-without x xs m) ∙ mul_left_comm y.1.1 x.1.1 (denominators (without x xs m))

  denominators-within : (xs ys : Terms L) → Once ys → Within ys xs → length ys ≡ length xs → denominators ys ≡ denominators xs
  denominators-within [] [] o w l = refl
  denominators-within (x ∷ xs) [] o w l = absurd (omega arith)
  denominators-within xs (y ∷ ys) o w l =
      let m = w y (inl refl) in
      let e = length-without y xs m in
      let k : length ys ≡ length (without y xs m) = omega arith in
      let r = denominators-within (without y xs m) ys o.1 (Within-without y xs ys m o.0 (Within_tail y ys xs w)) k in
      ap (λ n. y.1.1 * n) r ∙ sym (denominators-without y xs m)

  -- the part of the coefficient of x^α that comes from the term t, if all coefficients of the list are multiplied by q
  abbrev share : (L → Poly) → ℕ → List ℕ → L × Fraction → ℤ
  share polynomial q α t = (t.1.0 *ℤ pos (q / t.1.1)) *ℤ coefficient_of (polynomial t.0) α

  coefficient-cleared : (polynomial : L → Poly) (q : ℕ) (terms : Terms L) (α : List ℕ) → coefficient_of (cleared polynomial q terms) α ≡ total (share polynomial q α) terms
  coefficient-cleared polynomial q [] α = refl
  coefficient-cleared polynomial q (t ∷ terms) α = search (rules, coefficient_plus, coefficient_scale, (coefficient-cleared polynomial q terms α))

  represents_same : (polynomial : L → Poly) (first second : Terms L) (f : Poly) (d : ℕ)
      → ((g : L × Fraction → ℤ) → total g first ≡ total g second) → denominators first ≡ denominators second
      → Represents polynomial first f d → Represents polynomial second f d
  represents_same polynomial first second f d sums dens h = search (rules, coefficient_scale, coefficient-cleared)

module _ {L : Type 0} {eq : L → L → Bool} (laws : IsEquivalence eq) (same : (x y : L) → eq x y ≡ true → x ≡ y) {is_label : L → Bool}
    (first second : Terms L) (is : IsCombination eq is_label first) (also : IsCombination eq is_label second) (equal : HasSameCoefficients eq first second) where
  pub denominators_same : denominators first ≡ denominators second
  denominators_same = search (rules, once, carried, length_within, denominators-within)

  pub represents-same_coefficients : (polynomial : L → Poly) (f : Poly) (d : ℕ) → Represents polynomial first f d → Represents polynomial second f d
  represents-same_coefficients polynomial f d h =
      represents_same polynomial first second f d (λ g. total_same laws same first second is also g equal) denominators_same h
