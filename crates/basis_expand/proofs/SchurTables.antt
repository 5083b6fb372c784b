-- Tables of terms in Schur polynomials (a table has each label at most once), described by the coefficients that look-ups return. For a function φ of
-- exponents, the φ-sum of a list is Σ c·φ(α) over the terms c·x^α of its polynomial.
--     cleared_at            a common denominator of a table is a multiple of the denominator of each coefficient that a look-up returns
--     sum_at-found          the look-ups determine the φ-sum of a table
--     ComeTo-one, -multiple the φ-sums of a list with one term s_label, and of a multiple of a list
--     ComeTo-both           the φ-sum of a list xs ++ ys is that of xs plus that of ys
--     sum_at-sum, -multiple the φ-sum of the sum of two tables, and of a multiple of a table
use Rattle.std.proofs.Common.{◌≡◌, ℕ, ◌*◌, ◌<◌, Bool, true, false, cond, List, [], ◌∷◌, ◌++◌, sym, ◌∙◌, ap, ap₂, subst, refl, inl, inr, arith, ℤ, pos, ◌+ℤ◌, ◌*ℤ◌}
use Rattle.std.specs.Prelude.{nat_eq, Some}
use Rattle.std.specs.Int.{◌∣◌}
use Rattle.std.specs.Map.{lookup}
use Rattle.std.specs.Option.{unwrap_or}
use Rattle.std.specs.Cmp.Lexicographic.{pointwise}
use Rattle.fraction_laws.specs.Fractions.{InLowestTerms, scaled}
use Rattle.fraction_laws.proofs.Cleared.{sum-cleared, product-cleared}
use Rattle.sym_model.specs.Sum.{Among}
use Rattle.sym_model.specs.Polynomial.{coefficient, pair, plus, scale}
use Rattle.sym_model.specs.Schur.{schur}
use Rattle.sym_model.specs.Expansion.{Fraction, Terms}
use Rattle.sym_model.specs.WholeTerms.{WholeTerms}
use Rattle.sym_model.proofs.Ring.{one-product}
use Rattle.sym_model.proofs.Polynomials.{coefficient_plus, coefficient_scale, pair_determined, pair_plus, pair_scale}
use Rattle.sparse_polys.specs.Combination.{IsMultipleOf, IsSumOf}
use Rattle.monomial_laws.specs.ExpressionTerms.{over}
use Rattle.sparse_polys.proofs.Accumulating.{lowest_at}
use Rattle.linear_combinations.proofs.Gains.{scaled_over}
use Rattle.sparse_polys.proofs.Expansions.{coefficient-over, divides_terms}
use Rattle.sparse_polys.specs.Tables.{IsFractionTable}
use Rattle.basis_expand.specs.SchurLists.{ComeTo, sum_at}
use Rattle.linear_combinations.specs.Gains.{scaled as multiple}
use Rattle.linear_combinations.specs.Cleared.{IsCommonDenominator, AreCleared}
use Rattle.sparse_polys.specs.Products.{coefficient_at}
use native.Mathlib.Nat.{mul-pos, dvd-mul_left}
use lib.IntN.{+ℤ_idr, *ℤ_comm}

pub cleared_at : (q : ℕ) (terms : Terms (List ℕ))
    → ((t : List ℕ × Fraction) → Among t terms → t.1.1 ∣ q) → AreCleared (pointwise nat_eq) q terms
cleared_at q [] h ν = subst (λ n. 1 ∣ n) (let e : q * 1 ≡ q = omega arith in e) (dvd-mul_left 1 q)
cleared_at q (t ∷ terms) h ν = by (pointwise nat_eq ν t.0) (cleared_at q terms (λ u m. h u (inr m)) ν)
  where
    by : (b : Bool) → (coefficient_at terms ν).1 ∣ q → (unwrap_or (cond b (Some t.1) (lookup (pointwise nat_eq ν) terms)) (pos 0, 1)).1 ∣ q
    by true r = h t (inl refl)
    by false r = r

-- if q > 0 is a multiple of the denominators of all coefficients that look-ups in a table return (`AreCleared`), it is a common denominator of the
-- terms of the table
pub common_of : (q : ℕ) (terms : Terms (List ℕ)) → 0 < q → IsFractionTable terms
    → AreCleared (pointwise nat_eq) q terms → IsCommonDenominator q terms
common_of q terms some is h = record { positive = some; multiple = divides_terms q terms is (λ ν p. h ν) }

pub sum_at-found : (q : ℕ) (terms : Terms (List ℕ)) (W : WholeTerms) → IsFractionTable terms → ((ν : List ℕ) → scaled q (coefficient_at terms ν) ≡ coefficient W ν)
    → (n : ℕ) (φ : List ℕ → ℤ) → sum_at q terms n φ ≡ pair W (λ label. pair (schur label n) φ)
sum_at-found q terms W is h n φ = pair_determined (over q terms) W (λ label. pair (schur label n) φ) (λ ν. coefficient-over q terms is ν ∙ h ν)

-- if a(n, φ) is Σ c·φ(α) over the terms c·x^α of s_label in n variables, then the list with the one term s_label has the sums a (`ComeTo`)
pub ComeTo-one : (label : List ℕ) (a : ℕ → (List ℕ → ℤ) → ℤ)
    → ((n : ℕ) (φ : List ℕ → ℤ) → pair (schur label n) φ ≡ a n φ)
    → ComeTo ((label, pos 1) ∷ []) a
ComeTo-one label a e n φ =
    +ℤ_idr (pos 1 *ℤ pair (schur label n) φ) ∙ one-product (pair (schur label n) φ) ∙ e n φ

pub ComeTo-multiple : (z : ℤ) (terms : WholeTerms) (a : ℕ → (List ℕ → ℤ) → ℤ) → ComeTo terms a
    → ComeTo (multiple z terms) (λ n φ. z *ℤ a n φ)
ComeTo-multiple z terms a h n φ =
    scaled_over z (λ label. pair (schur label n) φ) terms ∙ ap (λ y. z *ℤ y) (h n φ)

pub ComeTo-both : (first second : WholeTerms) (a b s : ℕ → (List ℕ → ℤ) → ℤ)
    → ((n : ℕ) (φ : List ℕ → ℤ) → a n φ +ℤ b n φ ≡ s n φ)
    → ComeTo first a → ComeTo second b → ComeTo (first ++ second) s
ComeTo-both first second a b s e h k n φ =
    pair_plus first second (λ label. pair (schur label n) φ) ∙ ap₂ ◌+ℤ◌ (h n φ) (k n φ) ∙ e n φ

module _ (q : ℕ) (first second both : Terms (List ℕ)) (is : IsFractionTable first) (also : IsFractionTable second) (it : IsFractionTable both)
    (c : IsCommonDenominator q first) (d : IsCommonDenominator q second) (sums : IsSumOf (pointwise nat_eq) first second both) where
  sum_found : (ν : List ℕ) → ((coefficient_at both ν).1 ∣ q) × (scaled q (coefficient_at both ν) ≡ scaled q (coefficient_at first ν) +ℤ scaled q (coefficient_at second ν))
  sum_found ν =
      let u = sum-cleared q (coefficient_at first ν) (coefficient_at second ν) (lowest_at first is ν) (lowest_at second also ν) c.positive
      (cleared_at q first c.multiple ν) (cleared_at q second d.multiple ν) in
      (subst (λ (r : Fraction). r.1 ∣ q) (sym (sums ν)) u.0, ap (scaled q) (sums ν) ∙ u.1)

  pub common-sum : IsCommonDenominator q both
  common-sum = common_of q both c.positive it (λ ν. (sum_found ν).0)

  pub sum_at-sum : (n : ℕ) (φ : List ℕ → ℤ) → sum_at q both n φ ≡ sum_at q first n φ +ℤ sum_at q second n φ
  sum_at-sum n φ =
      sum_at-found q both (plus (over q first) (over q second)) it
      (λ ν.
      (sum_found ν).1
      ∙ sym (coefficient_plus (over q first) (over q second) ν ∙ ap₂ ◌+ℤ◌ (coefficient-over q first is ν) (coefficient-over q second also ν)))
      n φ
      ∙ pair_plus (over q first) (over q second) (λ label. pair (schur label n) φ)

module _ (q e : ℕ) (c : Fraction) (list multiple : Terms (List ℕ)) (is : IsFractionTable list) (it : IsFractionTable multiple) (lc : InLowestTerms c) (some : 0 < e) (cd : c.1 ∣ e)
    (common : IsCommonDenominator q list) (products : IsMultipleOf (pointwise nat_eq) list c multiple) where
  multiple_found : (ν : List ℕ) → ((coefficient_at multiple ν).1 ∣ (q * e)) × (scaled (q * e) (coefficient_at multiple ν) ≡ scaled q (coefficient_at list ν) *ℤ scaled e c)
  multiple_found ν =
      let u = product-cleared q e (coefficient_at list ν) c (lowest_at list is ν) lc common.positive some (cleared_at q list common.multiple ν) cd in
      (subst (λ (r : Fraction). r.1 ∣ (q * e)) (sym (products ν)) u.0, ap (scaled (q * e)) (products ν) ∙ u.1)

  pub common-multiple : IsCommonDenominator (q * e) multiple
  common-multiple = common_of (q * e) multiple (mul-pos common.positive some) it (λ ν. (multiple_found ν).0)

  pub sum_at-multiple : (n : ℕ) (φ : List ℕ → ℤ) → sum_at (q * e) multiple n φ ≡ scaled e c *ℤ sum_at q list n φ
  sum_at-multiple n φ =
      sum_at-found (q * e) multiple (scale (scaled e c) (over q list)) it
      (λ ν.
      (multiple_found ν).1 ∙ *ℤ_comm (scaled q (coefficient_at list ν)) (scaled e c)
      ∙ sym (coefficient_scale (scaled e c) (over q list) ν ∙ ap (λ z. scaled e c *ℤ z) (coefficient-over q list is ν)))
      n φ
      ∙ pair_scale (scaled e c) (over q list) (λ label. pair (schur label n) φ)
