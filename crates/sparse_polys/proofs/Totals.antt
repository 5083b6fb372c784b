-- Sums over the terms of a combination: they are determined by its coefficients, whatever the order of the terms.
use Rattle.std.proofs.Common.{◌≡◌, Bool, true, ℤ, pos, ◌+ℤ◌, refl}
use Rattle.std.specs.Cmp.{IsEquivalence}
use Rattle.fraction_laws.specs.Fractions.{whole, fraction_sum}
use Rattle.sym_model.specs.Sum.{total, Among}
use Rattle.sym_model.specs.Expansion.{Fraction, Terms}
use Rattle.linear_combinations.proofs.Totals
pub use Rattle.linear_combinations.proofs.Totals.{once}
use Rattle.sparse_polys.specs.Combination.{coefficient, IsCombination, HasMoreAt, HasSameCoefficients}

module _ {L : Type 0} {eq : L → L → Bool} (laws : IsEquivalence eq) (same : (x y : L) → eq x y ≡ true → x ≡ y) where
  module _ {is_label : L → Bool} where
    pub carried : (first second : Terms L) → IsCombination eq is_label first → (t : L × Fraction) → Among t first → coefficient eq second t.0 ≡ coefficient eq first t.0 → Among t second
    carried first second is = Totals.carried laws same (whole (pos 0)) (λ (r : Fraction). r) refl first second is

    module _ (first second : Terms L) (is : IsCombination eq is_label first) (also : IsCombination eq is_label second) where
      pub total_same : (f : L × Fraction → ℤ) → HasSameCoefficients eq first second → total f first ≡ total f second
      total_same =
          Totals.total_same laws same (whole (pos 0)) (λ (r : Fraction). r) refl first second is also

  pub total-more : (f : L → Fraction → ℤ) → ((l : L) → f l (whole (pos 0)) ≡ pos 0) → (k : L) → {is_label : L → Bool} (old new : Terms L)
      → IsCombination eq is_label old → IsCombination eq is_label new → (c : Fraction) → HasMoreAt eq old k c new
      → total (λ (t : L × Fraction). f t.0 t.1) new +ℤ f k (coefficient eq old k) ≡ total (λ (t : L × Fraction). f t.0 t.1) old +ℤ f k (coefficient eq new k)
  total-more f empty k {is_label} old new is also =
      Totals.total-more laws same (whole (pos 0)) f empty k (λ (r : Fraction). r) fraction_sum refl old new is also
