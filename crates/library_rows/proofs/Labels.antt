-- The labels of a table, which is a list of terms with different labels: if it has only one term, or after one more term is added.
use Rattle.std.proofs.Common.{◌≡◌, ◌≤◌, ℕ, Bool, true, List, [], ◌∷◌, refl, sym, subst}
use Rattle.std.proofs.Common.{inl, inr, arith, ℤ, pos, ◌+ℤ◌}
use Rattle.std.specs.Cmp.{IsEquivalence}
use Rattle.sym_model.specs.Partition.{size}
use Rattle.sym_model.specs.Sum.{Among}
use Rattle.fraction_laws.specs.Fractions.{whole}
use Rattle.linear_combinations.specs.Entries.{IsCombination, HasMoreAt}
use Rattle.linear_combinations.specs.Gains.{WholeTermsOf, HaveLabels}
use Rattle.linear_combinations.proofs.Gains.{gains_term}
use Rattle.linear_combinations.proofs.Masses.{labels_gained}
use Rattle.sparse_polys.specs.MonomialProducts.{greatest_size}
use Rattle.beta_sets.proofs.ShapeSums.{one_label}

module _ {L : Type 0} {eq : L → L → Bool} (laws : IsEquivalence eq)
    (same : (x y : L) → eq x y ≡ true → x ≡ y) {is_label : L → Bool} (old new : WholeTermsOf L)
    (k : L) (c : ℤ) where
  pub one_more_has : IsCombination eq is_label whole old → IsCombination eq is_label whole new
      → HasMoreAt eq (pos 0) (λ x y. x +ℤ y) old k c new
      → (P : L → Type 0) → HaveLabels P old → P k → HaveLabels P new
  one_more_has was also more P there here =
      labels_gained laws same old ((k, c) ∷ []) new also
      (gains_term laws same old new was also k c more) P there (one_label P k c here)

  pub only_has : old ≡ [] → IsCombination eq is_label whole old
      → IsCombination eq is_label whole new
      → HasMoreAt eq (pos 0) (λ x y. x +ℤ y) old k c new
      → (P : L → Type 0) → P k → HaveLabels P new
  only_has none was also more P here =
      one_more_has was also more P
      (subst (λ ts. HaveLabels P ts) (sym none) (λ t m. absurd m)) here

pub sizes_bounded : {R : Type 0} (bound : ℕ) (terms : List (List ℕ × R))
    → ((t : List ℕ × R) → Among t terms → size t.0 ≤ bound) → greatest_size terms ≤ bound
sizes_bounded bound [] each = omega arith
sizes_bounded bound (t ∷ terms) each =
    let a = each t (inl refl) in
    let b = sizes_bounded bound terms (λ u m. each u (inr m)) in
    omega arith
