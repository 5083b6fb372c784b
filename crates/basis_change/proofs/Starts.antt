-- The table with which the change of a list in the monomial basis m into e, h or p starts: d! times the list, written in augmented monomials. The
-- labels of the list have at most d cells.
use Rattle.std.proofs.Common.{ℕ, ◌*◌, ◌≤◌, List, [], ◌∷◌, refl, sym, ap, subst, inl, inr, arith, ℤ}
use Rattle.sym_model.specs.Sum.{Among}
use Rattle.sym_model.specs.Partition.{IsPartition}
use Rattle.sym_model.specs.Expansion.{Basis}
use Rattle.sym_model.specs.Weight.{factorial, growth}
use Rattle.sym_model.specs.WholeTerms.{WholeTerms}
use Rattle.sym_model.proofs.SortedParts.{rows_within_size, IsPartition-none}
use Rattle.sparse_polys.specs.Tables.{IsWholeTable}
use Rattle.sparse_polys.specs.LabelSizes.{AreWithin}
use Rattle.linear_combinations.proofs.Labels.{same_pair}
use Rattle.sparse_polys.proofs.WholeLists.{label-partition}
use Rattle.linear_combinations.specs.Gains.{Gains, HaveLabels, weighed}
use Rattle.linear_combinations.proofs.Masses.{labels_gained}
use Rattle.linear_combinations.proofs.Weighed.{gains_weighed}
use Rattle.basis_change.specs.AugmentedProducts.{MixedLabel, Mixed, IsMixedTable, IsReady}
use Rattle.basis_change.specs.Clearing.{IsBoundedBy, augmented_terms}
use Rattle.basis_change.specs.Costs.{cost}
use Rattle.basis_change.proofs.MixedLabels.{label_laws}
use Rattle.basis_change.proofs.CostTable.{cost-within}

module _ (d : ℕ) (terms : WholeTerms) (low : d ≤ 15) (is : IsWholeTable terms) (within : AreWithin d terms)
    (es : Mixed) (table : IsMixedTable es) (a : Gains [] (augmented_terms (factorial d) terms) es) where
  pub table-cost : (N : ℕ) → IsBoundedBy N terms → weighed cost es ≤ N * growth Basis.completes d
  table-cost N b =
      let w = gains_weighed same_pair label_laws [] (augmented_terms (factorial d) terms) es table a cost in
      let s = cost-within N d terms low is within b in
      omega arith

  pub table-ready : HaveLabels (IsReady d d) es
  table-ready =
      labels_gained label_laws same_pair [] (augmented_terms (factorial d) terms) es table a (IsReady d d) (λ t m. absurd m)
      (ready-terms terms (label-partition terms is) within)
    where
      ready-terms : (ts : WholeTerms) → ((t : List ℕ × ℤ) → Among t ts → IsPartition t.0) → AreWithin d ts → HaveLabels (IsReady d d) (augmented_terms (factorial d) ts)
      ready-terms [] p w u m = absurd m
      ready-terms (t ∷ ts) p w u (inl e) =
          let q = p t (inl refl) in
          let s = w t (inl refl) in
          let r = rows_within_size t.0 q.positive in
          subst (IsReady d d) (sym (ap (λ (x : MixedLabel × ℤ). x.0) e))
          (record { converted = IsPartition-none; augmented = q; low = omega arith; few = omega arith })
      ready-terms (t ∷ ts) p w u (inr m) = ready-terms ts (λ v n. p v (inr n)) (λ v n. w v (inr n)) u m
