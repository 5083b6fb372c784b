use Rattle.std.proofs.Common.{◌≡◌, ℕ, ◌*◌, ◌++◌, map, ◌*ℤ◌}
use Rattle.std.specs.Prelude.{nat_eq}
use Rattle.std.specs.Cmp.Lexicographic.{pointwise}
use Rattle.std.specs.Map.Iter.{deref_pair}
use Rattle.fraction_laws.specs.Fractions.{scaled}
use Rattle.sym_model.specs.LabelLimits.{is_label}
use Rattle.sym_model.specs.WholeTerms.{WholeTerms}
use Rattle.linear_combinations.specs.Cleared.{IsDenominator, IsCommonDenominator, AreCleared}
use Rattle.linear_combinations.specs.Cleared.{GainsCleared}
use Rattle.basis_expand.specs.SchurLists.{ComeTo, row_at}
use Rattle.basis_expand.proofs.schur_products.add_term_product.Given as goal

-- the products of c·s_left with the terms of `right` that the loop has visited have been added to `sum`; the visited terms, followed by the other
-- terms, are all terms of `right`
abbrev pub invariant-loop-other : goal.invariant-loop-other
invariant-loop-other l = record {
  sums :
      (d e : ℕ) → IsDenominator d l.c → IsCommonDenominator e l.right
      → AreCleared (pointwise nat_eq) (d * e) l.fn.sum → (gained : WholeTerms)
      × ComeTo gained
      (λ n φ. scaled d l.c *ℤ row_at l.left e (map deref_pair l.yielded) n φ)
      × GainsCleared (pointwise nat_eq) is_label (d * e) l.fn.sum gained l.sum;
  so_far : map deref_pair l.yielded ++ l.other-iterator ≡ l.initial.other-iterator;
}
