use Rattle.std.proofs.Common.{◌≡◌, ◌++◌, ℕ, map}
use Rattle.std.specs.Map.Iter.{deref_pair}
use Rattle.sym_model.specs.Polynomial.{Same}
use Rattle.sym_model.specs.WholeTerms.{combined}
use Rattle.monomial_laws.specs.ExpressionTerms.{in_monomials}
use Rattle.plethysm.specs.PathSums.{power_sum_in}
use Rattle.plethysm.proofs.path.multiplied_out.Given as goal

abbrev pub invariant-loop-label : goal.invariant-loop-label
invariant-loop-label l = record {
  value : (n : ℕ) → Same (in_monomials l.sum n)
      (combined (λ label. power_sum_in l.inner label n) (map deref_pair l.yielded));
  so_far : map deref_pair l.yielded ++ l.label-iterator ≡ l.initial.label-iterator;
}
