use Rattle.std.proofs.Common.{◌≡◌, [], ◌++◌, map}
use Rattle.std.specs.Map.Iter.{deref_pair}
use Rattle.fraction_laws.specs.Fractions.{whole}
use Rattle.linear_combinations.specs.Entries.{IsCombination}
use Rattle.linear_combinations.specs.Gains.{Gains}
use Rattle.reduction_laws.specs.Reductions.{multiplied}
use Rattle.rim_hooks.proofs.steps.times_factor.Given as goal

-- `sums` is the sum of the reduced products of `factor` and the terms visited so far
abbrev pub invariant-loop-label : goal.invariant-loop-label
invariant-loop-label g l = record {
  gains : Gains [] (multiplied (g.R.Reduction.variables l.rule) g.R.Reduction.shape (g.R.Reduction.reduced l.rule) l.factor (map deref_pair l.yielded)) l.sums;
  table : IsCombination g.L.PartialEq.eq g.L.Label.is_label whole l.sums;
  so_far : map deref_pair l.yielded ++ l.label-iterator ≡ l.initial.label-iterator;
}
