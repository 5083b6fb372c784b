use Rattle.std.proofs.Common.{◌≡◌, ◌++◌, map}
use Rattle.fraction_laws.specs.Fractions.{whole}
use Rattle.linear_combinations.specs.Entries.{IsCombination}
use Rattle.linear_combinations.specs.Gains.{Gains, replaced, scaled}
use Rattle.rim_hooks.proofs.steps.add_reductions.Given as goal

-- `sums` is its value before the loop plus c times the reductions of the terms visited so far
abbrev pub invariant-loop-shape : goal.invariant-loop-shape
invariant-loop-shape g l = record {
  gains : Gains l.fn.sums (scaled l.c (replaced (g.R.Reduction.reduced l.rule l.label) (map (λ item. item.now) l.yielded))) l.sums;
  table : IsCombination g.L.PartialEq.eq g.L.Label.is_label whole l.sums;
  so_far : map (λ item. item.now) l.yielded ++ l.shape-iterator.rest.now ≡ l.initial.shape-iterator.rest.now;
}
