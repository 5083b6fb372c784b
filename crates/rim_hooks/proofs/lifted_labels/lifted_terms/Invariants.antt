use Rattle.std.proofs.Common.{◌≡◌, [], ◌++◌, map}
use Rattle.linear_combinations.specs.Gains.{Gains}
use Rattle.rotation_laws.specs.Lifting.{all_lifted}
use Rattle.rim_hooks.proofs.lifted_labels.lifted_terms.Given as goal

-- the table is the sum of the lifted terms visited so far
abbrev pub invariant-loop-label : goal.invariant-loop-label
invariant-loop-label l = record {
  gains : Gains [] (all_lifted l.k l.n (map (λ item. item.now) l.yielded)) l.sums;
  so_far : map (λ item. item.now) l.yielded ++ l.label-iterator.rest.now ≡ l.initial.label-iterator.rest.now;
}
