use Rattle.std.proofs.Common.{◌≡◌, ◌++◌, map, pos}
use Rattle.sym_model.specs.ReductionSteps.{with_power}
use Rattle.rotation_laws.specs.Rotation.{all_turned}
use Rattle.rotation_laws.proofs.Rotations.{Alike}
use Rattle.rim_hooks.proofs.rotated_labels.rotated_terms.Given as goal

-- the table, times the power of q of the bases, has the coefficients of the rotated terms visited so far
abbrev pub invariant-loop-label : goal.invariant-loop-label
invariant-loop-label l = record {
  alike : Alike (with_power l.bases.power (pos 1) l.sums) (all_turned l.k l.n l.bases.turns (map (λ item. item.now) l.yielded));
  so_far : map (λ item. item.now) l.yielded ++ l.label-iterator.rest.now ≡ l.initial.label-iterator.rest.now;
}
