use Rattle.std.proofs.Common.{◌≡◌, ◌++◌, map}
use Rattle.std.specs.Map.Iter.{deref_pair}
use Rattle.linear_combinations.specs.Gains.{Gains, replaced}
use Rattle.linear_combinations.proofs.whole.Lin+L+Int.add_by.Given as goal

-- the table is the one at the start plus c times the image of the label, for each term (label, c) visited so far (`Gains`)
abbrev pub invariant-loop-label : goal.invariant-loop-label
invariant-loop-label g l = record {
  gains : Gains l.fn.self (replaced (g.T.Rule.image l.rule) (map deref_pair l.yielded)) l.self;
  so_far : map deref_pair l.yielded ++ l.label-iterator ≡ l.initial.label-iterator;
}
