use Rattle.std.proofs.Common.{◌≡◌, ◌++◌, map}
use Rattle.std.specs.Map.Iter.{deref_pair}
use Rattle.linear_combinations.specs.Gains.{Gains}
use Rattle.linear_combinations.proofs.Gains.{KeepsFirst}
use Rattle.linear_combinations.proofs.whole.Lin+L+Int.add_terms.Given as goal

-- the table is the one at the start plus the terms visited so far (`Gains`)
abbrev pub invariant-loop-label : goal.invariant-loop-label
invariant-loop-label g l = record {
  gains : Gains l.fn.self ((map deref_pair l.yielded)) l.self;
  so_far : map deref_pair l.yielded ++ l.label-iterator ≡ l.initial.label-iterator;
  first : KeepsFirst g.L.PartialEq.eq l.fn.self (map deref_pair l.yielded) l.self;
}
