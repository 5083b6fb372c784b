use Rattle.std.proofs.Common.{◌≡◌, ◌+◌, ◌^◌, ◌≤◌, length}
use Rattle.prefix_walk.specs.Levels.{at_most_cap, weighed_at, IsTaken}
use Rattle.prefix_walk.proofs.steps.take_total.Given as goal

abbrev pub invariant-loop-count : goal.invariant-loop-count
invariant-loop-count g l = record {
  taken : IsTaken l.entry l.initial.records.items l.records.items;
  within : l.total ≤ 2 ^ 127;
  total : at_most_cap (l.total + weighed_at l.entry (λ s. 1) l.records.items) ≡ at_most_cap (weighed_at l.entry (λ s. 1) l.initial.records.items);
}

abbrev pub decreases-loop-count : goal.decreases-loop-count
decreases-loop-count g l = length l.records.items
