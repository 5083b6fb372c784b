use Rattle.std.proofs.Common.{◌≡◌, ℕ, ◌+◌, List, ◌∷◌, length}
use Rattle.std.specs.List.{All}
use Rattle.prefix_walk.specs.Levels.{at_most_cap, weighed_at, IsStep, IsTaken}
use Rattle.prefix_walk.proofs.steps.take_steps.Given as goal

abbrev pub invariant-loop-record : goal.invariant-loop-record
invariant-loop-record g l = record {
  taken : IsTaken l.entry l.initial.records.items l.records.items;
  steps : All (λ r. IsStep (g.P.Prefixes.is_state l.rule l.after) (g.P.Prefixes.end l.rule) r.0) l.next.items;
  adds : (a : ℕ) (label : List ℕ) → length label ≡ l.after
      → at_most_cap (weighed_at a (λ s. g.P.Prefixes.ways l.rule l.after s label) l.next.items
      + weighed_at l.entry (λ s. g.P.Prefixes.ways l.rule (l.after + 1) s (a ∷ label)) l.records.items)
      ≡ at_most_cap (weighed_at l.entry (λ s. g.P.Prefixes.ways l.rule (l.after + 1) s (a ∷ label)) l.initial.records.items);
}

abbrev pub decreases-loop-record : goal.decreases-loop-record
decreases-loop-record g l = length l.records.items
