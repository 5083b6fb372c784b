use Rattle.std.proofs.Common.{◌≡◌, ℕ, ◌+◌, ◌*◌, take}
use Rattle.std.specs.List.{All}
use Rattle.prefix_walk.specs.Steps.{sum_at}
use Rattle.prefix_walk.specs.Levels.{at_most_cap, weighed_at, IsStep}
use Rattle.prefix_walk.proofs.records.add_all.Given as goal

abbrev pub invariant-loop-step : goal.invariant-loop-step
invariant-loop-step g l = record {
  steps : (n : ℕ) → All (IsStep (g.P.Prefixes.is_state l.rule n) (g.P.Prefixes.end l.rule)) l.steps
      → All (λ r. IsStep (g.P.Prefixes.is_state l.rule n) (g.P.Prefixes.end l.rule) r.0) l.initial.records.items
      → All (λ r. IsStep (g.P.Prefixes.is_state l.rule n) (g.P.Prefixes.end l.rule) r.0) l.records.items;
  adds : (a : ℕ) (f : g.row.S.Denot → ℕ) → at_most_cap (weighed_at a f l.records.items)
      ≡ at_most_cap (weighed_at a f l.initial.records.items + l.count * sum_at a f (take l.step-index l.steps));
}
