use Rattle.std.proofs.Common.{◌≡◌}
use Rattle.prefix_walk.specs.Levels.{rest_at, terms_of, top_of, work_left, AreRecords, AreSound}
use Rattle.prefix_walk.proofs.steps.advance.Given as goal

abbrev pub invariant-loop-records : goal.invariant-loop-records
invariant-loop-records g l = record {
  sound : AreSound (λ n x. AreRecords (g.P.Prefixes.is_state l.rule n) (g.P.Prefixes.end l.rule) x.items) l.len l.levels.items;
  same : rest_at (λ n x. terms_of (g.P.Prefixes.ways l.rule) (g.P.Prefixes.end l.rule) n x.items) l.len l.initial.levels.items
      ≡ rest_at (λ n x. terms_of (g.P.Prefixes.ways l.rule) (g.P.Prefixes.end l.rule) n x.items) l.len l.levels.items;
}

abbrev pub decreases-loop-records : goal.decreases-loop-records
decreases-loop-records g l = work_left (λ x. top_of x.items) (g.P.Prefixes.end l.rule) l.len l.levels.items
