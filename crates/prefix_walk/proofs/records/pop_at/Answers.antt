use Rattle.std.proofs.Common.{◌≡◌, [], subst}
use Rattle.std.specs.Prelude.{MatchOption}
use Rattle.prefix_walk.specs.Levels.{IsLast}
use Rattle.prefix_walk.proofs.RecordLists.{below_last, not_last}
use Rattle.prefix_walk.proofs.records.pop_at.Goals as goal

pub returns-then-ne-clause-below : goal.returns-then-ne-clause-below
returns-then-ne-clause-below g c = λ none rise all.
    below_last c.args.entry c.args.records.now.items c.last_entry.result
    (subst (λ l. MatchOption c.last_entry.result (l ≡ []) (λ a. IsLast a l)) c.deref.ensures.value c.last_entry.ensures)
    (not_last c.last_entry.result c.args.entry c.ne.result c.ne.ensures c.if-ne.true) rise all
