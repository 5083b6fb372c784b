use Rattle.std.proofs.Common.{refl}
use Rattle.prefix_walk.specs.Levels.{weighed_at}
use Rattle.prefix_walk.proofs.RecordLists.{taken_below, none_left, total_end}
use Rattle.prefix_walk.proofs.steps.take_total.Goals as goal

pub returns-clause-below : goal.returns-clause-below
returns-clause-below g c =
    taken_below c.args.entry c.args.records.now.items c.loop-count.records.items c.pop_at.new.records.items c.loop-count.invariant.taken (c.in_default.ensures.same refl)
    (c.in_default.ensures.below refl) c.requires.rise c.requires.greatest

pub returns-clause-total : goal.returns-clause-total
returns-clause-total g c =
    let below = taken_below c.args.entry c.args.records.now.items c.loop-count.records.items c.pop_at.new.records.items c.loop-count.invariant.taken (c.in_default.ensures.same refl)
    (c.in_default.ensures.below refl) c.requires.rise c.requires.greatest in
    total_end c.loop-count.total (weighed_at c.args.entry (λ s. 1) c.loop-count.records.items) (weighed_at c.args.entry (λ s. 1) c.args.records.now.items) c.loop-count.invariant.within
    (none_left c.args.entry (λ s. 1) c.loop-count.records.items c.pop_at.new.records.items (c.in_default.ensures.same refl) below) c.loop-count.invariant.total
