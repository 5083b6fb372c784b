use Rattle.std.proofs.Common.{ℕ, ◌+◌, ◌*◌, ◌∷◌, refl}
use Rattle.prefix_walk.specs.Levels.{at_most_cap, weighed_at}
use Rattle.prefix_walk.proofs.RecordLists.{taken_more, total_more, weighed_last, taken_below, none_left, sum_end}
use Rattle.prefix_walk.proofs.steps.take_steps.Goals as goal

pub loop-record-preserved : goal.loop-record-preserved
loop-record-preserved g c =
    let ways = g.P.Prefixes.ways c.args.rule.now in
    let n = c.args.after + 1 in
    record {
      taken = taken_more c.args.entry c.args.records.now.items c.loop-record.records.items c.pop_at.new.records.items _ c.loop-record.invariant.taken c.in-Some.ensures.items c.in-Some.ensures.some;
      steps = c.in_ok-add_steps.ensures.steps c.loop-record.invariant.steps;
      adds = λ a label e.
          let mid = weighed_at a (λ s. ways c.args.after s label) c.loop-record.next.items in
          total_more (weighed_at a (λ s. ways c.args.after s label) c.add_steps.new.next.items) mid
          (c.in-Some.record.1 * ways n c.in-Some.record.0.1 (a ∷ label)) (weighed_at c.args.entry (λ s. ways n s (a ∷ label)) c.loop-record.records.items)
          (weighed_at c.args.entry (λ s. ways n s (a ∷ label)) c.pop_at.new.records.items) (at_most_cap (weighed_at c.args.entry (λ s. ways n s (a ∷ label)) c.args.records.now.items))
          (c.in_ok-add_steps.ensures.adds a label e)
          (weighed_last c.args.entry (λ s. ways n s (a ∷ label)) c.loop-record.records.items c.pop_at.new.records.items c.in-Some.record c.in-Some.ensures.items c.in-Some.ensures.some)
          (c.loop-record.invariant.adds a label e);
    }

pub returns-clause-below : goal.returns-clause-below
returns-clause-below g c =
    taken_below c.args.entry c.args.records.now.items c.loop-record.records.items c.pop_at.new.records.items c.loop-record.invariant.taken (c.in_default.ensures.same refl)
    (c.in_default.ensures.below refl) c.requires.sound.rise c.requires.greatest

pub returns-clause-adds : goal.returns-clause-adds
returns-clause-adds g c = λ a label e.
    let below = taken_below c.args.entry c.args.records.now.items c.loop-record.records.items c.pop_at.new.records.items c.loop-record.invariant.taken (c.in_default.ensures.same refl)
    (c.in_default.ensures.below refl) c.requires.sound.rise c.requires.greatest in
    let f : g.row.S.Denot → ℕ = λ s. g.P.Prefixes.ways c.args.rule.now (c.args.after + 1) s (a ∷ label) in
    sum_end (weighed_at a (λ s. g.P.Prefixes.ways c.args.rule.now c.args.after s label) c.loop-record.next.items) (weighed_at c.args.entry f c.loop-record.records.items)
    (at_most_cap (weighed_at c.args.entry f c.args.records.now.items))
    (none_left c.args.entry f c.loop-record.records.items c.pop_at.new.records.items (c.in_default.ensures.same refl) below) (c.loop-record.invariant.adds a label e)
