use Rattle.std.proofs.Common.{rules}
use Rattle.rim_hooks.proofs.AlcoveFacts.{raised_start, raised_step, raised_end}
use Rattle.rim_hooks.proofs.reflections.raised_entries.Goals as goal

pub loop-at-init : goal.loop-at-init
loop-at-init c = search (rules, raised_start)

pub loop-at-preserved : goal.loop-at-preserved
loop-at-preserved c =
    raised_step c.args.n c.args.start c.args.entries.now c.loop-at.sorted c.put.new.self
    c.loop-at.at c.raised.result c.loop-at-test.true c.loop-at.auto.at c.raised.ensures
    c.in_ok-put.ensures
    c.loop-at.invariant

pub returns : goal.returns
returns c = search (rules, raised_end)
