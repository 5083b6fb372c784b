use Rattle.std.proofs.Common.{arith}
use Rattle.partitions.proofs.BetaSteps.{less-more}
use Rattle.rim_hooks.proofs.lifted_labels.partition_of.Goals as goal

pub loop-entry-preserved : goal.loop-entry-preserved
loop-entry-preserved c = record {
  numbers =
      less-more c.args.entries.now c.loop-entry.parts.items c.push.new.self.items
      c.loop-entry.entry-index c.loop-entry.later
      c.saturating_sub.result (omega arith) c.loop-entry.invariant.numbers
      c.loop-entry.invariant.left c.saturating_sub.ensures
      c.in_ok-push.ensures.ok;
  left = omega (arith, c.loop-entry.invariant.left);
}
