use Rattle.batch_lines.proofs.Parts.{no_feed_more}
use Rattle.batch_lines.proofs.feed.first_feed.Goals as goal

pub loop-at-preserved : goal.loop-at-preserved
loop-at-preserved c = no_feed_more c.args.bytes.now c.loop-at.at c.loop-at-test.true
    c.loop-at.invariant c.if-byte-eq10.false
