use Rattle.std.proofs.Common.{◌≤◌, arith, get_or}
use Rattle.batch_lines.proofs.Blocks.{feeds_more, one_feed}
use Rattle.batch_lines.proofs.sums.feeds.Goals as goal

pub loop-at-preserved : goal.loop-at-preserved
loop-at-preserved c =
    let h = c.loop-at.invariant in
    let m = one_feed (get_or c.args.bytes.now c.loop-at.at 0) c.feed-count.result
    c.feed-count.ensures in
    let k : c.loop-at.count ≤ c.loop-at.at = h.1 in (
      feeds_more c.args.bytes.now c.loop-at.at c.loop-at.count c.feed-count.result
          c.loop-at-test.true h.0 c.feed-count.ensures,
      omega (arith, m, k),
    )
