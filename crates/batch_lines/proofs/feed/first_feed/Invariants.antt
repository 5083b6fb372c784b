use Rattle.std.proofs.Common.{take}
use Rattle.batch_lines.specs.Feeds.{HasNoFeed}
use Rattle.batch_lines.proofs.feed.first_feed.Given as goal

abbrev pub invariant-loop-at : goal.invariant-loop-at
invariant-loop-at l = HasNoFeed (take l.at l.bytes)
