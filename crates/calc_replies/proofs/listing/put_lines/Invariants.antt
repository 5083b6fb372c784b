use Rattle.std.proofs.Common.{length}
use Rattle.calc_base.proofs.PutsListed.{PutsUpTo}
use Rattle.calc_replies.proofs.Listings.{line}
use Rattle.calc_replies.proofs.listing.put_lines.Given as goal

abbrev pub invariant-loop-well : goal.invariant-loop-well
invariant-loop-well g l =
    PutsUpTo l.fn.well (g.K.Sink.seen l.fn.sink) l.well (g.K.Sink.seen l.sink)
    (line l.fn.order.0 l.fn.order.1) l.fn.lattice.rest l.lattice.rest

abbrev pub decreases-loop-well : goal.decreases-loop-well
decreases-loop-well g l = length l.lattice.rest
