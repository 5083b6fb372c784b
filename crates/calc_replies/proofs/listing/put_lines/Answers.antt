use Rattle.calc_base.proofs.PutsListed.{PutsUpTo-start, PutsUpTo-more, PutsUpTo-all}
use Rattle.calc_base.proofs.PutsListed.{PutsUpTo-stopped}
use Rattle.calc_replies.proofs.Delivered.{Puts-from_prints}
use Rattle.calc_replies.proofs.Listings.{line}
use Rattle.calc_replies.proofs.listing.put_lines.Goals as goal

pub loop-well-init : goal.loop-well-init
loop-well-init g c = PutsUpTo-start _ _ (line c.args.order.now.0 c.args.order.now.1) _

pub loop-well-preserved : goal.loop-well-preserved
loop-well-preserved g c =
    PutsUpTo-more (line c.args.order.now.0 c.args.order.now.1) _ _ _ _ _ c.loop-well.invariant
    c.advance.ensures.next c.current.ensures
    (rw c.loop-well-test.true (Puts-from_prints c.print_in_order.result c.print_in_order.ensures
    c.is_ok-well.ensures.value))

pub returns-else-advance : goal.returns-else-advance
returns-else-advance g c =
    PutsUpTo-all (line c.args.order.now.0 c.args.order.now.1) _ _ c.loop-well.invariant
    (rw c.if-advance.false at c.advance.ensures.ended)

pub returns-after-loop-well : goal.returns-after-loop-well
returns-after-loop-well g c =
    PutsUpTo-stopped (line c.args.order.now.0 c.args.order.now.1) _ _ c.loop-well.invariant
    c.loop-well-test.false
