use Rattle.std.proofs.lemmas.Bool.{false≢true}
use Rattle.sparse_polys.proofs.StatesLeft.{none_left-next}
use Rattle.sparse_polys.proofs.states.place_of.Goals as goal

pub loop-i-preserved : goal.loop-i-preserved
loop-i-preserved c =
    none_left-next c.args.states.now c.loop-i.i c.index-states-i.result (
      c.args.left.now,
      c.args.right.now,
    ) c.loop-i-test.true c.index-states-i.is
    (λ e. false≢true (c.if-is_left.ensures.1 e))
    c.loop-i.invariant
