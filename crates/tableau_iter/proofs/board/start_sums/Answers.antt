use Rattle.std.proofs.Common.{[], arith}
use Rattle.tableau_iter.proofs.Sums.{sums-join}
use Rattle.tableau_iter.proofs.board.start_sums.Goals as goal

pub returns : goal.returns
returns c =
    sums-join c.loop-at.sums.items c.args.start.now [] c.args.letters
    (omega (arith, c.loop-at.invariant.places)) c.requires
    (λ i h. omega (arith, c.loop-at.invariant.are i (omega arith)))
