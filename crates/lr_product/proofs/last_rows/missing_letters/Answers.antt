use Rattle.std.proofs.Common.{arith}
use Rattle.lr_product.proofs.Pruned.{not_within}
use Rattle.lr_product.proofs.last_rows.missing_letters.Goals as goal

pub returns-then-content-at-clause-outside : goal.returns-then-content-at-clause-outside
returns-then-content-at-clause-outside c = λ e.
    not_within c.loop-at.at c.args.numbers.now c.args.content.now
    (omega (arith, c.loop-at-test.true, c.loop-at.invariant.end)) c.if-content-at.true
