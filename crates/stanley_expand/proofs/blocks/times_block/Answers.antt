use Rattle.sym_model.specs.Stanley.{stanley_in}
use Rattle.std.proofs.Common.{take}
use Rattle.sym_model.specs.Polynomial.{times}
use Rattle.linear_combinations.proofs.Steps.{if_answered}
use Rattle.stanley_expand.specs.Blocks.{between}
use Rattle.stanley_expand.proofs.BlockEnds.{stanley_between}
use Rattle.stanley_expand.proofs.SumsAdded.{sum_as}
use Rattle.stanley_expand.proofs.blocks.times_block.Goals as goal

pub product-requires-clause-left : goal.product-requires-clause-left
product-requires-clause-left c = c.requires.sum.labels.few

pub product-requires-clause-right : goal.product-requires-clause-right
product-requires-clause-right c = c.in_ok-next.ensures.sum.labels.few

pub returns : goal.returns
returns c =
    let w = c.args.perm.now in
    let n = c.args.from in
    let k = c.args.to in
    let m = c.args.rows in
    if_answered c.product.result c.product.ensures (λ sum e.
    sum_as m (stanley_in (take k w) m) (times (stanley_in (take n w) m) (stanley_in (between n k w) m)) sum
    (stanley_between w n k c.in_ok-next.ensures.limits.kept.one_line c.requires.from c.requires.order c.requires.to m)
    (e (stanley_in (take n w) m) (stanley_in (between n k w) m) c.requires.sum c.in_ok-next.ensures.sum))
