use Rattle.std.proofs.Common.{ℕ, List, arith}
use Rattle.std.specs.Prelude.{IfOk}
use Rattle.sym_model.specs.PastLimit.{HasPast, IsCoefficientOfStanley}
use Rattle.sym_model.specs.Stanley.{stanley_in}
use Rattle.stanley_expand.specs.Blocks.{IsSumFor}
use Rattle.stanley_expand.proofs.BlockEnds.{end_first, end_last, between_all}
use Rattle.stanley_expand.proofs.blocks.as_one_block.Goals as goal

pub block-requires-clause-from : goal.block-requires-clause-from
block-requires-clause-from c = end_first c.args.perm.now

pub block-requires-clause-order : goal.block-requires-clause-order
block-requires-clause-order c = let some = c.len-len.ensures.limits.kept.some in let value = c.len-len.ensures.value in omega arith

pub block-requires-clause-to : goal.block-requires-clause-to
block-requires-clause-to c = end_last c.args.perm.now c.len-len.result c.len-len.ensures.limits.kept.one_line c.len-len.ensures.value

pub returns-clause-sum : goal.returns-clause-sum
returns-clause-sum c =
    between_all (λ (w : List ℕ). IfOk c.block.result (IsSumFor c.args.rows (stanley_in w c.args.rows))) c.args.perm.now c.len-len.result c.len-len.ensures.value
    c.block.ensures.sum

pub returns-clause-large : goal.returns-clause-large
returns-clause-large c err =
    between_all (λ (w : List ℕ). HasPast (IsCoefficientOfStanley c.args.rows w)) c.args.perm.now c.len-len.result c.len-len.ensures.value (c.block.ensures.large err)
