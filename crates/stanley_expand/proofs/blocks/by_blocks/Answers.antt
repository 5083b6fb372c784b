use Rattle.std.proofs.Common.{ℕ, List, subst, arith}
use Rattle.std.proofs.lemmas.List.{take_all}
use Rattle.sym_model.specs.Stanley.{stanley_in}
use Rattle.stanley_expand.specs.Blocks.{IsSumFor}
use Rattle.stanley_expand.proofs.BlockEnds.{end_first, between_first}
use Rattle.stanley_expand.proofs.blocks.by_blocks.Goals as goal

pub block-requires-clause-from : goal.block-requires-clause-from
block-requires-clause-from c = end_first c.args.perm.now

pub block-requires-clause-order : goal.block-requires-clause-order
block-requires-clause-order c = c.next_end-from.ensures.later c.next_end-from.ensures.limits.kept.some

pub loop-from-init : goal.loop-from-init
loop-from-init c = record {
  end = c.next_end-from.ensures.end;
  sum = subst (λ (w : List ℕ). IsSumFor c.args.rows (stanley_in w c.args.rows) c.in_ok-sum.sum) (between_first c.next_end-from.result c.args.perm.now) c.in_ok-sum.ensures.sum;
}

pub loop-from-preserved : goal.loop-from-preserved
loop-from-preserved c = record { end = c.next_end-to.ensures.end; sum = c.in_ok-longer.ensures }

pub returns : goal.returns
returns c =
    let h = c.loop-from-test.false in
    let l = c.len-len.ensures.value in
    subst (λ (w : List ℕ). IsSumFor c.args.rows (stanley_in w c.args.rows) c.loop-from.sum)
    (take_all c.loop-from.from c.args.perm.now (omega arith)) c.loop-from.invariant.sum
