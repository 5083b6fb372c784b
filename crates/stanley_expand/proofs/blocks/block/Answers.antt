use Rattle.std.proofs.Common.{◌+◌, sym, subst, arith}
use Rattle.stanley_expand.specs.Grassmannian.{IsRising}
use Rattle.stanley_expand.specs.Blocks.{between}
use Rattle.stanley_expand.proofs.FixedFront.{rising_behind}
use Rattle.stanley_expand.proofs.BlockEnds.{one_line_between, length_between}
use Rattle.stanley_expand.proofs.Expansions.{past_from, answer_from}
use Rattle.stanley_expand.proofs.blocks.block.Goals as goal

pub by_transitions-requires-clause-rising : goal.by_transitions-requires-clause-rising
by_transitions-requires-clause-rising c =
    let w = c.args.perm.now in
    let n = c.args.from in
    let k = c.args.to in
    let o = c.in_ok-block_behind.ensures.limits.kept.one_line in
    let l = length_between w n k o c.requires.from c.requires.order c.requires.to in
    let i = c.requires.to.inside in
    let few = c.requires.letters in
    subst (IsRising c.args.rows (c.args.rows + 16)) (sym c.in_ok-block_behind.ensures.perm)
    (rising_behind c.args.rows 16 (between n k w) (one_line_between w n k o c.requires.from c.requires.order c.requires.to) (omega arith))

pub returns-clause-sum : goal.returns-clause-sum
returns-clause-sum c =
    answer_from c.args.rows (between c.args.from c.args.to c.args.perm.now) c.in_ok-block_behind.field-0
    (one_line_between c.args.perm.now c.args.from c.args.to c.in_ok-block_behind.ensures.limits.kept.one_line c.requires.from c.requires.order c.requires.to)
    c.in_ok-block_behind.ensures.perm c.by_transitions.result c.by_transitions.ensures.value c.by_transitions.ensures.shapes

pub returns-clause-large : goal.returns-clause-large
returns-clause-large c err =
    past_from c.args.rows (between c.args.from c.args.to c.args.perm.now) c.in_ok-block_behind.field-0
    (one_line_between c.args.perm.now c.args.from c.args.to c.in_ok-block_behind.ensures.limits.kept.one_line c.requires.from c.requires.order c.requires.to)
    c.in_ok-block_behind.ensures.perm (c.by_transitions.ensures.large err)
