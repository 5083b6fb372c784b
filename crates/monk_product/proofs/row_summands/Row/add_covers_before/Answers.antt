use Rattle.std.proofs.Common.{◌+◌, ◌-◌, arith}
use Rattle.sym_model.specs.Permutation.{times_swap}
use Rattle.monk_product.proofs.RowSums.{cover_before_short, except_none, one_more_except}
use Rattle.monk_product.proofs.row_summands.Row.add_covers_before.Goals as goal

pub loop-other-init : goal.loop-other-init
loop-other-init c =
    except_none c.args.self.now.letters (c.args.self.now.letter - 1) c.args.sum.now c.requires.was

pub add_cover-requires-clause-short : goal.add_cover-requires-clause-short
add_cover-requires-clause-short c v m =
    cover_before_short c.args.self.now.letters c.args.place c.loop-other.other c.args.w.now v _
    c.requires.short c.requires.place c.loop-other-test.true c.cover.ensures m

pub add_cover-requires-clause-was : goal.add_cover-requires-clause-was
add_cover-requires-clause-was c = c.loop-other.invariant.short

pub loop-other-preserved : goal.loop-other-preserved
loop-other-preserved c =
    let w = c.args.w.now in
    let p = c.args.place + 1 in
    one_more_except c.args.self.now.letters (c.args.self.now.letter - 1) c.args.c w
    (λ i. times_swap i p w) 0 c.loop-other.other (c.loop-other.other + 1) (c.loop-other.other + 1)
    _ c.args.sum.now c.loop-other.sum c.add_cover.new.sum (omega arith) (omega arith)
    c.cover.ensures c.loop-other.invariant c.in_ok-add_cover.ensures
