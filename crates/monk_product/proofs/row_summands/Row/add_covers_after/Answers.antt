use Rattle.std.proofs.Common.{◌≡◌, ◌+◌, ◌-◌, arith, subst}
use Rattle.sym_model.specs.Permutation.{times_swap}
use Rattle.linear_combinations.specs.Gains.{each_with}
use Rattle.monk_product.specs.RowProducts.{GainsExcept}
use Rattle.monk_product.proofs.ShortCovers.{found}
use Rattle.monk_product.proofs.RowSums.{cover_after_short, except_none, one_more_except}
use Rattle.monk_product.proofs.row_summands.Row.add_covers_after.Goals as goal

pub loop-other-init : goal.loop-other-init
loop-other-init c =
    let w = c.args.w.now in
    let p = c.args.place + 1 in
    let none : 0 ≡ c.args.place + 1 - (c.args.place + 1) = omega arith in
    subst (λ k. GainsExcept c.args.self.now.letters (c.args.self.now.letter - 1) c.args.sum.now
    (each_with c.args.c (found w (λ b. times_swap p b w) p k)) c.args.sum.now) none
    (except_none c.args.self.now.letters (c.args.self.now.letter - 1) c.args.sum.now
    c.requires.was)

pub add_cover-requires-clause-short : goal.add_cover-requires-clause-short
add_cover-requires-clause-short c v m =
    let test = c.loop-other-test.true in
    cover_after_short c.args.self.now.letters c.args.place c.loop-other.other c.args.w.now v _
    c.requires.short (let order = c.loop-other.auto.other in omega arith) (omega arith)
    c.cover.ensures m

pub add_cover-requires-clause-was : goal.add_cover-requires-clause-was
add_cover-requires-clause-was c = c.loop-other.invariant.short

pub loop-other-preserved : goal.loop-other-preserved
loop-other-preserved c =
    let w = c.args.w.now in
    let p = c.args.place + 1 in
    let order = c.loop-other.auto.other in
    one_more_except c.args.self.now.letters (c.args.self.now.letter - 1) c.args.c w
    (λ b. times_swap p b w) p (c.loop-other.other - p) (c.loop-other.other + 1 - p)
    (c.loop-other.other + 1)
    _ c.args.sum.now c.loop-other.sum c.add_cover.new.sum (omega arith) (omega arith)
    c.cover.ensures c.loop-other.invariant c.in_ok-add_cover.ensures
