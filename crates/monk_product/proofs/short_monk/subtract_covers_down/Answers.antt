use Rattle.std.proofs.Common.{◌+◌, ◌-◌, ap, ◌∙◌, arith}
use Rattle.std.specs.Prelude.{Err, nat_eq, neg_ℤ}
use Rattle.std.specs.Cmp.Lexicographic.{pointwise}
use Rattle.sym_model.specs.Permutation.{times_swap}
use Rattle.linear_combinations.proofs.Steps.{error_is}
use Rattle.monk_product.proofs.ShortCovers.{items, one_more, too_many}
use Rattle.monk_product.proofs.short_monk.subtract_covers_down.Goals as goal

pub loop-other-preserved : goal.loop-other-preserved
loop-other-preserved c =
    let w = c.args.w.now in
    let p = c.args.place + 1 in
    one_more (neg_ℤ c.args.c) w (λ i. times_swap i p w) 0 c.loop-other.other
    (c.loop-other.other + 1) (c.loop-other.other + 1) c.as_slice.result.now c.args.sum.now
    c.loop-other.sum c.subtract_each.new.self (omega arith) (omega arith)
    (items c.cover-cover.result c.as_slice.result.now c.as_slice.ensures ∙ c.cover-cover.ensures)
    c.loop-other.invariant c.in_ok-subtract_each.ensures.gains

pub returns-in_err-subtract_each-clause-large : goal.returns-in_err-subtract_each-clause-large
returns-in_err-subtract_each-clause-large c err =
    let w = c.args.w.now in
    let p = c.args.place + 1 in
    let test = c.loop-other-test.true in
    too_many (pointwise nat_eq) (neg_ℤ c.args.c) w (λ i. times_swap i p w) 0 c.loop-other.other
    (c.loop-other.other + 1) (p - 1) c.as_slice.result.now c.args.sum.now
    c.loop-other.sum (omega arith) (omega arith)
    (items c.cover-cover.result c.as_slice.result.now c.as_slice.ensures ∙ c.cover-cover.ensures)
    c.loop-other.invariant
    (c.in_err-subtract_each.ensures.large (ap Err (error_is _ _ _ c.from_residual.ensures.1 err)))
