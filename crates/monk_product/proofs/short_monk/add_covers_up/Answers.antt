use Rattle.std.proofs.Common.{◌+◌, ◌-◌, max, length, ap, ◌∙◌, arith}
use Rattle.std.specs.Prelude.{Err, nat_eq}
use Rattle.std.specs.Cmp.Lexicographic.{pointwise}
use Rattle.sym_model.specs.Permutation.{times_swap}
use Rattle.linear_combinations.proofs.Steps.{error_is}
use Rattle.monk_product.proofs.ShortCovers.{items, one_more, too_many}
use Rattle.monk_product.proofs.short_monk.add_covers_up.Goals as goal

pub loop-other-preserved : goal.loop-other-preserved
loop-other-preserved c =
    let w = c.args.w.now in
    let p = c.args.place + 1 in
    let order = c.loop-other.auto.other in
    one_more c.args.c w (λ j. times_swap p j w) p (c.loop-other.other - p)
    (c.loop-other.other + 1 - p) (c.loop-other.other + 1) c.as_slice.result.now c.args.sum.now
    c.loop-other.sum c.add_each.new.self (omega arith) (omega arith)
    (items c.cover-cover.result c.as_slice.result.now c.as_slice.ensures ∙ c.cover-cover.ensures)
    c.loop-other.invariant c.in_ok-add_each.ensures.gains

pub returns-in_err-add_each-clause-large : goal.returns-in_err-add_each-clause-large
returns-in_err-add_each-clause-large c err =
    let w = c.args.w.now in
    let p = c.args.place + 1 in
    let order = c.loop-other.auto.other in
    let test = c.loop-other-test.true in
    let last = c.max-other-end.ensures in
    let len = c.len.ensures in
    too_many (pointwise nat_eq) c.args.c w (λ j. times_swap p j w) p (c.loop-other.other - p)
    (c.loop-other.other + 1) (max (length w) p + 1 - p) c.as_slice.result.now c.args.sum.now
    c.loop-other.sum (omega arith) (omega arith)
    (items c.cover-cover.result c.as_slice.result.now c.as_slice.ensures ∙ c.cover-cover.ensures)
    c.loop-other.invariant
    (c.in_err-add_each.ensures.large (ap Err (error_is _ _ _ c.from_residual.ensures.1 err)))
