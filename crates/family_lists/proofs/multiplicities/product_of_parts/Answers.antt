use Rattle.std.proofs.Common.{◌≡◌, ◌+◌, ◌*◌, ◌<◌, ◌^◌, drop, suc, ap, ◌∙◌, subst, sym, arith, rules}
use Rattle.family_list_laws.specs.OnePartLists.{product_of_parts}
use Rattle.family_lists.proofs.CountedPlaces.{product-next, product-fits, product-all}
use Rattle.family_lists.proofs.multiplicities.product_of_parts.Goals as goal

pub overflow_mul-product : goal.overflow_mul-product
overflow_mul-product c =
    let h : c.loop-part.product * c.from-product.result < 2 ^ 128 =
    subst (λ x. c.loop-part.product * x < 2 ^ 128) (sym c.from-product.ensures)
    (product-fits c.loop-part.product c.args.parts.now c.loop-part.part-index
    c.requires.partition c.requires.low c.loop-part-test.true c.loop-part.invariant) in
    search (rules, h)

pub loop-part-preserved : goal.loop-part-preserved
loop-part-preserved c =
    let parts = c.args.parts.now in
    let i = c.loop-part.part-index in
    let e = product-next c.loop-part.product (product_of_parts parts) parts i
    c.loop-part-test.true c.loop-part.invariant in
    let s : i + 1 ≡ suc i = omega arith in
    ap (λ k. (c.loop-part.product * c.from-product.result) * product_of_parts (drop k parts)) s
    ∙ ap (λ x. (c.loop-part.product * x) * product_of_parts (drop (suc i) parts))
    c.from-product.ensures
    ∙ e

pub returns : goal.returns
returns c =
    product-all c.loop-part.product c.args.parts.now c.loop-part.part-index
    c.loop-part-test.false c.loop-part.invariant
