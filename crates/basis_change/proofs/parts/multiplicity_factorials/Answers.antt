use Rattle.std.proofs.Common.{◌*◌, ◌∙◌, drop, get_or, suc, ap, ◌<◌, ◌^◌, rules}
use Rattle.basis_change_laws.specs.AugmentedMonomial.{multiplicity_factorials}
use Rattle.sym_model.specs.Schur.{times_in}
use Rattle.family_lists.proofs.MultiplicityPlaces.{multiplicity-fits, multiplicity-next}
use Rattle.basis_change.proofs.parts.multiplicity_factorials.Goals as goal
use Rattle.std.proofs.lemmas.List.{take_rest}

pub overflow_mul-product : goal.overflow_mul-product
overflow_mul-product c =
    let parts = c.args.parts.now in
    let at = c.loop-at.at in
    let e = multiplicity-next c.loop-at.product c.from-product.result
    (multiplicity_factorials parts) parts at c.loop-at-test.true c.loop-at.invariant
    (c.from-product.ensures ∙ c.times_in.ensures ∙ ap (times_in (get_or parts at 0))
    (take_rest parts at)) in
    let h : c.loop-at.product * c.from-product.result < 2 ^ 128 = multiplicity-fits
    (c.loop-at.product * c.from-product.result) (multiplicity_factorials parts)
    (drop (suc at) parts) e c.requires.fits in
    search (rules, h)

pub loop-at-preserved : goal.loop-at-preserved
loop-at-preserved c = search (rules, multiplicity-next, take_rest)
