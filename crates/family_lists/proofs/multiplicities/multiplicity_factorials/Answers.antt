use Rattle.std.proofs.Common.{◌-◌, ◌*◌, ◌<◌, ◌^◌, refl, arith, rules}
use Rattle.family_lists.proofs.CountedPlaces.{counted-end, counted-next, counted-fits, counted-few}
use Rattle.family_lists.proofs.CountedPlaces.{counted-all}
use Rattle.family_lists.proofs.multiplicities.multiplicity_factorials.Goals as goal

pub loop-at-init : goal.loop-at-init
loop-at-init c = counted-end c.args.parts.now _ refl

pub times_from-times-requires : goal.times_from-times-requires
times_from-times-requires c =
    counted-few c.args.parts.now c.loop-at.product c.loop-at.next c.loop-at.times c.loop-at.at
    c.requires.partition c.requires.low c.loop-at.invariant

pub overflow_mul-product : goal.overflow_mul-product
overflow_mul-product c =
    let h : c.loop-at.product * c.times_from-times.result < 2 ^ 128 = counted-fits c.args.parts.now
    c.loop-at.product c.loop-at.next c.loop-at.times
    (c.loop-at.at - 1) c.loop-at.at c.times_from-times.result c.requires.partition
    (let h = c.loop-at-test.true in omega arith)
    (let h = c.loop-at-test.true in let a = c.loop-at.auto.at in omega arith)
    c.loop-at.invariant c.times_from-times.ensures.same c.times_from-times.ensures.other
    c.requires.low in
    search (rules, h)

pub loop-at-preserved : goal.loop-at-preserved
loop-at-preserved c =
    counted-next c.args.parts.now c.loop-at.product c.loop-at.next c.loop-at.times
    (c.loop-at.at - 1) c.loop-at.at c.times_from-times.result c.requires.partition
    (let h = c.loop-at-test.true in omega arith)
    (let h = c.loop-at-test.true in let a = c.loop-at.auto.at in omega arith)
    c.loop-at.invariant c.times_from-times.ensures.same c.times_from-times.ensures.other

pub returns : goal.returns
returns c =
    counted-all c.args.parts.now c.loop-at.product c.loop-at.next c.loop-at.times c.loop-at.at
    (let h = c.loop-at-test.false in omega arith) c.loop-at.invariant
