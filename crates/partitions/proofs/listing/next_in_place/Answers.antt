use Rattle.std.proofs.Common.{take, drop, refl, subst, arith}
use Rattle.partitions.specs.Listing.{AreOnes}
use Rattle.partitions.proofs.Listings.{partitions_after-ones}
use Rattle.partitions.proofs.Steps.{cuts, next_is, next_holds}
use Rattle.partitions.proofs.listing.next_in_place.Goals as goal

pub returns-then-above-eq0-clause-next : goal.returns-then-above-eq0-clause-next
returns-then-above-eq0-clause-next c =
    let xs = take c.args.rows c.args.buffer.now in
    let ones : AreOnes xs = subst (λ n. AreOnes (drop n xs)) c.if-above-eq0.true
    c.rows_above_one-above.ensures.ones in
    (partitions_after-ones xs ones, refl)

pub overflow_sub-part-2 : goal.overflow_sub-part-2
overflow_sub-part-2 c =
    let cut = cuts c.args.buffer.now c.args.rows c.rows_above_one-above.result c.requires
    c.if-above-eq0.false c.rows_above_one-above.ensures.within
    c.rows_above_one-above.ensures.ones c.rows_above_one-above.ensures.above in
    omega (arith, cut.part)

pub overflow_add-part : goal.overflow_add-part
overflow_add-part c =
    let cut = cuts c.args.buffer.now c.args.rows c.rows_above_one-above.result c.requires
    c.if-above-eq0.false c.rows_above_one-above.ensures.within
    c.rows_above_one-above.ensures.ones c.rows_above_one-above.ensures.above in
    omega (arith, cut.room, c.requires.few)

pub fill-requires-clause-room : goal.fill-requires-clause-room
fill-requires-clause-room c =
    let cut = cuts c.args.buffer.now c.args.rows c.rows_above_one-above.result c.requires
    c.if-above-eq0.false c.rows_above_one-above.ensures.within
    c.rows_above_one-above.ensures.ones c.rows_above_one-above.ensures.above in
    cut.room

pub fill-requires-clause-most : goal.fill-requires-clause-most
fill-requires-clause-most c =
    let cut = cuts c.args.buffer.now c.args.rows c.rows_above_one-above.result c.requires
    c.if-above-eq0.false c.rows_above_one-above.ensures.within
    c.rows_above_one-above.ensures.ones c.rows_above_one-above.ensures.above in
    λ _. omega (arith, cut.part)

pub returns-clause-next : goal.returns-clause-next
returns-clause-next c =
    let cut = cuts c.args.buffer.now c.args.rows c.rows_above_one-above.result c.requires
    c.if-above-eq0.false c.rows_above_one-above.ensures.within
    c.rows_above_one-above.ensures.ones c.rows_above_one-above.ensures.above in
    next_is c.args.buffer.now c.args.rows c.rows_above_one-above.result _ cut c.fill.ensures.parts

pub returns-clause-holds : goal.returns-clause-holds
returns-clause-holds c =
    let cut = cuts c.args.buffer.now c.args.rows c.rows_above_one-above.result c.requires
    c.if-above-eq0.false c.rows_above_one-above.ensures.within
    c.rows_above_one-above.ensures.ones c.rows_above_one-above.ensures.above in
    next_holds c.args.buffer.now c.fill.new.buffer c.args.rows c.rows_above_one-above.result
    c.fill.result c.requires cut
    (omega arith) c.fill.ensures.within c.fill.ensures.parts
