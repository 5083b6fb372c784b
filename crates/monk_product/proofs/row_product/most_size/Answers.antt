use Rattle.std.proofs.Common.{arith}
use Rattle.schubert_laws.proofs.Members.{place_within}
use Rattle.monk_product.proofs.row_product.most_size.Goals as goal

pub times_swap-requires-clause-order : goal.times_swap-requires-clause-order
times_swap-requires-clause-order c =
    (place_within c.in-Some.last c.in-Some-transition_places.r c.in-Some-transition_places.s c.transition_places.ensures.short.one_line c.in-Some-transition_places.ensures.places).2

pub times_swap-requires-clause-second : goal.times_swap-requires-clause-second
times_swap-requires-clause-second c =
    let p = place_within c.in-Some.last c.in-Some-transition_places.r c.in-Some-transition_places.s c.transition_places.ensures.short.one_line c.in-Some-transition_places.ensures.places in
    let q = p.3 in
    let f = c.transition_places.ensures.short.few in
    omega arith

pub covers_down-requires-clause-last : goal.covers_down-requires-clause-last
covers_down-requires-clause-last c =
    let p = place_within c.in-Some.last c.in-Some-transition_places.r c.in-Some-transition_places.s c.transition_places.ensures.short.one_line c.in-Some-transition_places.ensures.places in
    let o = p.2 in
    let q = p.3 in
    let f = c.transition_places.ensures.short.few in
    omega arith
