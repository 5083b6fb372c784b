use Rattle.std.proofs.Common.{arith}
use Rattle.schubert_laws.proofs.Members.{place_within}
use Rattle.double_schubert.proofs.linear_factors.only_lower.Goals as goal

pub times_swap-requires-clause-first : goal.times_swap-requires-clause-first
times_swap-requires-clause-first c =
    (place_within c.args.w.now c.args.r c.args.s c.requires.short.one_line c.requires.places).0

pub times_swap-requires-clause-order : goal.times_swap-requires-clause-order
times_swap-requires-clause-order c =
    (place_within c.args.w.now c.args.r c.args.s c.requires.short.one_line c.requires.places).2

pub times_swap-requires-clause-second : goal.times_swap-requires-clause-second
times_swap-requires-clause-second c =
    let p = place_within c.args.w.now c.args.r c.args.s c.requires.short.one_line c.requires.places in
    let q = p.3 in
    let f = c.requires.short.few in
    omega arith

pub covers_down-requires-clause-place : goal.covers_down-requires-clause-place
covers_down-requires-clause-place c =
    (place_within c.args.w.now c.args.r c.args.s c.requires.short.one_line c.requires.places).0

pub covers_down-requires-clause-last : goal.covers_down-requires-clause-last
covers_down-requires-clause-last c =
    let p = place_within c.args.w.now c.args.r c.args.s c.requires.short.one_line c.requires.places in
    let q = p.1 in
    let f = c.requires.short.few in
    omega arith
