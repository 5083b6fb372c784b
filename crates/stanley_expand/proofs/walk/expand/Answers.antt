use Rattle.std.proofs.Common.{◌<◌, arith, subst, ap, ◌*ℤ◌, ◌∙◌, ◌+◌}
use Rattle.sym_model.specs.Permutation.{covers_down}
use Rattle.sym_model.specs.Polynomial.{pair}
use Rattle.sym_model.specs.Schubert.{schubert_in}
use Rattle.sym_model.specs.Sum.{total, Among}
use Rattle.schubert_laws.proofs.Members.{place_within}
use Rattle.stanley_expand.specs.Walk.{number}
use Rattle.stanley_expand.proofs.Tables.{as_step, overflows_as}
use Rattle.stanley_expand.proofs.Steps.{put_pair, covers_number}
use Rattle.stanley_expand.proofs.walk.expand.Goals as goal
use Rattle.std.proofs.lemmas.Result.{on_ok_weaker}

pub times_swap-requires-clause-first : goal.times_swap-requires-clause-first
times_swap-requires-clause-first c =
    (place_within c.args.perm.now c.args.r c.args.s c.requires.waiting.rising.short.one_line
    c.requires.places).0

pub times_swap-requires-clause-order : goal.times_swap-requires-clause-order
times_swap-requires-clause-order c =
    (place_within c.args.perm.now c.args.r c.args.s c.requires.waiting.rising.short.one_line
    c.requires.places).2

pub times_swap-requires-clause-second : goal.times_swap-requires-clause-second
times_swap-requires-clause-second c =
    let p = (place_within c.args.perm.now c.args.r c.args.s c.requires.waiting.rising.short.one_line
    c.requires.places).3 in
    let few = c.requires.waiting.rising.short.few in
    let m = c.requires.few in
    omega arith

pub covers_down-requires-clause-place : goal.covers_down-requires-clause-place
covers_down-requires-clause-place c =
    (place_within c.args.perm.now c.args.r c.args.s c.requires.waiting.rising.short.one_line
    c.requires.places).0

pub covers_down-requires-clause-last : goal.covers_down-requires-clause-last
covers_down-requires-clause-last c =
    let p = (place_within c.args.perm.now c.args.r c.args.s c.requires.waiting.rising.short.one_line
    c.requires.places).1 in
    let few = c.requires.waiting.rising.short.few in
    let m = c.requires.few in
    omega arith

pub put_each-requires-clause-waiting : goal.put_each-requires-clause-waiting
put_each-requires-clause-waiting c p mem =
    let k = covers_number c.args.rows c.args.r c.args.s c.args.perm.now p c.requires.few
    c.requires.waiting.rising c.requires.places c.requires.after
    (subst (Among p) (c.in_ok-covers_down.ensures ∙ ap (covers_down c.args.r) c.in_ok-lower.ensures) mem) in
    (k.0, subst (λ n. number c.args.rows p < n) c.requires.waiting.here k.1)

pub returns-clause-step : goal.returns-clause-step
returns-clause-step c = on_ok_weaker c.put_each.result (λ step sum. as_step c.args.rows sum c.args.todo.now.items
    (λ φ. c.args.count *ℤ total (λ p. pair (schubert_in p c.args.rows) φ)
    c.in_ok-covers_down.field-0.items)
    (λ φ. c.args.count *ℤ pair (schubert_in c.args.perm.now c.args.rows) φ)
    sum c.put_each.new.todo.items (λ φ. put_pair c.args.rows (c.args.rows + 16) c.args.r c.args.s c.args.perm.now
    c.args.count φ c.in_ok-covers_down.field-0.items
    (c.in_ok-covers_down.ensures ∙ ap (covers_down c.args.r) c.in_ok-lower.ensures)
    c.requires.waiting.rising c.requires.places c.requires.after) (step sum)) c.put_each.ensures.step

pub returns-clause-large : goal.returns-clause-large
returns-clause-large c err sum =
    overflows_as c.args.rows sum c.args.todo.now.items
    (λ φ. c.args.count *ℤ total (λ p. pair (schubert_in p c.args.rows) φ)
    c.in_ok-covers_down.field-0.items)
    (λ φ. c.args.count *ℤ pair (schubert_in c.args.perm.now c.args.rows) φ) (λ φ. put_pair c.args.rows (c.args.rows + 16) c.args.r c.args.s c.args.perm.now
    c.args.count φ c.in_ok-covers_down.field-0.items
    (c.in_ok-covers_down.ensures ∙ ap (covers_down c.args.r) c.in_ok-lower.ensures)
    c.requires.waiting.rising c.requires.places c.requires.after)
    (c.put_each.ensures.large err sum)
