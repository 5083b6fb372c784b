use Rattle.std.proofs.Common.{[], ◌∷◌, sym, ap, subst, arith}
use Rattle.std.specs.Prelude.{Err}
use Rattle.schubert_laws.proofs.Members.{short_transition, place_within}
use Rattle.linear_combinations.specs.Gains.{replaced}
use Rattle.transition_walk.specs.Transitions.{IsShort}
use Rattle.linear_combinations.proofs.Steps.{error_is}
use Rattle.transition_walk.specs.Waiting.{Joins, WaitingOverflows, each_waits}
use Rattle.transition_walk.proofs.JoinedLists.{joins_both, joins_swapped, overflows_both}
use Rattle.transition_walk.proofs.JoinedLists.{overflows_more, overflows_swapped}
use Rattle.transition_walk.proofs.Steps.{stepped_as}
use Rattle.transition_walk.proofs.waiting.expand.Goals as goal
use Rattle.std.proofs.lemmas.Result.{on_ok_weaker}

pub times_swap-requires-clause-first : goal.times_swap-requires-clause-first
times_swap-requires-clause-first g c = let p = place_within c.args.waiting.perm c.args.r c.args.s
    c.requires.permutation.one_line c.requires.places in p.0

pub times_swap-requires-clause-order : goal.times_swap-requires-clause-order
times_swap-requires-clause-order g c = let p = place_within c.args.waiting.perm c.args.r c.args.s
    c.requires.permutation.one_line c.requires.places in p.2

pub times_swap-requires-clause-second : goal.times_swap-requires-clause-second
times_swap-requires-clause-second g c =
    let p = place_within c.args.waiting.perm c.args.r c.args.s c.requires.permutation.one_line
    c.requires.places in let q = p.3 in let f =
    c.requires.permutation.few in omega arith

pub covers_down-requires-clause-place : goal.covers_down-requires-clause-place
covers_down-requires-clause-place g c = let p = place_within c.args.waiting.perm c.args.r c.args.s
    c.requires.permutation.one_line c.requires.places in p.0

pub covers_down-requires-clause-last : goal.covers_down-requires-clause-last
covers_down-requires-clause-last g c =
    let p = place_within c.args.waiting.perm c.args.r c.args.s c.requires.permutation.one_line
    c.requires.places in let q = p.1 in let f =
    c.requires.permutation.few in omega arith

pub at-factor-requires : goal.at-factor-requires
at-factor-requires g c = let p = place_within c.args.waiting.perm c.args.r c.args.s
    c.requires.permutation.one_line c.requires.places in p.0

pub add_waiting_by-requires : goal.add_waiting_by-requires
add_waiting_by-requires g c t m =
    let p = place_within c.args.waiting.perm c.args.r c.args.s c.requires.permutation.one_line
    c.requires.places in
    let p1 = p.1 in
    let few = c.requires.few in
    let small = c.requires.permutation.few in
    let lower = subst (IsShort g.F.Factor.most) (sym c.in_ok-lower.ensures)
    (short_transition g.F.Factor.most c.args.waiting.perm c.args.r c.args.s
    (record { one_line = c.requires.permutation.one_line; few = few }) c.requires.places) in
    subst (λ f. g.F.Rule.takes f t.0) (sym c.at-factor.ensures)
    (g.met.F.Factor.grows g.F.Factor.most c.args.r c.in_ok-lower.lower t.0 lower p.0 (omega arith)
    (omega arith) (omega arith) (c.requires.labels t m)).taken

pub returns-clause-joins : goal.returns-clause-joins
returns-clause-joins g c =
    on_ok_weaker c.add_covers.result (λ more.
    subst (λ l. Joins c.args.todo.now.items l c.add_covers.new.todo.items)
    (stepped_as g.F.Rule.image (g.F.Factor.made c.args.r) c.args.r c.args.s c.args.waiting
    c.in_ok-covers.covers.items c.in_ok-lower.lower c.at-factor.result c.in_ok-lower.ensures
    c.in_ok-covers.ensures c.at-factor.ensures)
    (joins_swapped c.args.todo.now.items
    ((record {
      perm = c.in_ok-lower.lower;
      factor = replaced (g.F.Rule.image c.at-factor.result)
          c.args.waiting.factor;
    }) ∷ [])
    (each_waits c.args.waiting.factor c.in_ok-covers.covers.items) c.add_covers.new.todo.items
    (joins_both c.args.todo.now.items
    ((record {
      perm = c.in_ok-lower.lower;
      factor = replaced (g.F.Rule.image c.at-factor.result)
          c.args.waiting.factor;
    }) ∷ []) c.add_waiting_by.new.todo.items
    (each_waits c.args.waiting.factor c.in_ok-covers.covers.items) c.add_covers.new.todo.items
    c.in_ok-add_waiting_by.ensures.joins more))) c.add_covers.ensures.joins

pub returns-clause-large : goal.returns-clause-large
returns-clause-large g c err =
    subst (WaitingOverflows c.args.todo.now.items)
    (stepped_as g.F.Rule.image (g.F.Factor.made c.args.r) c.args.r c.args.s c.args.waiting
    c.in_ok-covers.covers.items c.in_ok-lower.lower c.at-factor.result c.in_ok-lower.ensures
    c.in_ok-covers.ensures c.at-factor.ensures)
    (overflows_swapped c.args.todo.now.items
    ((record {
      perm = c.in_ok-lower.lower;
      factor = replaced (g.F.Rule.image c.at-factor.result)
          c.args.waiting.factor;
    }) ∷ [])
    (each_waits c.args.waiting.factor c.in_ok-covers.covers.items)
    (overflows_both c.args.todo.now.items
    ((record {
      perm = c.in_ok-lower.lower;
      factor = replaced (g.F.Rule.image c.at-factor.result)
          c.args.waiting.factor;
    }) ∷ []) c.add_waiting_by.new.todo.items
    (each_waits c.args.waiting.factor c.in_ok-covers.covers.items)
    c.in_ok-add_waiting_by.ensures.joins
    (c.add_covers.ensures.large err)))

pub returns-in_err-add_waiting_by-clause-large : goal.returns-in_err-add_waiting_by-clause-large
returns-in_err-add_waiting_by-clause-large g c err =
    subst (WaitingOverflows c.args.todo.now.items)
    (stepped_as g.F.Rule.image (g.F.Factor.made c.args.r) c.args.r c.args.s c.args.waiting
    c.in_ok-covers.covers.items c.in_ok-lower.lower c.at-factor.result c.in_ok-lower.ensures
    c.in_ok-covers.ensures c.at-factor.ensures)
    (overflows_swapped c.args.todo.now.items
    ((record {
      perm = c.in_ok-lower.lower;
      factor = replaced (g.F.Rule.image c.at-factor.result)
          c.args.waiting.factor;
    }) ∷ [])
    (each_waits c.args.waiting.factor c.in_ok-covers.covers.items)
    (overflows_more c.args.todo.now.items
    ((record {
      perm = c.in_ok-lower.lower;
      factor = replaced (g.F.Rule.image c.at-factor.result)
          c.args.waiting.factor;
    }) ∷ [])
    (each_waits c.args.waiting.factor c.in_ok-covers.covers.items)
    (c.in_err-add_waiting_by.ensures.large
    (ap Err (error_is _ _ _ c.from_residual-in_err-add_waiting_by.ensures.1 err)))))
