use Rattle.std.proofs.Common.{List, ℕ, ◌<◌, [], ◌∷◌, ◌++◌, suc, length, take, drop, take_all, ap, subst, arith}
use Rattle.std.specs.Prelude.{Err}
use Rattle.linear_combinations.proofs.Steps.{error_is}
use Rattle.linear_combinations.specs.Gains.{replaced}
use Rattle.transition_walk.specs.Waiting.{Joins, WaitingOverflows, each_waits}
use Rattle.transition_walk.proofs.JoinedLists.{joins_none, joins_both, overflows_both}
use Rattle.transition_walk.proofs.JoinedLists.{overflows_more}
use Rattle.double_schubert.proofs.FactorLists.{each_next, each_all}
use Rattle.double_schubert.proofs.by_permutations.add_at_each.Goals as goal

pub loop-perm-init : goal.loop-perm-init
loop-perm-init g c = joins_none c.args.sum.now.items

pub loop-perm-preserved : goal.loop-perm-preserved
loop-perm-preserved g c =
    let inside : c.loop-perm.perm-index < length c.args.perms.now = omega arith in
    let list = replaced (g.T.Rule.image c.args.rule.now) c.args.poly.now in
    subst (λ l. Joins c.args.sum.now.items l c.add_waiting_by.new.todo.items)
    (each_next list c.args.perms.now c.loop-perm.perm-index c.perm-item.result inside
    c.perm-item.is)
    (joins_both c.args.sum.now.items
    (each_waits list (take c.loop-perm.perm-index c.args.perms.now))
    c.loop-perm.sum.items ((record { perm = c.perm-item.result; factor = list }) ∷ [])
    c.add_waiting_by.new.todo.items c.loop-perm.invariant
    (subst (λ (p : List ℕ). Joins c.loop-perm.sum.items ((record { perm = p; factor = list }) ∷ [])
    c.add_waiting_by.new.todo.items) c.in_ok-copy.ensures.ok
    c.in_ok-add_waiting_by.ensures.joins))

pub returns-in_err-add_waiting_by-clause-large : goal.returns-in_err-add_waiting_by-clause-large
returns-in_err-add_waiting_by-clause-large g c err =
    let inside : c.loop-perm.perm-index < length c.args.perms.now = omega arith in
    let list = replaced (g.T.Rule.image c.args.rule.now) c.args.poly.now in
    let done = each_waits list (take c.loop-perm.perm-index c.args.perms.now) in
    subst (WaitingOverflows c.args.sum.now.items)
    (each_all list c.args.perms.now c.loop-perm.perm-index c.perm-item.result inside
    c.perm-item.is)
    (overflows_more c.args.sum.now.items
    (done ++ (record { perm = c.perm-item.result; factor = list }) ∷ [])
    (each_waits list (drop (suc c.loop-perm.perm-index) c.args.perms.now))
    (overflows_both c.args.sum.now.items done
    c.loop-perm.sum.items ((record { perm = c.perm-item.result; factor = list }) ∷ [])
    c.loop-perm.invariant
    (subst (λ (p : List ℕ). WaitingOverflows c.loop-perm.sum.items
    ((record { perm = p; factor = list }) ∷ [])) c.in_ok-copy.ensures.ok
    (c.in_err-add_waiting_by.ensures.large
    (ap Err (error_is _ _ _ c.from_residual-in_err-add_waiting_by.ensures.1 err))))))

pub returns-clause-joins : goal.returns-clause-joins
returns-clause-joins g c =
    subst (λ (xs : List (List ℕ)). Joins c.args.sum.now.items
    (each_waits (replaced (g.T.Rule.image c.args.rule.now) c.args.poly.now) xs)
    c.loop-perm.sum.items)
    (take_all c.loop-perm.perm-index c.args.perms.now (omega arith)) c.loop-perm.invariant
