use Rattle.std.proofs.Common.{ℕ, ◌<◌, List, [], ◌∷◌, length, take_all}
use Rattle.std.proofs.Common.{ap, subst, arith}
use Rattle.std.specs.Prelude.{Err}
use Rattle.linear_combinations.proofs.Steps.{error_is}
use Rattle.linear_combinations.specs.Gains.{Gains, Overflows}
use Rattle.linear_combinations.proofs.Gains.{gains_none, places_gain, places_overflow}
use Rattle.transition_laws.specs.Shifts.{equal, each_beside}
use Rattle.double_schubert.proofs.FactorGains.{beside_append}
use Rattle.double_schubert.proofs.factor.add_beside.Goals as goal

pub loop-perm-init : goal.loop-perm-init
loop-perm-init c = gains_none c.args.sum.now

pub loop-perm-preserved : goal.loop-perm-preserved
loop-perm-preserved c =
    let inside : c.loop-perm.perm-index < length c.args.perms.now = omega arith in
    places_gain (each_beside c.args.k c.args.y.now) (beside_append c.args.k c.args.y.now)
    c.args.perms.now c.loop-perm.perm-index c.perm-item.result inside c.perm-item.is c.args.sum.now
    c.loop-perm.sum c.loop-perm.invariant c.add_one.new.sum
    (subst (λ (e : List ℕ). Gains c.loop-perm.sum (((c.perm-item.result, e), c.args.k) ∷ [])
    c.add_one.new.sum) c.in_ok-copy.ensures.ok c.in_ok-add_one.ensures.gains)

pub returns-in_err-add_one-clause-large : goal.returns-in_err-add_one-clause-large
returns-in_err-add_one-clause-large c err =
    let inside : c.loop-perm.perm-index < length c.args.perms.now = omega arith in
    places_overflow (each_beside c.args.k c.args.y.now) (beside_append c.args.k c.args.y.now)
    c.args.perms.now c.loop-perm.perm-index c.perm-item.result inside c.perm-item.is c.args.sum.now
    c.loop-perm.sum c.loop-perm.invariant equal
    (subst (λ (e : List ℕ). Overflows equal c.loop-perm.sum
    (((c.perm-item.result, e), c.args.k) ∷ [])) c.in_ok-copy.ensures.ok
    (c.in_err-add_one.ensures.large (ap Err (error_is _ _ _ c.from_residual-in_err-add_one.ensures.1
    err))))

pub returns-clause-gains : goal.returns-clause-gains
returns-clause-gains c = subst (λ (vs : List (List ℕ)). Gains c.args.sum.now
    (each_beside c.args.k c.args.y.now vs) c.loop-perm.sum)
    (take_all c.loop-perm.perm-index c.args.perms.now (omega arith)) c.loop-perm.invariant
