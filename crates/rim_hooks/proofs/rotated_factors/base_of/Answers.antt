use Rattle.std.proofs.Common.{rules, ◌-◌, refl}
use Rattle.rotation_laws.specs.Rotation.{IsInside}
use Rattle.rim_hooks.proofs.TurnedFactors.{base_is, few_wraps}
use Rattle.rim_hooks.proofs.rotated_factors.base_of.Goals as goal

pub overflow_sub-result : goal.overflow_sub-result
overflow_sub-result c =
    let turns = c.best_turns-turns.result.0 in
    let inside : IsInside c.args.k c.args.n c.args.factor.now = search rules in
    few_wraps c.args.k c.args.n (c.args.n - turns) turns c.in_ok-base.base.wraps c.args.factor.now refl c.best_turns-turns.ensures inside c.in_ok-base.ensures.wraps

pub returns : goal.returns
returns c =
    let turns = c.best_turns-turns.result.0 in
    let inside : IsInside c.args.k c.args.n c.args.factor.now = search rules in
    base_is c.args.k c.args.n (c.args.n - turns) turns c.in_ok-base.base.wraps c.args.factor.now c.in_ok-base.base.shape refl c.best_turns-turns.ensures inside
    c.in_ok-base.ensures.shape c.in_ok-base.ensures.wraps
