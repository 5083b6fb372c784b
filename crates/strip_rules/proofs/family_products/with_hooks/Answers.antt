use Rattle.std.proofs.Common.{subst, ap, Err}
use Rattle.std.specs.Prelude.{nat_eq}
use Rattle.linear_combinations.specs.Gains.{Gains, Overflows, replaced}
use Rattle.linear_combinations.proofs.Steps.{error_is}
use Rattle.strip_rules.specs.HookMoves.{hooks}
use Rattle.strip_rules.proofs.HookMoves.{hook_times, hooks_fit}
use Rattle.strip_rules.proofs.family_products.with_hooks.Goals as goal

pub add_by-requires : goal.add_by-requires
add_by-requires c t m = (c.requires.few.0, c.requires.few.1, c.requires.within t m)

pub returns-clause-value : goal.returns-clause-value
returns-clause-value c f d are low =
    let a = c.in_ok-add_by.ensures in
    hook_times c.args.cells d f c.args.list.now c.add_by.new.self c.requires.few.0 low are c.requires.within a.table
    (subst (λ old. Gains old (replaced (hooks c.args.cells) c.args.list.now) c.add_by.new.self) c.new-sum.ensures a.gains)

pub returns-in_err-add_by-clause-small : goal.returns-in_err-add_by-clause-small
returns-in_err-add_by-clause-small c large =
    hooks_fit c.args.cells c.args.list.now c.requires.few.0 c.requires.few.1 c.requires.within c.requires.mass
    (subst (λ old. Overflows nat_eq old (replaced (hooks c.args.cells) c.args.list.now)) c.new-sum.ensures
    (c.in_err-add_by.ensures.large (ap Err (error_is _ _ _ c.from_residual.ensures.1 large))))
