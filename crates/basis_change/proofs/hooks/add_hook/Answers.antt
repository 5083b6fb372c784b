use Rattle.std.proofs.Common.{sym, ◌-◌, rules}
use Rattle.linear_combinations.proofs.Gains.{gains_none}
use Rattle.basis_change.proofs.HookEntries.{greater_within, hook-none, hook-added}
use Rattle.basis_change.proofs.HookEntries.{hook-past}
use Rattle.basis_change.proofs.hooks.add_hook.Goals as goal
use Rattle.std.proofs.lemmas.Result.{on_ok_weaker}

pub overflow_sub-passed : goal.overflow_sub-passed
overflow_sub-passed c = search (rules, greater_within)

pub returns-then-has-clause-gains : goal.returns-then-has-clause-gains
returns-then-has-clause-gains c = search (rules, hook-none, gains_none)

pub returns-in_default-clause-large : goal.returns-in_default-clause-large
returns-in_default-clause-large c err =
    hook-past c.args.a c.args.beta c.raised-others.result c.args.c c.raised-others.ensures
    (sym c.if-has.ensures) c.args.sum.now c.in_default.ensures

pub returns-clause-gains : goal.returns-clause-gains
returns-clause-gains c = search (rules, on_ok_weaker, hook-added)

pub returns-clause-large : goal.returns-clause-large
returns-clause-large c err = search (rules, hook-added)
