use Rattle.std.proofs.Common.{◌-◌, rules}
use Rattle.strip_rules.proofs.HookMoves.{hook_alone, hook_past}
use Rattle.strip_rules.proofs.bead_hooks.add_hook.Goals as goal
use Rattle.std.proofs.lemmas.Result.{on_ok_weaker}
use Rattle.sym_model.proofs.Numbers.{greater_fewer}

pub overflow_sub-greater : goal.overflow_sub-greater
overflow_sub-greater c = search (rules, greater_fewer)

pub returns-in_default-clause-large : goal.returns-in_default-clause-large
returns-in_default-clause-large c err = hook_past c.args.cells c.args.set c.args.place c.args.c c.args.sum.now c.in_default.ensures

pub returns-clause-gains : goal.returns-clause-gains
returns-clause-gains c = search (rules, on_ok_weaker, hook_alone)

pub returns-clause-large : goal.returns-clause-large
returns-clause-large c err = search (rules, hook_alone)
