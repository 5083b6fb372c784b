use Rattle.std.proofs.Common.{◌≡◌, ◌+◌, ◌-◌, ◌<◌, ◌^◌, ◌*◌, ◌++◌, refl, ap, ◌∙◌, sym, rules}
use Rattle.std.proofs.Common.{subst, arith, append_assoc, Err}
use Rattle.linear_combinations.proofs.Gains.{gains_none}
use Rattle.linear_combinations.proofs.Steps.{error_is}
use Rattle.basis_change.specs.RimHooks.{hook, hooks, hooks_below}
use Rattle.beta_sets.proofs.BetaSets.{below_power}
use Rattle.basis_change.proofs.HookSums.{hooks-next, hooks-end, hooks_gain, hooks_overflow}
use Rattle.basis_change.proofs.hooks.HooksBelowRuleBetaSetBetaSet.add_image.Goals as goal
use Rattle.sym_model.proofs.Numbers.{pow_next}

pub loop-init : goal.loop-init
loop-init c = search (rules, gains_none)

pub add_hook-requires-clause-low : goal.add_hook-requires-clause-low
add_hook-requires-clause-low c = search (rules, below_power)

pub loop-preserved : goal.loop-preserved
loop-preserved c =
    let a = c.args.self.now.cells in
    let beta = c.loop.beta in
    let done = c.loop.invariant.0 in
    let inv = c.loop.invariant.1 in
    let longer = c.lengthened-beta.result in
    let e = c.lengthened-beta.ensures in
    let t = c.loop-test.true in (
      done ++ hook a beta,
      record {
        all = append_assoc done (hook a beta) (hooks a (a - (c.loop.counter + 1)) longer)
            ∙ ap (λ l. done ++ l) (sym (hooks-next a (a - c.loop.counter)
            (a - (c.loop.counter + 1)) beta longer (omega arith) e)) ∙ inv.all;
        gains = hooks_gain c.args.c done (hook a beta) c.args.sum.now c.loop.sum inv.gains
            c.add_hook.new.sum c.in_ok-add_hook.ensures.gains;
        low =
            let l = inv.low in
            let p = pow_next (20 - a + 1 + c.loop.counter) in
            subst (λ n. longer < 2 ^ n) (let s : 20 - a + 1 + c.loop.counter + 1
            ≡ 20 - a + 1 + (c.loop.counter + 1) = omega arith in s) (omega arith);
      },
    )

pub returns-in_err-add_hook-clause-large : goal.returns-in_err-add_hook-clause-large
returns-in_err-add_hook-clause-large c err =
    let a = c.args.self.now.cells in
    let beta = c.loop.beta in
    let done = c.loop.invariant.0 in
    let inv = c.loop.invariant.1 in
    let t = c.loop-test.true in
    let more = a - (c.loop.counter + 1) in
    let rest = hooks a more (2 * beta + 1) in
    hooks_overflow c.args.c done (hook a beta) c.args.sum.now c.loop.sum inv.gains rest
    (hooks_below a c.args.label.now)
    (append_assoc done (hook a beta) rest ∙ ap (λ l. done ++ l)
    (sym (hooks-next a (a - c.loop.counter) more beta (2 * beta + 1) (omega arith) refl))
    ∙ inv.all)
    (c.in_err-add_hook.ensures.large (ap Err (error_is _ _ _ c.from_residual.ensures.1 err)))

pub returns-clause-gains : goal.returns-clause-gains
returns-clause-gains c = search (rules, hooks-end)
