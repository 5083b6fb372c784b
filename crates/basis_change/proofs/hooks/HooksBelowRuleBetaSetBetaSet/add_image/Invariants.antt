use Rattle.std.proofs.Common.{◌≡◌, ◌+◌, ◌-◌, ◌<◌, ◌^◌, ℕ, ◌++◌}
use Rattle.linear_combinations.specs.Gains.{WholeTermsOf, Gains, scaled}
use Rattle.basis_change.specs.RimHooks.{hooks, hooks_below}
use Rattle.basis_change.proofs.hooks.HooksBelowRuleBetaSetBetaSet.add_image.Given as goal

-- the terms added to `sum` so far are those of the rim hooks that begin in the rows visited so far
abbrev pub invariant-loop : goal.invariant-loop
invariant-loop l = (done : WholeTermsOf ℕ) × record {
  all : done ++ hooks l.self.cells (l.self.cells - l.counter) l.beta ≡ hooks_below l.self.cells l.label;
  gains : Gains l.fn.sum (scaled l.c done) l.sum;
  low : l.beta < 2 ^ (20 - l.self.cells + 1 + l.counter);
}
