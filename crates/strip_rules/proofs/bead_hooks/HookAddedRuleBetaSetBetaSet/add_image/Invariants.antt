use Rattle.std.proofs.Common.{◌≡◌, ◌++◌, List, ℕ, map}
use Rattle.linear_combinations.specs.Gains.{Gains, scaled}
use Rattle.beta_sets.specs.BetaSets.{numbers, free}
use Rattle.strip_rules.specs.HookMoves.{hook_from}
use Rattle.strip_rules.proofs.bead_hooks.HookAddedRuleBetaSetBetaSet.add_image.Given as goal

abbrev pub decreases-loop-place : goal.decreases-loop-place
decreases-loop-place l = l.places

-- the sets that result from moving the bead at one of the places `passed` have been added to the table; the other places are still to come
abbrev pub invariant-loop-place : goal.invariant-loop-place
invariant-loop-place l = (passed : List ℕ) × record {
  all : passed ++ numbers l.places ≡ free l.self.cells (numbers l.label);
  gains : Gains l.fn.sum (scaled l.c (map (hook_from l.self.cells l.label) passed)) l.sum;
}
