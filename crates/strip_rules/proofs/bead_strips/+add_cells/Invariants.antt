use Rattle.std.proofs.Common.{◌≡◌, ◌++◌, List, ℕ, flat_map}
use Rattle.linear_combinations.specs.Gains.{Gains, scaled}
use Rattle.beta_sets.specs.BetaSets.{numbers}
use Rattle.strip_rules.specs.BeadMoves.{next_places}
use Rattle.strip_rules.proofs.BeadSteps.{from_bead, ones}
use Rattle.strip_rules.proofs.bead_strips.+add_cells.Given as goal

abbrev pub decreases-add_cells : goal.decreases-add_cells
decreases-add_cells l = l.left

abbrev pub decreases-loop-place : goal.decreases-loop-place
decreases-loop-place l = l.places

-- the sets whose first cell is added by the bead at one of the places `passed` have been added to the table; the other places are still to come
abbrev pub invariant-loop-place : goal.invariant-loop-place
invariant-loop-place l = (passed : List ℕ) × record {
  all : passed ++ numbers l.places ≡ next_places l.strip l.bound (numbers l.set);
  gains : Gains l.fn.sum (scaled l.c (ones (flat_map (from_bead l.strip l.left l.set) passed))) l.sum;
}
