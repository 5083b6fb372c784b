-- Loop invariant: the double Schubert polynomial of w is the product of the factors found so far and the double Schubert polynomial of the
-- permutation that is left.
use Rattle.std.proofs.Common.{◌≡◌, ℕ, ◌+◌, ◌≤◌, length}
use Rattle.sym_model.specs.DoubleSchubert.{double_schubert_in}
use Rattle.sym_model.specs.PlaceOrders.{inversions}
use Rattle.sym_model.specs.Polynomial.{Same}
use Rattle.double_schubert.specs.LinearFactors.{AreWithin, product_with}
use Rattle.double_schubert.proofs.linear_factors.linear_factors.Given as goal

abbrev pub invariant-loop-r : goal.invariant-loop-r
invariant-loop-r l = record {
  value : (n : ℕ) → Same (double_schubert_in l.w n) (product_with n l.factors.items (double_schubert_in l.rest n));
  places : AreWithin (length l.w) l.factors.items;
  count : length l.factors.items + inversions l.rest ≡ inversions l.w;
  few : length l.rest ≤ length l.w;
}

abbrev pub decreases-loop-r : goal.decreases-loop-r
decreases-loop-r l = inversions l.rest
