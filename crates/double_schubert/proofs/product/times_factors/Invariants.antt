-- Loop invariant: the sum times the factors still to come is the whole product; the bounds of the sum on letters, degrees and coefficients increase
-- with each factor visited.
use Rattle.std.proofs.Common.{◌≡◌, ℕ, ◌+◌, ◌^◌, ◌≤◌, List, ◌++◌, length, ℤ, replicate}
use Rattle.std.specs.Vec.Iter.{into_iter_items}
use Rattle.sym_model.specs.DoubleSchubert.{shifted_in}
use Rattle.sym_model.specs.Partition.{size}
use Rattle.sym_model.specs.PlaceOrders.{inversions}
use Rattle.sym_model.specs.Polynomial.{pair, times}
use Rattle.transition_walk.specs.Waiting.{AreWaiting, growth, value_of}
use Rattle.double_schubert.specs.ByPermutations.{at_pairs, one_each}
use Rattle.double_schubert.specs.LinearFactors.{AreWithin, product_in}
use Rattle.double_schubert.proofs.product.times_factors.Given as goal

abbrev pub invariant-loop-r : goal.invariant-loop-r
invariant-loop-r l = record {
  value : (n : ℕ) (φ : List ℕ → ℤ)
      → value_of (at_pairs (λ label. pair (times (product_in n (into_iter_items l.r-iterator)) (shifted_in label n)) φ)) l.sum.items
      ≡ pair (times (product_in n l.fn.factors.items) (shifted_in (l.perm, replicate 32 0) n)) φ;
  bounds : (m : ℕ) → AreWithin m l.fn.factors.items → length l.perm ≤ m
      → AreWaiting size (m + length l.yielded) (m + inversions l.perm + (length l.yielded + length l.yielded)) l.sum.items;
  weight : (m : ℕ) → AreWithin m l.fn.factors.items → length l.perm ≤ m
      → growth one_each l.sum.items ≤ (m + length l.fn.factors.items + 2) ^ length l.yielded;
  so_far : l.yielded ++ into_iter_items l.r-iterator ≡ l.fn.factors.items;
}
