-- Loop invariant: the terms of each permutation visited so far have been appended to the result. The permutations visited so far, followed by those
-- still to come, are the labels of the sum that is given.
use Rattle.std.proofs.Common.{◌≡◌, ℕ, List, ◌++◌, ℤ}
use Rattle.std.specs.Vec.Iter.{into_iter_items}
use Rattle.linear_combinations.specs.Gains.{over}
use Rattle.transition_walk.specs.Waiting.{value_of}
use Rattle.double_schubert.specs.ByPermutations.{at_general}
use Rattle.double_schubert.proofs.product.terms_of.Given as goal

abbrev pub invariant-loop-term : goal.invariant-loop-term
invariant-loop-term l = record {
  written : (φ : List ℕ × List ℕ → ℤ) → over φ l.pairs.items ≡ value_of (at_general φ) l.yielded;
  so_far : l.yielded ++ into_iter_items l.term-iterator ≡ into_iter_items l.initial.term-iterator;
}
