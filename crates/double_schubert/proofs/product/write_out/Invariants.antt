-- Loop invariant: the terms visited so far have been appended; these terms, followed by those still to come, are all terms of the polynomial in y.
use Rattle.std.proofs.Common.{◌≡◌, ℕ, List, ◌++◌, ℤ, ◌+ℤ◌}
use Rattle.std.specs.Vec.Iter.{into_iter_items}
use Rattle.linear_combinations.specs.Gains.{over}
use Rattle.double_schubert.specs.ByPermutations.{at_general}
use Rattle.double_schubert.proofs.product.write_out.Given as goal

abbrev pub invariant-loop-e : goal.invariant-loop-e
invariant-loop-e l = record {
  appended : (φ : List ℕ × List ℕ → ℤ) → over φ l.pairs.items ≡ over φ l.fn.pairs.items +ℤ over (at_general φ l.fn.term.perm) l.yielded;
  so_far : l.yielded ++ into_iter_items l.e-iterator ≡ into_iter_items l.initial.e-iterator;
}
