use Rattle.std.proofs.Common.{◌≡◌, ℕ, List, ℤ, length}
use Rattle.sym_model.specs.Polynomial.{pair}
use Rattle.sym_model.specs.Schubert.{schubert_in}
use Rattle.stanley_expand.specs.Walk.{AreWaiting, AreShapes, walked}
use Rattle.stanley_expand.proofs.walk.by_transitions.Given as goal

-- the Schur polynomials of `sum` and the Schubert polynomials of the permutations in the tables, with their counts, add up to the Schubert polynomial
-- of `start`, in `rows` variables
abbrev pub invariant-loop-counts : goal.invariant-loop-counts
invariant-loop-counts l = record {
  value : (φ : List ℕ → ℤ) → walked l.rows φ l.sum l.todo.items ≡ pair (schubert_in l.fn.start l.rows) φ;
  waiting : AreWaiting l.rows l.todo.items;
  shapes : AreShapes l.rows l.sum;
}

abbrev pub decreases-loop-counts : goal.decreases-loop-counts
decreases-loop-counts l = length l.todo.items
