use Rattle.std.proofs.Common.{◌≡◌, ◌++◌, map}
use Rattle.std.specs.Map.Iter.{deref_pair}
use Rattle.sym_model.specs.Polynomial.{pair}
use Rattle.sym_model.specs.Schubert.{schubert_in}
use Rattle.linear_combinations.specs.Gains.{over}
use Rattle.stanley_expand.specs.Walk.{IsWorkedOff}
use Rattle.stanley_expand.proofs.walk.work_off_each.Given as goal

-- each permutation visited so far has been replaced by the permutations of the transition rule, or its Schur polynomial has been added; the
-- permutations visited so far, followed by those still to come, are the whole table
abbrev pub invariant-loop-perm : goal.invariant-loop-perm
invariant-loop-perm l = record {
  step : IsWorkedOff l.rows l.fn.sum l.fn.todo.items
      (λ φ. over (λ p. pair (schubert_in p l.rows) φ) (map deref_pair l.yielded)) l.sum l.todo.items;
  so_far : map deref_pair l.yielded ++ l.perm-iterator ≡ l.initial.perm-iterator;
}
