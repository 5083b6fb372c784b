use Rattle.std.proofs.Common.{◌≡◌, ◌++◌, ◌*ℤ◌}
use Rattle.std.specs.Vec.Iter.{into_iter_items}
use Rattle.sym_model.specs.Polynomial.{pair}
use Rattle.sym_model.specs.Schubert.{schubert_in}
use Rattle.sym_model.specs.Sum.{total}
use Rattle.sym_model.specs.WholeTerms.{WholeTerms}
use Rattle.stanley_expand.specs.Walk.{IsWorkedOff}
use Rattle.stanley_expand.proofs.walk.put_each.Given as goal

-- the permutations visited so far have been added with the count `count`; these permutations, followed by those still to come, are the whole list
abbrev pub invariant-loop-perm : goal.invariant-loop-perm
invariant-loop-perm l = record {
  step : (sum : WholeTerms) → IsWorkedOff l.rows sum l.fn.todo.items
      (λ φ. l.count *ℤ total (λ p. pair (schubert_in p l.rows) φ) l.yielded) sum l.todo.items;
  so_far : l.yielded ++ into_iter_items l.perm-iterator ≡ l.fn.perms.items;
}
