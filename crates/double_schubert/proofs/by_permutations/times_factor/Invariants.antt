-- Loop invariant: for each term f_w·S_w visited so far, (x_r - y_c)·f_w·S_w has been added; the terms visited so far, followed by those still to
-- come, are all terms.
use Rattle.std.proofs.Common.{◌≡◌, List, ℕ, [], ◌++◌, flat_map}
use Rattle.std.specs.Vec.Iter.{into_iter_items}
use Rattle.sym_model.specs.Permutation.{IsOneLine}
use Rattle.sym_model.specs.Sum.{Among}
use Rattle.transition_walk.specs.Waiting.{WithList, Joins}
use Rattle.double_schubert.specs.ByPermutations.{factor_lists}
use Rattle.double_schubert.proofs.by_permutations.times_factor.Given as goal

abbrev pub invariant-loop-term : goal.invariant-loop-term
invariant-loop-term l = record {
  joins : Joins [] (flat_map (factor_lists l.r l.c) l.yielded) l.product.items;
  lines : (x : WithList (List ℕ)) → Among x l.yielded → IsOneLine x.perm;
  so_far : l.yielded ++ into_iter_items l.term-iterator ≡ l.fn.sum.items;
}
