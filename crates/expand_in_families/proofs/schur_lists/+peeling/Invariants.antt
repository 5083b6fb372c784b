use Rattle.std.proofs.Common.{◌*◌, ◌+◌, length, take, flat_map}
use Rattle.sym_model.specs.Partition.{size}
use Rattle.sym_model.specs.Weight.{factorial}
use Rattle.basis_change_laws.specs.JoinedLists.{Stands}
use Rattle.sparse_polys.specs.Families.{polynomial_of}
use Rattle.sparse_polys.specs.Tables.{IsWholeTable}
use Rattle.expand_in_families.specs.SpecialHooks.{special_hooks}
use Rattle.expand_in_families.specs.SchurLists.{AreSchurLists}
use Rattle.expand_in_families.proofs.HookProducts.{hook_term, peeled}
use Rattle.expand_in_families.proofs.schur_lists.+peeling.Given as goal

abbrev pub decreases-list_of : goal.decreases-list_of
decreases-list_of l = 2 * length l.shape.now

abbrev pub decreases-index_of : goal.decreases-index_of
decreases-index_of l = 2 * length l.shape + 1

-- `sum` is d! times the sum of the summands of the special rim hooks that the loop has visited, with d the size of the shape; the absolute values
-- of its coefficients add up to at most `peeled d` times the number of these hooks
abbrev pub invariant-list_of-loop-row : goal.invariant-list_of-loop-row
invariant-list_of-loop-row l = record {
  stands :
      Stands (polynomial_of l.target) (factorial (size l.shape)) (l.row * peeled (size l.shape)) (size l.shape)
      (λ n. flat_map (hook_term l.family n) (take l.row (special_hooks l.shape))) l.sum;
  table : IsWholeTable l.sum;
  store : AreSchurLists (polynomial_of l.target) l.family l.store.entries;
}
