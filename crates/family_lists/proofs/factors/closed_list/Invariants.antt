use Rattle.std.proofs.Common.{◌≡◌, ℕ, List, ◌++◌, length}
use Rattle.sym_model.specs.PartitionList.{partitions_of}
use Rattle.sparse_polys.specs.Tables.{IsWholeTable}
use Rattle.sparse_polys.proofs.WholeLists.{Finds}
use Rattle.family_lists.specs.ClosedCoefficients.{closed_coefficient}
use Rattle.linear_combinations.specs.Gains.{each_by}
use Rattle.family_lists.proofs.factors.closed_list.Given as goal

-- the table has the coefficients of the partitions visited so far; these partitions, followed by those still to come, are the list of all partitions
-- of k
abbrev pub invariant-loop-alloc : goal.invariant-loop-alloc
invariant-loop-alloc l = (done : List (List ℕ)) × record {
  so_far : done ++ l.labels.0 ≡ partitions_of l.k;
  finds : Finds l.list (each_by (closed_coefficient l.target l.family) done);
  table : IsWholeTable l.list;
}

abbrev pub decreases-loop-alloc : goal.decreases-loop-alloc
decreases-loop-alloc l = length l.labels.0
