-- The list `lengths` has the lengths of the first `j` columns, and `rows` is at least the length of column `j`.
use Rattle.std.proofs.Common.{◌≡◌, ◌≤◌, length, map}
use Rattle.sym_model.specs.Conjugate.{count_from}
use Rattle.sym_model.specs.Partition.{after}
use Rattle.partitions.proofs.conjugate.column_lengths.Given as goal

abbrev pub invariant-loop-j : goal.invariant-loop-j
invariant-loop-j l = record {
  lengths : l.lengths.items ≡ map (λ j. count_from j l.parts) (after 0 l.j);
  count : length l.lengths.items ≡ l.j;
  room : l.columns ≤ l.lengths.capacity;
  within : l.rows ≤ length l.parts;
  enough : count_from l.j l.parts ≤ l.rows;
}
