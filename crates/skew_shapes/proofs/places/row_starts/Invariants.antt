-- Loop invariant: each row visited so far begins at the sum of the lengths of the rows before it, and `start` is the sum of the lengths of all rows
-- visited so far.
use Rattle.std.proofs.Common.{◌≡◌, ℕ, ◌<◌, length, take, get_or}
use Rattle.sym_model.specs.Partition.{size}
use Rattle.skew_shapes.proofs.places.row_starts.Given as goal

abbrev pub invariant-loop-length : goal.invariant-loop-length
invariant-loop-length l = record {
  starts : (k : ℕ) → k < l.length-index → get_or l.starts.items k 0 ≡ size (take k l.lengths);
  count : length l.starts.items ≡ l.length-index;
  sum : l.start ≡ size (take l.length-index l.lengths);
}
