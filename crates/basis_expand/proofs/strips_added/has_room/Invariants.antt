use Rattle.std.proofs.Common.{◌≡◌, ◌++◌, map}
use Rattle.std.specs.Map.Iter.{deref_pair}
use Rattle.strip_rules.specs.Room.{HaveRoomForStrips}
use Rattle.basis_expand.proofs.strips_added.has_room.Given as goal

-- the labels that the loop has visited are within the limits with k more cells and k more rows; the visited labels, followed by the other labels,
-- are all labels of the list
abbrev pub invariant-loop-label : goal.invariant-loop-label
invariant-loop-label l = record {
  room : HaveRoomForStrips l.k (map deref_pair l.yielded);
  so_far : map deref_pair l.yielded ++ l.label-iterator ≡ l.initial.label-iterator;
}
