-- The invariant of the loop: no state visited so far has the remaining parts `left` and `right`.
use Rattle.std.proofs.Common.{map, take}
use Rattle.sym_model.specs.Sum.{Among}
use Rattle.sparse_polys.specs.Ways.{labels_left}
use Rattle.sparse_polys.proofs.states.place_of.Given as goal

abbrev pub invariant-loop-i : goal.invariant-loop-i
invariant-loop-i l = Among (l.left, l.right) (map labels_left (take l.i l.states)) → ⊥
