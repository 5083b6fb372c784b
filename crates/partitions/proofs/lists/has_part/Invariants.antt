use Rattle.std.proofs.Common.{◌≡◌, drop}
use Rattle.sym_model.specs.Bases.{has}
use Rattle.partitions.proofs.lists.has_part.Given as goal

abbrev pub invariant-loop-p : goal.invariant-loop-p
invariant-loop-p l = has l.part l.parts ≡ has l.part (drop l.p-index l.parts)
