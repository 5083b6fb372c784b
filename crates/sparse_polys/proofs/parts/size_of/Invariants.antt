use Rattle.std.proofs.Common.{◌≡◌, ◌+◌, drop}
use Rattle.sym_model.specs.Partition.{size}
use Rattle.sparse_polys.proofs.parts.size_of.Given as goal

abbrev pub invariant-loop-p : goal.invariant-loop-p
invariant-loop-p l = l.sum + size (drop l.p-index l.parts) ≡ size l.parts
