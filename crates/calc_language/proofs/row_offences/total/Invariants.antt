use Rattle.std.proofs.Common.{◌≡◌, ◌+◌, drop}
use Rattle.sym_model.specs.Partition.{size}
use Rattle.calc_language.proofs.row_offences.total.Given as goal

abbrev pub invariant-loop-length : goal.invariant-loop-length
invariant-loop-length l = l.sum + size (drop l.length-index l.lengths) ≡ size l.lengths
