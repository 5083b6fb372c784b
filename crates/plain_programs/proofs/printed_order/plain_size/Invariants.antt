use Rattle.std.proofs.Common.{◌≡◌, ◌+◌, drop}
use Rattle.sym_model.specs.Partition.{size}
use Rattle.plain_programs.proofs.printed_order.plain_size.Given as goal

abbrev pub invariant-loop-part : goal.invariant-loop-part
invariant-loop-part l = l.total + size (drop l.part-index l.parts) ≡ size l.parts
