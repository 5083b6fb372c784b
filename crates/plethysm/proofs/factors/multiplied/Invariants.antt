use Rattle.std.proofs.Common.{◌≡◌, take}
use Rattle.sym_model.specs.Plethysm.{multiplied}
use Rattle.plethysm.proofs.factors.multiplied.Given as goal

abbrev pub invariant-loop-part : goal.invariant-loop-part
invariant-loop-part l = l.numbers.items ≡ multiplied l.k (take l.part-index l.parts)
