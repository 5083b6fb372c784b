use Rattle.std.proofs.Common.{◌≡◌, drop}
use Rattle.calc_base.specs.Mixing.{mixed as mixed_of}
use Rattle.calc_base.proofs.hashing.mixed.Given as goal

abbrev pub invariant-loop-number : goal.invariant-loop-number
invariant-loop-number l = mixed_of l.sum (drop l.number-index l.numbers) ≡ mixed_of 0 l.numbers
