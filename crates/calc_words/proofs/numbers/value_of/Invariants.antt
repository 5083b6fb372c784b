use Rattle.std.proofs.Common.{◌≡◌, ◌^◌, min, take}
use Rattle.sym_model.specs.PrintedBlock.{decimal_value}
use Rattle.calc_words.proofs.numbers.value_of.Given as goal

abbrev pub invariant-loop-byte : goal.invariant-loop-byte
invariant-loop-byte l = l.value ≡ min (decimal_value (take l.byte-index l.word)) (2 ^ 127)
