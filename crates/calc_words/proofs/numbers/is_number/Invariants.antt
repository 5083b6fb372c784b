use Rattle.std.proofs.Common.{◌≡◌, drop}
use Rattle.sym_model.specs.Form.{are_digits}
use Rattle.calc_words.proofs.numbers.is_number.Given as goal

abbrev pub invariant-loop-byte : goal.invariant-loop-byte
invariant-loop-byte l = are_digits l.word ≡ are_digits (drop l.byte-index l.word)
