use Rattle.std.proofs.Common.{◌≡◌, drop}
use Rattle.expression_laws.specs.Signs.{first_sign}
use Rattle.expression_reading.proofs.plethysm_words.first_sign.Given as goal

abbrev pub invariant-loop-i : goal.invariant-loop-i
invariant-loop-i l = first_sign 0 0 l.word ≡ first_sign l.i l.digits_from (drop l.i l.word)
