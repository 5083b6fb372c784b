use Rattle.std.proofs.Common.{◌≡◌, map, take}
use Rattle.std.specs.Prelude.{string_bytes}
use Rattle.sym_model.specs.PrintedBlock.{decimal_value}
use Rattle.calc_language.specs.FoundOffences.{at_most_entry}
use Rattle.calc_language.proofs.row_numbers.row_numbers.Given as goal

abbrev pub invariant-loop-word : goal.invariant-loop-word
invariant-loop-word l = l.numbers.items ≡ map (λ w. at_most_entry (decimal_value (string_bytes w))) (take l.word-index l.row)
