use Rattle.std.proofs.Common.{◌≡◌, ◌++◌, drop}
use Rattle.std.specs.String.{string_bytes}
use Rattle.sym_model.specs.PrintedBlock.{numbers_text}
use Rattle.plain_programs.proofs.PlainTexts.{comma_numbers}
use Rattle.plain_programs.proofs.blocks.push_numbers.Given as goal

abbrev pub invariant-loop-number : goal.invariant-loop-number
invariant-loop-number l =
    string_bytes l.text ++ comma_numbers (drop l.number-index l.rest) ≡ string_bytes l.fn.text ++ numbers_text l.fn.numbers
