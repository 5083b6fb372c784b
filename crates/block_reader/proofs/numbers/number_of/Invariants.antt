use Rattle.std.proofs.Common.{◌≡◌, ◌<◌, ◌^◌, take}
use Rattle.sym_model.specs.NumberText.{decimal_value}
use Rattle.block_reader.proofs.numbers.number_of.Given as goal

-- `value` is the value of the digits visited so far, and is below 2^128
abbrev pub invariant-loop-digit : goal.invariant-loop-digit
invariant-loop-digit l = record {
  read : l.value ≡ decimal_value (take l.digit-index l.digits);
  fits : l.value < 2 ^ 128;
}
