use Rattle.std.proofs.Common.{◌≡◌, ℕ, ◌<◌, length}
use Rattle.std.specs.Prelude.{slice_index}
use Rattle.expansion_printer.proofs.reading.numbers_below.Given as goal

-- element i of the list is i, for each i below the next number, and the list has no further element
abbrev pub invariant-loop-number : goal.invariant-loop-number
invariant-loop-number l = record {
  long : length l.numbers.items ≡ l.number;
  each : (i : ℕ) → i < l.number → slice_index l.numbers.items i ≡ i;
}
