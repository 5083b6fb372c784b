use Rattle.std.proofs.Common.{◌≡◌, length, take}
use Rattle.lattice_rows.proofs.lattice_rows.bytes_of.Given as goal

abbrev pub invariant-loop-at : goal.invariant-loop-at
invariant-loop-at l = record {
  taken : l.bytes.items ≡ take l.at l.numbers;
  end : l.at-end ≡ length l.numbers;
}
