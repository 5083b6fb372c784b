use Rattle.std.proofs.Common.{◌≡◌, length, take}
use Rattle.lattice_rows.proofs.lattice_rows.in_bytes.Given as goal

abbrev pub invariant-loop-at : goal.invariant-loop-at
invariant-loop-at l = record {
  taken : take l.at l.bytes ≡ take l.at l.numbers;
  end : l.at-end ≡ length l.numbers;
  long : length l.bytes ≡ 8;
}
