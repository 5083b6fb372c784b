use Rattle.std.proofs.Common.{◌≡◌, ◌<◌, length, take, get_or}
use Rattle.lattice_rows.specs.LatticeRows.{AreBounds}
use Rattle.lattice_rows.proofs.lattice_row.bounds_of.Given as goal

abbrev pub invariant-loop-at : goal.invariant-loop-at
invariant-loop-at l = record {
  room_long : length l.room ≡ 8;
  least_long : length l.least ≡ 9;
  greatest_long : length l.greatest ≡ 9;
  bounds : AreBounds l.letters l.at l.outside (take l.letters l.content) l.start.content (take l.letters l.start.ends) l.room l.least l.greatest;
  small : get_or l.greatest l.at 0 < 256;
}
