use Rattle.std.proofs.Common.{◌≡◌, ℕ, suc, ◌-◌, ◌<◌, length, take, get_or}
use Rattle.lattice_rows.specs.LatticeRows.{greatest_end}
use Rattle.lattice_rows.proofs.lattice_row.lowered.Given as goal

abbrev pub invariant-loop-at : goal.invariant-loop-at
invariant-loop-at l = record {
  long : length l.ends ≡ 8;
  done :
      (t : ℕ) → t < l.at
      → get_or l.ends (l.row.letters - suc t) 0
      ≡ greatest_end l.row.letters l.row.below (take l.row.letters l.row.content) (take l.row.letters l.state.content) (take l.row.letters l.state.ends) (suc t);
  end : l.end ≡ greatest_end l.row.letters l.row.below (take l.row.letters l.row.content) (take l.row.letters l.state.content) (take l.row.letters l.state.ends) l.at;
  small : l.end < 256;
}
