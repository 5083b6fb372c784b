use Rattle.std.proofs.Common.{◌≡◌, ◌+◌, ◌-◌, ◌^◌, ◌≤◌, [], drop}
use Rattle.sparse_polys.specs.Ways.{capped, ways}
use Rattle.sparse_polys.proofs.search.ways_to_end.Given as goal

abbrev pub invariant-loop-state : goal.invariant-loop-state
invariant-loop-state l = record {
  ends : capped (l.total + ways (drop l.state-index l.states) []) ≡ capped (ways l.states []);
  fits : l.total ≤ 2 ^ 128 - 1;
}
