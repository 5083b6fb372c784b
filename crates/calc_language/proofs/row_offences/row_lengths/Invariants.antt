use Rattle.std.proofs.Common.{◌≡◌, map, take, length}
use Rattle.calc_language.proofs.row_offences.row_lengths.Given as goal

abbrev pub invariant-loop-row : goal.invariant-loop-row
invariant-loop-row l = l.lengths.items ≡ map (λ r. length r.items) (take l.row-index l.rows)
