-- `parts` lists the lengths of the rows visited so far.
use Rattle.std.proofs.Common.{◌≡◌, map, length, take}
use Rattle.calc_language.proofs.pairs.straight.Given as goal

abbrev pub invariant-loop-row : goal.invariant-loop-row
invariant-loop-row l = l.parts.items ≡ map length (map (λ r. r.items) (take l.row-index l.rows))
