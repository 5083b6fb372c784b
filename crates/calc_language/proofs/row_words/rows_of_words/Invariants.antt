use Rattle.std.proofs.Common.{map, length}
use Rattle.std.specs.Prelude.{string_bytes}
use Rattle.calc_language.proofs.CutTableaux.{RowsRead}
use Rattle.calc_language.proofs.row_words.rows_of_words.Given as goal

abbrev pub invariant-loop-more : goal.invariant-loop-more
invariant-loop-more l = RowsRead (map (λ r. map string_bytes r.now) l.rows.items) (map string_bytes l.rest) (map string_bytes l.words)

abbrev pub decreases-loop-more : goal.decreases-loop-more
decreases-loop-more l = length l.rest
