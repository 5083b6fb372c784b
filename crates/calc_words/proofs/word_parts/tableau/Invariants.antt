use Rattle.std.proofs.Common.{map, length}
use Rattle.std.specs.Prelude.{string_bytes}
use Rattle.word_laws.proofs.CutRows.{RowsPassed}
use Rattle.calc_words.proofs.word_parts.tableau.Given as goal

abbrev pub invariant-loop-more : goal.invariant-loop-more
invariant-loop-more l = RowsPassed (map string_bytes l.rest) (map string_bytes l.words)

abbrev pub decreases-loop-more : goal.decreases-loop-more
decreases-loop-more l = length l.rest
