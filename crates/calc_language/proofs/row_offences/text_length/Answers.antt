use Rattle.std.proofs.Common.{rules}
use Rattle.calc_language.proofs.RowJudging.{rows_next, further_length}
use Rattle.calc_language.proofs.row_offences.text_length.Goals as goal

pub overflow_add-words-in-loop-row : goal.overflow_add-words-in-loop-row
overflow_add-words-in-loop-row c = search (rules, rows_next, further_length)

pub loop-row-preserved : goal.loop-row-preserved
loop-row-preserved c = search (rules, rows_next, further_length)
