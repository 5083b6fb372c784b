use Rattle.double_schubert_laws.proofs.RowsFromOne.{rows_start, rows_start_none, next_row, rows_none, row_within, code_within, path_start, path_step, rows_end}
use Rattle.double_schubert_laws.proofs.row_laws.diagram_rows_law.Goals as goal

pub returns-clause-start : goal.returns-clause-start
returns-clause-start c = rows_start

pub returns-clause-start_none : goal.returns-clause-start_none
returns-clause-start_none c = rows_start_none

pub returns-clause-row : goal.returns-clause-row
returns-clause-row c = next_row

pub returns-clause-none : goal.returns-clause-none
returns-clause-none c = rows_none

pub returns-clause-none_within : goal.returns-clause-none_within
returns-clause-none_within c = row_within

pub returns-clause-within : goal.returns-clause-within
returns-clause-within c = code_within

pub returns-clause-path_start : goal.returns-clause-path_start
returns-clause-path_start c = path_start

pub returns-clause-path : goal.returns-clause-path
returns-clause-path c = path_step

pub returns-clause-end : goal.returns-clause-end
returns-clause-end c = rows_end
