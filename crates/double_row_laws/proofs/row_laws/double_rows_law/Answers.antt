use Rattle.double_row_laws.proofs.DoubleRowsFromOne.{double_rows_start, double_rows_start_none, next_double_row, double_rows_none, double_rows_end}
use Rattle.double_row_laws.proofs.FreeRows.{within_double_row}
use Rattle.double_row_laws.proofs.ShortLetters.{row_by_short_letters}
use Rattle.double_row_laws.proofs.SweptRowsFromOne.{row_by_letters, within_letters}
use Rattle.double_row_laws.proofs.row_laws.double_rows_law.Goals as goal

pub returns : goal.returns
returns c = record {
  start = double_rows_start;
  start_none = double_rows_start_none;
  row = next_double_row;
  none = double_rows_none;
  none_within = within_double_row;
  letters = row_by_letters;
  short_letters = row_by_short_letters;
  none_within_letters = within_letters;
  end = double_rows_end;
}
