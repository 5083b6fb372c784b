use Rattle.std.proofs.Common.{rules}
use Rattle.expansion_printer.proofs.RowTexts.{Gathers-behind}
use Rattle.expansion_printer.proofs.rows.put_next_row.Goals as goal

pub returns : goal.returns
returns g c = search (rules, Gathers-behind)
