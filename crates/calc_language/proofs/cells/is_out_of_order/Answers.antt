use Rattle.std.proofs.Common.{rules}
use Rattle.calc_language.proofs.CellJudging.{disordered_read}
use Rattle.calc_language.proofs.cells.is_out_of_order.Goals as goal

pub returns-then-is_smaller : goal.returns-then-is_smaller
returns-then-is_smaller c = search (rules, disordered_read)

pub returns-else-is_smaller : goal.returns-else-is_smaller
returns-else-is_smaller c = search (rules, disordered_read)
