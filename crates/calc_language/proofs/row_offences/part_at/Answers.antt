use Rattle.calc_language.proofs.RowJudging.{part_there, part_past}
use Rattle.std.proofs.Common.{rules}
use Rattle.calc_language.proofs.row_offences.part_at.Goals as goal

pub returns-then-place-parts-clause-value : goal.returns-then-place-parts-clause-value
returns-then-place-parts-clause-value c = search (rules, part_past)

pub returns-clause-value : goal.returns-clause-value
returns-clause-value c = search (rules, part_there)
