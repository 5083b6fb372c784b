use Rattle.std.proofs.Common.{rules}
use Rattle.sym_model.proofs.Conjugates.{count_from-most, count_from-least, count_from-bound}
use Rattle.strip_rules.proofs.complete.rows_from.Goals as goal

pub loop-count-preserved : goal.loop-count-preserved
loop-count-preserved c = search (rules, count_from-least)

pub returns-else-rows-count : goal.returns-else-rows-count
returns-else-rows-count c = search (rules, count_from-most)

pub returns-after-loop-count : goal.returns-after-loop-count
returns-after-loop-count c = search (rules, count_from-bound)
