use Rattle.sym_model.specs.BatchLine.{batch_line}
use Rattle.calc_language.proofs.LineCommands.{within}
use Rattle.calc_language.proofs.lines.read_line_by.Goals as goal

pub returns-clause-within : goal.returns-clause-within
returns-clause-within c = within (batch_line c.args.line.now) c.read.result c.read.ensures
