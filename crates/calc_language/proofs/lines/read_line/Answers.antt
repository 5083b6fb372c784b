use Rattle.sym_model.specs.BatchLine.{batch_line}
use Rattle.calc_language.proofs.LineCommands.{within, line_accepts, line_refuses, line_wrong}
use Rattle.calc_language.proofs.lines.read_line.Goals as goal

pub returns-clause-within : goal.returns-clause-within
returns-clause-within c = within (batch_line c.args.line.now) c.read.result c.read.ensures

pub returns-clause-accepts : goal.returns-clause-accepts
returns-clause-accepts c = line_accepts (batch_line c.args.line.now) c.read.result c.read.ensures

pub returns-clause-refuses : goal.returns-clause-refuses
returns-clause-refuses c = line_refuses (batch_line c.args.line.now) c.read.result c.read.ensures

pub returns-clause-goes_wrong : goal.returns-clause-goes_wrong
returns-clause-goes_wrong c = line_wrong (batch_line c.args.line.now) c.read.result c.read.ensures
