use Rattle.std.proofs.Common.{subst, Option}
use Rattle.sym_model.specs.BatchLine.{batch_line}
use Rattle.calc_app.specs.Batch.{ComesOfLine}
use Rattle.calc_replies.specs.declared.outcome.Outcome.{Outcome}
use Rattle.calc_app.proofs.WorkSums.{add_some, add_none}
use Rattle.calc_app.proofs.workload.add_line.Goals as goal

pub returns-in-Some : goal.returns-in-Some
returns-in-Some c =
    add_some (batch_line c.args.line.now) c.in-Some.outcome c.add_block.result c.args.sums.now
    c.add_block.new.sums
    (subst (λ (o : Option Outcome). ComesOfLine (batch_line c.args.line.now) o) c.in-Some.is
    c.in_ok-outcome.ensures)
    c.add_block.ensures.sums c.add_block.ensures.small c.add_block.ensures.printable

pub returns-in-None : goal.returns-in-None
returns-in-None c =
    add_none (batch_line c.args.line.now) c.args.sums.now
    (subst (λ (o : Option Outcome). ComesOfLine (batch_line c.args.line.now) o) c.in-None.is
    c.in_ok-outcome.ensures) c.requires.small
