use Rattle.std.proofs.Common.{subst, Option, Ok}
use Rattle.calc_words.specs.declared.command.Command.{Command}
use Rattle.calc_language.specs.Lines.{IsLineRead}
use Rattle.sym_model.specs.BatchLine.{batch_line}
use Rattle.calc_app.proofs.Batches.{line_reply}
use Rattle.calc_app.proofs.LinesAlone.{read_alone, read_sound}
use Rattle.calc_app.proofs.batch.line_outcome.Goals as goal

pub returns-in_ok-outcome-in-Ok-Some : goal.returns-in_ok-outcome-in-Ok-Some
returns-in_ok-outcome-in-Ok-Some c =
    line_reply (batch_line c.args.line.now) c.in-Ok-Some.command c.in_ok-outcome-in-Ok-Some.outcome
    (subst (λ (o : Option Command). IsLineRead (batch_line c.args.line.now) (Ok o))
    c.in-Ok-Some.field-0-is c.in-Ok-Some.ensures.read) c.in_ok-outcome-in-Ok-Some.ensures

pub reply_once-requires-clause-alone : goal.reply_once-requires-clause-alone
reply_once-requires-clause-alone c =
    read_alone (batch_line c.args.line.now) c.in-Ok-Some.command
    (subst (λ (o : Option Command). IsLineRead (batch_line c.args.line.now) (Ok o))
    c.in-Ok-Some.field-0-is c.in-Ok-Some.ensures.read)

pub reply_once-requires-clause-sound : goal.reply_once-requires-clause-sound
reply_once-requires-clause-sound c =
    read_sound (batch_line c.args.line.now) c.in-Ok-Some.command
    (subst (λ (o : Option Command). IsLineRead (batch_line c.args.line.now) (Ok o))
    c.in-Ok-Some.field-0-is c.in-Ok-Some.ensures.read)
