use Rattle.expansion_printer.specs.Answers.{kind_of, plain_answer}
use Rattle.block_reader.proofs.BlockReadings.{not_printed}
use Rattle.block_reader.proofs.read.read_back.Goals as goal

pub returns-clause-not_printed : goal.returns-clause-not_printed
returns-clause-not_printed c =
    λ refused. not_printed (kind_of c.args.kind) c.args.text.now
    (plain_answer c.in_ok-answer.answer) c.in_ok-answer.ensures.1
    (c.checked.ensures.not_printed refused)
