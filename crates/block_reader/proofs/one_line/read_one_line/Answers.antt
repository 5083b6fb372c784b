use Rattle.std.proofs.Common.{◌∙◌, sym, subst}
use Rattle.std.proofs.lemmas.Result.{err_from_is_err_and}
use Rattle.expression_reading.specs.Trees.{basis_of}
use Rattle.expansion_printer.specs.Answers.{kind_of, plain_answer}
use Rattle.block_reader.specs.Lines.{HasAtoms}
use Rattle.block_reader.proofs.LineReadings.{plain_kind-is, refused_line, not_line}
use Rattle.block_reader.proofs.LineReadings.{answered_expression}
use Rattle.block_reader.proofs.one_line.read_one_line.Goals as goal

pub returns-in_err-answer-clause-not_printed : goal.returns-in_err-answer-clause-not_printed
returns-in_err-answer-clause-not_printed c =
    let p = err_from_is_err_and c.from_residual-in_err-answer.result
    c.from_residual-in_err-answer.ensures.1 in
    rw (p.1, p.2) (λ refused. refused_line (basis_of c.args.basis) (kind_of c.args.kind) c.requires
    c.args.text.now c.deref.result.now
    (c.deref.ensures.value ∙ c.in_ok-block.ensures) (c.in_err-answer.ensures.not_printed refused))

pub returns-clause-not_printed : goal.returns-clause-not_printed
returns-clause-not_printed c =
    λ refused. not_line (basis_of c.args.basis) (kind_of c.args.kind) c.requires c.args.text.now
    (plain_answer c.in_ok-answer.answer)
    (plain_kind-is c.in_ok-answer.answer ∙ c.in_ok-answer.ensures.kind)
    c.in_ok-answer.ensures.printable
    (c.in_ok-answer.ensures.prints ∙ c.deref.ensures.value ∙ c.in_ok-block.ensures)
    (c.checked.ensures.not_printed refused)

pub returns-clause-expression : goal.returns-clause-expression
returns-clause-expression c =
    answered_expression (basis_of c.args.basis) c.checked.result c.in_ok-answer.answer
    (subst HasAtoms (sym c.in_ok-answer.ensures.kind) c.requires)
    c.checked.ensures.same c.checked.ensures.printable
