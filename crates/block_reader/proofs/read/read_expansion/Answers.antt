use Rattle.std.proofs.Common.{ap, refl, sym, ◌∙◌}
use Rattle.std.specs.Prelude.{Err}
use Rattle.std.proofs.lemmas.Result.{err_from_is_err_and}
use Rattle.sym_model.specs.Answer.{answer}
use Rattle.sym_model.specs.Kind.{expansion}
use Rattle.sparse_polys.proofs.Tables.{terms-fractions}
use Rattle.block_reader.proofs.BlockReadings.{read-terms, reading-refused}
use Rattle.block_reader.proofs.read.read_expansion.Goals as goal

pub returns-in_err-terms : goal.returns-in_err-terms
returns-in_err-terms c =
    let p = err_from_is_err_and c.from_residual.result c.from_residual.ensures.1 in
    rw (p.1, p.2) (reading-refused expansion c.args.text.now c.in_err-terms.field-0.0
    (λ e. c.in_err-terms.ensures.refused (ap Err e)))

pub returns : goal.returns
returns c = (
  refl,
  λ terms e. ap (answer expansion) (sym (terms-fractions c.in_ok-terms.terms)
      ∙ c.in_ok-terms.ensures.ok ∙ read-terms expansion c.args.text.now terms e),
)
