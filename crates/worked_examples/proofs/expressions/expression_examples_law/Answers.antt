use Rattle.std.proofs.Common.{refl, rules}
use Rattle.std.specs.Prelude.{codes}
use Rattle.sym_model.specs.Phrase.{plus, minus, numeral, minus_first, operation}
use Rattle.worked_examples.proofs.expressions.expression_examples_law.Goals as goal

pub returns-clause-grouping : goal.returns-clause-grouping
returns-clause-grouping c = (
  operation plus (operation minus (minus_first (numeral (codes "1"))) (numeral (codes "2")))
      (numeral (codes "3")),
  record { allowed = search rules; spelled = refl },
  refl,
)
