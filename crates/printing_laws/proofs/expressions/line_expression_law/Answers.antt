use Rattle.std.proofs.Common.{rules}
use Rattle.printing_laws.proofs.LineExpressions.{is_expression}
use Rattle.printing_laws.proofs.expressions.line_expression_law.Goals as goal

pub returns-clause-expansions : goal.returns-clause-expansions
returns-clause-expansions c basis terms canonical printable = search (rules, is_expression)

pub returns-clause-products : goal.returns-clause-products
returns-clause-products c basis terms canonical printable = search (rules, is_expression)
