use Rattle.std.proofs.Common.{rules}
use Rattle.strip_rules.proofs.BeadSums.{shapes_of_one}
use Rattle.strip_rules.proofs.family_products.one.Goals as goal

pub returns-clause-value : goal.returns-clause-value
returns-clause-value c = search (rules, shapes_of_one)
