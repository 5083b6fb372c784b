use Rattle.std.proofs.Common.{ap}
use Rattle.std.specs.Prelude.{Err}
use Rattle.linear_combinations.proofs.Steps.{error_is}
use Rattle.strip_rules.proofs.RowTables.{product-at, product-large}
use Rattle.strip_rules.proofs.Values.{complete_value}
use Rattle.strip_rules.proofs.complete.times_complete.Goals as goal

pub returns-in_err-add_by-clause-large : goal.returns-in_err-add_by-clause-large
returns-in_err-add_by-clause-large c = λ large.
    product-large c.args.k c.args.list.now c.new-product.result c.new-product.ensures
    (c.in_err-add_by.ensures.large (ap Err (error_is _ _ _ c.from_residual.ensures.1 large)))

pub returns-clause-value : goal.returns-clause-value
returns-clause-value c = complete_value c.args.k c.args.list.now c.add_by.new.self
    (λ ν p.
    product-at c.args.k ν p c.args.list.now c.new-product.result c.add_by.new.self
    c.new-product.ensures c.in_ok-add_by.ensures.gains)
