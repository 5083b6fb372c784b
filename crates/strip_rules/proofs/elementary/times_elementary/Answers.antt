use Rattle.std.proofs.Common.{ap, ◌∙◌}
use Rattle.std.specs.Prelude.{Err}
use Rattle.linear_combinations.specs.Gains.{replaced}
use Rattle.linear_combinations.proofs.Found.{coefficient_gained, mass_overflows}
use Rattle.linear_combinations.proofs.Steps.{error_is}
use Rattle.sparse_polys.specs.Tables.{equal}
use Rattle.strip_rules.specs.Columns.{column_terms}
use Rattle.strip_rules.proofs.ColumnSums.{product_value, product_large}
use Rattle.strip_rules.proofs.Values.{elementary_value}
use Rattle.strip_rules.proofs.elementary.times_elementary.Goals as goal

pub returns-clause-value : goal.returns-clause-value
returns-clause-value c = elementary_value c.args.k c.args.list.now c.add_by.new.self
    (λ ν q.
    coefficient_gained c.new-product.result (replaced (column_terms c.args.k) c.args.list.now)
    c.add_by.new.self ν c.new-product.ensures c.in_ok-add_by.ensures.gains
    ∙ product_value c.args.k c.args.list.now ν (λ t m. (c.requires t m).partition) q)

pub returns-in_err-add_by-clause-large : goal.returns-in_err-add_by-clause-large
returns-in_err-add_by-clause-large c err =
    let o = mass_overflows equal c.new-product.result
    (replaced (column_terms c.args.k) c.args.list.now) c.new-product.ensures
    (c.in_err-add_by.ensures.large (ap Err (error_is _ _ _ c.from_residual.ensures.1 err))) in
    product_large c.args.k c.args.list.now o.0 (λ t m. (c.requires t m).partition) o.1
