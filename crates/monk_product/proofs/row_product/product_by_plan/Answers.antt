use Rattle.linear_combinations.proofs.Steps.{if_answered}
use Rattle.monk_product.proofs.RowTables.{factors_swapped}
use Rattle.monk_product.proofs.row_product.product_by_plan.Goals as goal

pub returns : goal.returns
returns c = record {
  value = if_answered c.product_by_rows-2.result c.product_by_rows-2.ensures.value
      (λ sum h. factors_swapped c.args.u.now c.args.v.now sum h);
}
