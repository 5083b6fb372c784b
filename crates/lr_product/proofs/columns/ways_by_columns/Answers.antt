use Rattle.std.proofs.Common.{refl, arith, rules}
use Rattle.tableau_laws.specs.ColumnFold.{column_lines}
use Rattle.linear_combinations.proofs.Steps.{if_answered}
use Rattle.lr_product.specs.WeighedSum.{over_states}
use Rattle.lr_product.specs.RowExtension.{begun}
use Rattle.lr_product.proofs.Agreeing.{agree_then}
use Rattle.lr_product.proofs.Rounds.{agree_zero, first_reached}
use Rattle.lr_product.proofs.columns.ways_by_columns.Goals as goal

pub with_shape-requires-clause-size : goal.with_shape-requires-clause-size
with_shape-requires-clause-size c = omega (arith, c.requires.size)

pub with_shape-requires-clause-fresh : goal.with_shape-requires-clause-fresh
with_shape-requires-clause-fresh c = agree_zero _ _ (c.in_ok-starts.ensures begun) refl

pub with_shape-requires-clause-reached : goal.with_shape-requires-clause-reached
with_shape-requires-clause-reached c = search (rules, first_reached)

pub returns-clause-ways : goal.returns-clause-ways
returns-clause-ways c =
    if_answered c.with_shape.result c.with_shape.ensures.ways
    (λ table ways f v b. agree_then _ _ _ (ways f v b)
    (c.in_ok-starts.ensures (over_states c.args.letters
    (column_lines c.args.outer.now c.args.inner.now) (λ ν right. f ν))))
