use Rattle.std.proofs.Common.{subst}
use Rattle.std.specs.Prelude.{IfOk, IfSome}
use Rattle.schur_laws.proofs.ProductCounts.{product_exchanged}
use Rattle.lr_product.specs.Capped.{Agree}
use Rattle.lr_product.proofs.coefficient.count_in_few_letters.Goals as goal

pub returns-then-rows : goal.returns-then-rows
returns-then-rows c =
    record {
      agrees = subst (λ n. IfOk c.count_in_rows.result (λ o. IfSome o (λ count. Agree count n)))
          (product_exchanged c.args.content.now c.args.inner.now c.args.outer.now c.rows-2.ensures.limits.partition
          c.rows.ensures.limits.partition c.requires.shape) c.count_in_rows.ensures.agrees;
    }
