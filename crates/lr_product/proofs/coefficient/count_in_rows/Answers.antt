use Rattle.std.proofs.Common.{◌≡◌, [], length, ap₂, subst, ◌∙◌, List, ℕ, true}
use Rattle.std.specs.Prelude.{Result, Option, IfOk, IfSome}
use Rattle.sym_model.specs.Partition.{IsPartition, rows}
use Rattle.sym_model.specs.Polynomial.{resize}
use Rattle.sym_model.specs.Schur.{contains}
use Rattle.sym_model.specs.GoodTableau.{product_count}
use Rattle.tableau_laws.specs.ColumnFold.{column_lines}
use Rattle.lr_product.specs.Capped.{Agree}
use Rattle.lr_product.specs.WeighedSum.{over_states, comes_to}
use Rattle.lr_product.proofs.Sums.{states-shape}
use Rattle.lr_product.proofs.coefficient.count_in_rows.Goals as goal

by_shape : {E : Type 0} (r : Result (Option ℕ) E) (inner content outer parts inside : List ℕ) → parts ≡ content → inside ≡ inner → IsPartition inner
    → IsPartition content → IsPartition outer → contains outer inner ≡ true
    → IfOk r (λ o. IfSome o (λ count. Agree count (over_states (length parts) (column_lines outer inside) (comes_to parts) (resize (length parts) []) [])))
    → IfOk r (λ o. IfSome o (λ count. Agree count (product_count (rows outer) inner content outer)))
by_shape r inner content outer parts inside p i a b c h f =
    subst (λ n. IfOk r (λ o. IfSome o (λ count. Agree count n)))
    (ap₂ (λ (q t : List ℕ). over_states (length q) (column_lines outer t) (comes_to q) (resize (length q) []) []) p i
    ∙ states-shape inner content outer a b c h) f

pub returns : goal.returns
returns c =
    record {
      agrees = by_shape c.count_by_rows.result c.args.inner.now c.args.content.now c.args.outer.now c.parts-2.result.now
          c.parts.result.now c.parts-2.ensures.value c.parts.ensures.value c.parts.ensures.limits.partition
          c.parts-2.ensures.limits.partition c.requires.shape c.requires.inside c.count_by_rows.ensures.agrees;
    }
