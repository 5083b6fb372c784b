use Rattle.std.proofs.Common.{ℕ, ◌-◌, ◌≤◌, List, length, drop, ap, subst, arith}
use Rattle.std.specs.Prelude.{IfSome}
use Rattle.sym_model.specs.Partition.{size}
use Rattle.linear_combinations.proofs.Steps.{if_answered}
use Rattle.lr_product.specs.Capped.{Agree}
use Rattle.lr_product.specs.StateCounts.{StateCounts}
use Rattle.lr_product.specs.WeighedSum.{weighed, VanishesOutside}
use Rattle.lr_product.specs.RowExtension.{over_rows, VanishesBelow}
use Rattle.lr_product.proofs.Agreeing.{agree_then, agree_same}
use Rattle.lr_product.proofs.RowRounds.{weighed_rows, last_row}
use Rattle.lr_product.proofs.rows.with_shape.Goals as goal

pub returns-then-is_faster_by_rows-clause-ways : goal.returns-then-is_faster_by_rows-clause-ways
returns-then-is_faster_by_rows-clause-ways c f v b =
    let n = c.args.letters in
    let outer = c.args.outer.now in
    let inner = c.args.inner.now in
    let rows = length c.parts-rows.result.now in
    let whole : length outer ≤ rows = omega (arith, ap length c.parts-rows.ensures.value) in
    agree_then _ _ _
    (last_row n rows outer inner c.args.starts.entries c.in-Some.table.entries f whole
    (subst (λ o. IfSome o (λ (table : StateCounts). (g : List ℕ → ℕ)
    → VanishesOutside c.args.bound.now (λ ν right. g ν)
    → VanishesBelow n 0 c.args.bound.now (λ ν right. g ν)
    → Agree (weighed n (over_rows n (drop rows outer) (drop rows inner) (λ ν right. g ν)) table.entries)
    (weighed n (over_rows n outer inner (λ ν right. g ν)) c.args.starts.entries))) c.in-Some.is
    c.in_ok-all.ensures.ways f v b))
    (agree_same _ _ (weighed_rows n (4096 - size outer) outer inner f c.args.starts.entries
    c.if-letters-gt0.true c.is_faster_by_rows.ensures.shape.falls
    c.requires.inside c.requires.fresh c.requires.reached))

pub returns-clause-ways : goal.returns-clause-ways
returns-clause-ways c =
    if_answered c.with_columns.result c.with_columns.ensures.ways (λ table ways f v b. ways f v)
