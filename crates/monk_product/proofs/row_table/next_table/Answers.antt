use Rattle.std.proofs.Common.{◌+◌, take, sym, subst}
use Rattle.monk_product.specs.RowPaths.{AreValues}
use Rattle.monk_product.specs.RowProducts.{IsValueAt}
use Rattle.monk_product.proofs.RowTables.{values_none, values_push}
use Rattle.monk_product.proofs.row_table.next_table.Goals as goal

pub loop-q-init : goal.loop-q-init
loop-q-init c = λ s rows j w e h. subst (AreValues s c.args.n (take (c.args.i + 1) rows)) (sym c.in_ok-next.ensures.items) (values_none s c.args.n (take (c.args.i + 1) rows))

pub loop-q-preserved : goal.loop-q-preserved
loop-q-preserved c = λ s rows j w e h.
    subst (AreValues s c.args.n (take (c.args.i + 1) rows)) (sym c.in_ok-push.ensures.items)
    (values_push s c.args.n (take (c.args.i + 1) rows) c.loop-q.next.items _
    (c.loop-q.invariant s rows j w e h)
    (subst (λ q. IsValueAt s c.args.n (take (c.args.i + 1) rows) q c.in_ok-next_value.field-0)
    (sym c.in_ok-copy.ensures.ok) (c.in_ok-next_value.ensures s rows j w e h)))
