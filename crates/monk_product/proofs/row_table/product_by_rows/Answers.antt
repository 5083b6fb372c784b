use Rattle.std.proofs.Common.{length, sym, ap, ◌∙◌, subst, take, get_or, arith}
use Rattle.linear_combinations.proofs.Labels.{same_partition}
use Rattle.monk_product.specs.RowPaths.{AreValues, signed_by}
use Rattle.monk_product.proofs.RowTables.{last_value, signed_in, signs_cancel}
use Rattle.monk_product.proofs.row_table.product_by_rows.Goals as goal

pub loop-i-preserved : goal.loop-i-preserved
loop-i-preserved c =
    c.in_ok-table-2.ensures (signed_by c.args.v.now c.args.u.now) c.args.path.now.rows.items
    (signed_in c.args.v.now c.args.u.now) c.requires.within
    (ap (λ l. get_or l c.loop-i.i 0) (sym c.deref-cells-items.ensures.value))
    (subst (AreValues (signed_by c.args.v.now c.args.u.now) c.args.path.now.letters
    (take c.loop-i.i c.args.path.now.rows.items)) (sym c.deref.ensures.value) c.loop-i.invariant)

pub returns-in-Some : goal.returns-in-Some
returns-in-Some c =
    let l = ap length c.deref-cells-items.ensures.value in
    record {
      value = signs_cancel c.args.v.now c.args.u.now c.args.path.now.rows.items
          c.args.path.now.end c.args.path.now.letters c.in-Some.entry.sum c.requires
          (last_value (signed_by c.args.v.now c.args.u.now) c.args.path.now.letters c.loop-i.i
          c.args.path.now.rows.items c.args.path.now.end c.loop-i.table.items
          c.pop.new.self.items c.in-Some.entry c.loop-i.invariant (omega arith)
          c.in-Some.ensures.items
          (same_partition c.in-Some.entry.perm c.args.path.now.end (sym c.eq.ensures ∙ c.if-eq.true)));
    }
