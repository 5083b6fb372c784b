use Rattle.std.proofs.Common.{◌<◌, length, sym, ◌∙◌}
use Rattle.std.proofs.lemmas.Result.{on_ok_weaker}
use Rattle.linear_combinations.proofs.Labels.{same_partition}
use Rattle.monk_product.proofs.RowTables.{entry_gains, entry_there}
use Rattle.monk_product.proofs.row_table.add_summand.Goals as goal

pub returns-then-eq : goal.returns-then-eq
returns-then-eq c =
    let e = c.index-table-at.result in
    let inside : c.in-Ok.at < length c.args.table.now = c.in-Ok.ensures.bound in
    on_ok_weaker c.add_elementary_product.result (λ g k φ value h.
    entry_gains k c.args.summand.now.degree c.args.cells c.args.summand.now.coefficient φ value
    c.args.sum.now c.add_elementary_product.new.sum e.sum e.perm c.args.summand.now.perm
    (λ ψ. h e (entry_there c.args.table.now c.in-Ok.at e inside c.index-table-at.is) ψ)
    (same_partition e.perm c.args.summand.now.perm (sym c.eq.ensures ∙ c.if-eq.true)) (g k φ)) c.add_elementary_product.ensures
