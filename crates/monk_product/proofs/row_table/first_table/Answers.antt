use Rattle.std.proofs.Common.{[], ◌∷◌, ◌++◌, sym, subst, ap, ap₂, ◌∙◌, ◌*ℤ◌}
use Rattle.sym_model.specs.PlaceOrders.{minus_one_to}
use Rattle.linear_combinations.specs.Gains.{Gains}
use Rattle.monk_product.specs.RowPaths.{AreValues, signed_by}
use Rattle.monk_product.specs.declared.row_table.Entry.{Entry}
use Rattle.monk_product.proofs.RowTables.{first_value, values_none, values_push}
use Rattle.monk_product.proofs.row_table.first_table.Goals as goal

pub returns : goal.returns
returns c =
    let e : Entry = record { perm = c.in_ok-longest.field-0; sum = c.add_owned.new.self } in
    subst (AreValues (signed_by c.args.v.now c.args.u.now) c.args.n []) (sym (c.in_ok-push.ensures.items ∙ ap (λ l. l ++ e ∷ []) c.in_ok-table.ensures.items))
    (values_push (signed_by c.args.v.now c.args.u.now) c.args.n [] [] e
    (values_none (signed_by c.args.v.now c.args.u.now) c.args.n [])
    (first_value c.args.v.now c.args.u.now c.in_ok-longest.field-0 c.args.n c.in_ok-sign.sign c.add_owned.new.self
    c.in_ok-longest.ensures (c.in_ok-sign.ensures ∙ ap₂ (λ m o. minus_one_to m *ℤ o) (c.from-2.ensures ∙ c.inversions.ensures.value) c.one.ensures.one)
    (subst (λ w. Gains [] ((w, c.in_ok-sign.sign) ∷ []) c.add_owned.new.self) c.of.ensures
    (subst (λ l. Gains l ((c.of.result, c.in_ok-sign.sign) ∷ []) c.add_owned.new.self) c.new-sum.ensures c.in_ok-add_owned.ensures.gains))))
