use Rattle.std.proofs.Common.{◌-◌, refl, sym, subst, inl, arith}
use Rattle.std.specs.Prelude.{OnOk}
use Rattle.std.specs.Option.{option_to_list}
use Rattle.sym_model.specs.Sum.{Among}
use Rattle.linear_combinations.specs.Gains.{each_with}
use Rattle.linear_combinations.proofs.Masses.{on_both}
use Rattle.monk_product.specs.RowProducts.{GainsExcept}
use Rattle.monk_product.proofs.RowSums.{except_added, except_dropped, ascent_at}
use Rattle.monk_product.proofs.row_summands.Row.add_cover.Goals as goal

pub returns-in-Some : goal.returns-in-Some
returns-in-Some c =
    let v = c.in-Some.v in
    let n = c.args.self.now.letters in
    let m = c.args.self.now.letter - 1 in
    subst (λ o. OnOk c.add_owned.result (GainsExcept n m c.args.sum.now (each_with c.args.c (option_to_list o)) c.add_owned.new.self))
    (sym c.in-Some.is)
    (on_both c.add_owned.result c.add_owned.ensures.gains c.add_owned.ensures.table (λ g t.
    except_added n m c.args.c v c.args.sum.now c.add_owned.new.self g t c.requires.was
    (c.requires.short v (subst (λ o. Among v (option_to_list o)) (sym c.in-Some.is) (inl refl)))))

pub returns-in_default : goal.returns-in_default
returns-in_default c =
    let v = c.in-Some.v in
    let n = c.args.self.now.letters in
    let m = c.args.self.now.letter - 1 in
    let last = c.requires.last in
    let s = c.requires.short v (subst (λ o. Among v (option_to_list o)) (sym c.in-Some.is) (inl refl)) in
    subst (λ o. GainsExcept n m c.args.sum.now (each_with c.args.c (option_to_list o)) c.args.sum.now)
    (sym c.in-Some.is)
    (except_dropped n m c.args.c v c.args.sum.now c.requires.was s (ascent_at m n v s (omega arith) c.requires.few
    (c.has_left_ascent.ensures.0 c.if-not-has_left_ascent.false)))
