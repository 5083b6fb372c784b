use Rattle.std.proofs.Common.{List, sym, ap, ◌∙◌, Some, length}
use Rattle.std.specs.Prelude.{slice_get}
use Rattle.std.proofs.lemmas.Bool.{ltb-true}
use Rattle.std.proofs.lemmas.Option.{slice_get-get_or, slice_get_past}
use Rattle.linear_combinations.proofs.terms.Terms.get.Goals as goal

pub returns-clause-term : goal.returns-clause-term
returns-clause-term g c =
    let pair = c.in_ok-label.field-0.now in
    let h = c.in_ok-label.ensures.lookup in
    sym (ap (λ (l : List (g.row.L.Denot × g.row.R.Denot)). slice_get l c.args.i)
    (sym c.self.view_is ∙ sym c.deref.ensures.value)
    ∙ slice_get-get_or c.deref.result.now c.args.i pair
    (ltb-true c.args.i (length c.deref.result.now) (sym h.0)) ∙ ap Some (sym h.1))

pub returns-in_err-label-clause-term : goal.returns-in_err-label-clause-term
returns-in_err-label-clause-term g c =
    let h = c.in_err-label.ensures.lookup in
    let past = sym (ap (λ (l : List (g.row.L.Denot × g.row.R.Denot)). slice_get l c.args.i)
    (sym c.self.view_is ∙ sym c.deref.ensures.value)
    ∙ slice_get_past c.deref.result.now c.args.i h.3) in
    rw c.from_residual.ensures past
