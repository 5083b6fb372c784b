use Rattle.std.proofs.Common.{◌≡◌, ap, sym, subst, ◌∙◌}
use Rattle.std.proofs.Math.ListN.{set}
use Rattle.sym_model.specs.Partition.{IsCell}
use Rattle.sym_model.specs.Tableau.{SkewFilling}
use Rattle.skew_shapes.specs.CellFillings.{with_entry}
use Rattle.skew_shapes.specs.Rows.{place_of, filling_in}
use Rattle.skew_shapes.proofs.KeptRows.{filling_in-set}
use Rattle.skew_shapes.proofs.filled.Filled.set.Goals as goal

pub returns : goal.returns
returns c =
    let shape = c.self.inside.shape in
    let starts = c.self.inside.starts.items in
    let numbers = c.self.inside.numbers.items in
    let place : c.place-place.result ≡ place_of c.self.inside.starts.items c.args.row c.args.column
    =
    c.place-place.ensures ∙ ap (λ s. place_of s c.args.row c.args.column) c.deref.ensures.value in
    let cell = subst (λ (t : SkewFilling). IsCell t.outer t.inner c.args.row c.args.column)
    (sym c.self.view_is) c.requires in
    ap (λ n. filling_in shape starts (set numbers n c.args.value)) place
    ∙ filling_in-set shape starts numbers c.args.row c.args.column c.args.value
    c.self.invariant.places cell
    ∙ ap (λ (t : SkewFilling). with_entry t c.args.row c.args.column c.args.value) c.self.view_is
