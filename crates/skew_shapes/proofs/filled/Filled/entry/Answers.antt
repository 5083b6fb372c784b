use Rattle.std.proofs.Common.{◌≡◌, true, get_or, Some, ap, sym, ◌∙◌, arith}
use Rattle.std.proofs.lemmas.List.{get_or_default}
use Rattle.sym_model.specs.Tableau.{SkewFilling}
use Rattle.skew_shapes.specs.CellFillings.{is_cell, entry_at}
use Rattle.skew_shapes.specs.Rows.{place_of}
use Rattle.skew_shapes.proofs.KeptRows.{entry-filling_in, is_cell-tells, place_within}
use Rattle.skew_shapes.proofs.filled.Filled.entry.Goals as goal

pub returns : goal.returns
returns c =
    let shape = c.self.inside.shape in
    let starts = c.self.inside.starts.items in
    let numbers = c.self.inside.numbers.items in
    let cell : is_cell c.self.inside.shape.0 c.self.inside.shape.1 c.args.row c.args.column ≡ true =
    sym c.has_cell.ensures ∙ c.if-not-has_cell.false in
    let place : c.place.result ≡ place_of c.self.inside.starts.items c.args.row c.args.column =
    c.place.ensures ∙ ap (λ s. place_of s c.args.row c.args.column) c.deref.ensures.value in
    let within = place_within starts shape.0 shape.1 _ c.args.row c.args.column
    c.self.invariant.places
    (is_cell-tells shape.0 shape.1 c.args.row c.args.column cell) in
    let number : c.index.result.now ≡ get_or c.self.inside.numbers.items c.place.result 0 =
    c.index.ensures ∙ sym (get_or_default numbers c.place.result 0 c.index.result.now (omega arith))
    in
    ap Some (number ∙ ap (λ n. get_or numbers n 0) place)
    ∙ entry-filling_in shape starts numbers c.args.row c.args.column cell
    ∙ ap (λ (t : SkewFilling). entry_at t c.args.row c.args.column) c.self.view_is
