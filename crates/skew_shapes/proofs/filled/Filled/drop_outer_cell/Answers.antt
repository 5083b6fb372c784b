use Rattle.std.proofs.Common.{ℕ, ◌<◌, ◌-◌, List, length, refl, sym, subst, rules}
use Rattle.sym_model.specs.Partition.{part}
use Rattle.sym_model.specs.Slide.{HasInnerCorner}
use Rattle.sym_model.specs.Tableau.{SkewFilling}
use Rattle.sym_model.proofs.Parts.{positive_within}
use Rattle.skew_shapes.specs.Rows.{IsKept}
use Rattle.skew_shapes.proofs.KeptRows.{HasPlaces-lowered, IsSkew-outer_lowered, filling_in-dropped}
use Rattle.skew_shapes.proofs.filled.Filled.drop_outer_cell.Goals as goal

pub invariant_of-self : goal.invariant_of-self
invariant_of-self c =
    let shape = c.self.inside.shape in
    let starts = c.self.inside.starts.items in
    let numbers = c.self.inside.numbers.items in
    let corner = subst (λ (t : SkewFilling). HasInnerCorner c.args.row t.outer) (sym c.self.view_is)
    c.requires.corner in
    let cell = subst (λ (t : SkewFilling). part t.inner c.args.row < part t.outer c.args.row)
    (sym c.self.view_is) c.requires.cell in
    let now : IsKept _ c.self.inside.starts.items c.self.inside.numbers.items = record {
      skew = IsSkew-outer_lowered shape.0 shape.1 _ c.args.row c.self.invariant.skew corner cell
          refl;
      places = HasPlaces-lowered starts shape.0 c.args.row (length numbers) corner.0
          c.self.invariant.places;
    } in
    subst (λ (s : List ℕ × List ℕ). IsKept s starts numbers) (sym c.remove_outer_corner.ensures) now

pub returns : goal.returns
returns c = search (rules, positive_within, filling_in-dropped)
