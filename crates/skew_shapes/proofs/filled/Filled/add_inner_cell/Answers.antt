use Rattle.std.proofs.Common.{◌≡◌, ℕ, List, [], length, refl, ap, ap₂, sym, subst, ◌∙◌, arith, rules}
use Rattle.std.proofs.Math.ListN.{set}
use Rattle.std.proofs.lemmas.List.{length-set}
use Rattle.sym_model.specs.Partition.{IsCell, part, without_last_zeros}
use Rattle.sym_model.specs.Slide.{HasInnerCorner, lowered_at}
use Rattle.sym_model.specs.Tableau.{SkewFilling}
use Rattle.strip_laws.proofs.Containment.{contains-tells}
use Rattle.skew_shapes.specs.CellFillings.{with_inner_cell}
use Rattle.skew_shapes.specs.Rows.{IsKept, HasPlaces, place_of, filling_in}
use Rattle.skew_shapes.proofs.KeptRows.{IsSkew-inner_lowered, filling_in-added, place_within}
use Rattle.skew_shapes.proofs.KeptRows.{row_within}
use Rattle.skew_shapes.proofs.filled.Filled.add_inner_cell.Goals as goal

corner_cell :
    (shape : List ℕ × List ℕ) (starts numbers : List ℕ) (row : ℕ) → IsKept shape starts numbers →
    HasInnerCorner row shape.1
    → IsCell shape.0 [] row (part shape.1 row)
corner_cell shape starts numbers row kept corner = search (rules, contains-tells)

pub place-place-requires-clause-row : goal.place-place-requires-clause-row
place-place-requires-clause-row c =
    let shape = c.self.inside.shape in
    let starts = c.self.inside.starts.items in
    let numbers = c.self.inside.numbers.items in
    let corner = subst (λ (t : SkewFilling). HasInnerCorner c.args.row t.inner) (sym c.self.view_is)
    c.requires in
    let cell = corner_cell shape starts numbers c.args.row c.self.invariant corner in
    let within = row_within starts shape.0 [] (length numbers) c.args.row _ c.self.invariant.places
    cell in
    (corner.0, omega (arith, c.deref.ensures.value, ap length c.deref.ensures.value))

pub index_mut-requires : goal.index_mut-requires
index_mut-requires c =
    let shape = c.self.inside.shape in
    let starts = c.self.inside.starts.items in
    let numbers = c.self.inside.numbers.items in
    let corner = subst (λ (t : SkewFilling). HasInnerCorner c.args.row t.inner) (sym c.self.view_is)
    c.requires in
    let cell = corner_cell shape starts numbers c.args.row c.self.invariant corner in
    let column : c.part.result ≡ part c.self.inside.shape.1 c.args.row = c.part.ensures.value
    ∙ ap (λ xs. part xs c.args.row) c.inner.ensures.value in
    let place = c.place-place.ensures ∙ ap₂ (λ s p. place_of s c.args.row p) c.deref.ensures.value
    column in
    omega (
      arith,
      place,
      place_within starts shape.0 [] (length numbers) c.args.row
          (part shape.1 c.args.row) c.self.invariant.places cell,
    )

pub invariant_of-self : goal.invariant_of-self
invariant_of-self c =
    let shape = c.self.inside.shape in
    let starts = c.self.inside.starts.items in
    let numbers = c.self.inside.numbers.items in
    let corner = subst (λ (t : SkewFilling). HasInnerCorner c.args.row t.inner) (sym c.self.view_is)
    c.requires in
    let long : length c.self.inside.numbers.items ≡ length (set c.self.inside.numbers.items
    c.place-place.result 0) =
    sym (length-set numbers c.place-place.result 0) in
    let now : IsKept (
      c.self.inside.shape.0,
      without_last_zeros
          (lowered_at c.args.row c.self.inside.shape.1),
    ) c.self.inside.starts.items
    (set c.self.inside.numbers.items c.place-place.result 0) = record {
      skew = IsSkew-inner_lowered shape.0 shape.1 _ c.args.row c.self.invariant.skew corner refl;
      places = subst (HasPlaces starts shape.0) long c.self.invariant.places;
    } in
    subst (λ (s : List ℕ × List ℕ). IsKept s starts (set numbers c.place-place.result 0))
    (sym c.remove_inner_corner.ensures) now

pub returns : goal.returns
returns c =
    let shape = c.self.inside.shape in
    let starts = c.self.inside.starts.items in
    let numbers = c.self.inside.numbers.items in
    let corner = subst (λ (t : SkewFilling). HasInnerCorner c.args.row t.inner) (sym c.self.view_is)
    c.requires in
    let cell = corner_cell shape starts numbers c.args.row c.self.invariant corner in
    let column : c.part.result ≡ part c.self.inside.shape.1 c.args.row = c.part.ensures.value
    ∙ ap (λ xs. part xs c.args.row) c.inner.ensures.value in
    let place = c.place-place.ensures ∙ ap₂ (λ s p. place_of s c.args.row p) c.deref.ensures.value
    column in
    ap₂ (λ (s : List ℕ × List ℕ) n. filling_in s starts (set numbers n 0))
    c.remove_inner_corner.ensures place
    ∙ filling_in-added shape starts numbers c.args.row c.self.invariant.places cell
    ∙ ap (λ (t : SkewFilling). with_inner_cell t c.args.row) c.self.view_is
