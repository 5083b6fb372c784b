use Rattle.std.proofs.Common.{◌≡◌, ℕ, List, sym, ap, ◌∙◌, subst, arith, rules}
use Rattle.std.specs.Prelude.{slice_index}
use Rattle.sym_model.specs.Partition.{Falls, size}
use Rattle.expansion_printer.specs.ReadingPlaces.{HasReadingPlaces}
use Rattle.expansion_printer.proofs.ReadingCells.{places-told}
use Rattle.expansion_printer.proofs.reading.ReadingOrder.new.Goals as goal

pub invariant_of-result : goal.invariant_of-result
invariant_of-result c =
    let shape = c.args.shape in
    let numbers = c.deref.result.now in
    let cells : c.size.result ≡ size shape.0 = cc in
    let falls : Falls shape.0 = search rules in
    subst HasReadingPlaces (sym c.in_ok-places.ensures)
    (places-told shape.0 shape.1 numbers falls
    (λ i below. ap (λ (l : List ℕ). slice_index l i) c.deref.ensures.value ∙ c.in_ok-numbers.ensures
    i (omega (arith, cells))))
