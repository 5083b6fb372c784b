use Rattle.std.proofs.Common.{◌≡◌, ℕ, ◌<◌, List, get_or, arith, suc, ◌+◌, ◌-◌, add-one, subst, sym}
use Rattle.std.proofs.Common.{ap, ◌∙◌}
use Rattle.sym_model.specs.Partition.{without_last_zeros}
use Rattle.sym_model.specs.Slide.{lowered_at}
use Rattle.partitions.proofs.LoweredParts.{HasCells-lowered}
use Rattle.partitions.proofs.partition.Partition.remove_corner.Goals as goal

pub invariant_of-self : goal.invariant_of-self
invariant_of-self c =
    let parts = c.self.inside.parts.items in
    let row : c.from.result ≡ c.args.row = c.from.ensures in
    let place : c.from.result - 1 + 1 ≡ suc (c.from.result - 1) = add-one (c.from.result - 1) in
    let start : c.args.row - 1 ≡ c.from.result - 1 = omega arith in
    let next : c.args.row + 1 - 1 ≡ suc (c.from.result - 1) = omega arith in
    let view = λ (xs : List ℕ). get_or xs (c.args.row + 1 - 1) 0 < get_or xs (c.args.row - 1) 0 in
    let corner : get_or parts (suc (c.from.result - 1)) 0 < get_or parts (c.from.result - 1) 0 =
    subst (λ i. get_or parts i 0 < get_or parts (c.from.result - 1) 0) next
    (subst (λ i. get_or parts (c.args.row + 1 - 1) 0 < get_or parts i 0) start
    (subst view (sym c.self.view_is) c.requires.corner)) in
    HasCells-lowered parts c.lower_last.new.parts.items (c.from.result - 1) c.self.inside.cells
    c.self.invariant corner
    (c.lower_last.ensures ∙ ap (λ i. without_last_zeros (lowered_at i parts)) place)
