use Rattle.std.proofs.Common.{◌≡◌, ◌≤◌, ◌+◌, ◌-◌, length, ap, rules}
use Rattle.std.proofs.Common.{arith}
use Rattle.sym_model.specs.Partition.{part, rows}
use Rattle.sym_model.proofs.Parts.{get_or-le-size}
use Rattle.skew_shapes.specs.Rows.{place_of}
use Rattle.skew_shapes.proofs.KeptRows.{row-kept, row-bounds}
use Rattle.skew_shapes.proofs.filled.Filled.row.Goals as goal
use Rattle.skew_shapes.proofs.filled.Filled.row.Goals.{After-deref-3}

pub overflow_add-part : goal.overflow_add-part
overflow_add-part c = search (rules, get_or-le-size)

pub overflow_add-part-2 : goal.overflow_add-part-2
overflow_add-part-2 c = search (rules, get_or-le-size)

counted : (c : After-deref-3) → (1 ≤ c.args.row) × (c.args.row ≤ rows c.self.inside.shape.0)
counted c = search rules

begins : (c : After-deref-3) → c.place-from.result ≡ place_of c.self.inside.starts.items c.args.row
    (part c.self.inside.shape.1 c.args.row + 1)
begins c = search rules

ends : (c : After-deref-3) → c.place-to.result ≡ place_of c.self.inside.starts.items c.args.row
    (part c.self.inside.shape.0 c.args.row + 1)
ends c = search rules

pub between-requires : goal.between-requires
between-requires c =
    let row = counted c in
    let bounds = row-bounds c.self.inside.shape c.self.inside.starts.items
    c.self.inside.numbers.items c.args.row c.place-from.result c.place-to.result
    c.self.invariant row.0 row.1 (begins c) (ends c) in
    (bounds.0, omega (arith, bounds.1, ap length c.deref-3.ensures.value))

pub returns : goal.returns
returns c = search (rules, row-kept)
