use Rattle.std.proofs.Common.{◌≡◌, ◌<◌, ◌+◌, arith}
use Rattle.expansion_printer.proofs.GatheringLaws.{Gathers-as}
use Rattle.sym_model.specs.Partition.{part}
use Rattle.expansion_printer.proofs.RowTexts.{row_text-some}
use Rattle.expansion_printer.proofs.rows.put_row.Goals as goal

pub returns : goal.returns
returns g c =
    let filling = c.args.filling.now in
    let outer = g.E.Entries.outer filling in
    let inner = g.E.Entries.inner filling in
    let left : c.part-left.result ≡ part inner (c.args.at + 1) = cc in
    let right : c.part-right.result ≡ part outer (c.args.at + 1) = cc in
    let some : part inner (c.args.at + 1) < part outer (c.args.at + 1) = omega arith in
    Gathers-as (row_text-some (g.E.Entries.entry filling) outer inner (c.args.at + 1) some)
    c.put_entries.ensures
