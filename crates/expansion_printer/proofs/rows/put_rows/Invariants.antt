use Rattle.std.proofs.Common.{map}
use Rattle.std.specs.Prelude.{codes}
use Rattle.expansion_printer.specs.Gathering.{Gathers}
use Rattle.sym_model.specs.Partition.{after}
use Rattle.sym_model.specs.TableauText.{separated, row_text}
use Rattle.skew_shapes.specs.Rows.{row_by}
use Rattle.expansion_printer.proofs.rows.put_rows.Given as goal

-- unless a write failed, the texts of the rows visited so far have been written to the sink, except for a last part, which is in the buffer
abbrev pub invariant-loop-at : goal.invariant-loop-at
invariant-loop-at g l =
    Gathers l.fn.text (g.K.Sink.seen l.fn.sink) l.text (g.K.Sink.seen l.sink)
    (separated (codes " / ") (map
    (λ row. row_text (row_by (g.E.Entries.entry l.filling) (g.E.Entries.outer l.filling) (g.E.Entries.inner l.filling) row)) (after 0 l.at)))
