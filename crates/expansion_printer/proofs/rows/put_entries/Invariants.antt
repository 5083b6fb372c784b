use Rattle.std.proofs.Common.{map, ◌-◌}
use Rattle.std.specs.Prelude.{codes, decimal}
use Rattle.expansion_printer.specs.Gathering.{Gathers}
use Rattle.sym_model.specs.Partition.{after}
use Rattle.sym_model.specs.TableauText.{separated}
use Rattle.expansion_printer.proofs.rows.put_entries.Given as goal

-- unless a write failed, the texts of the entries visited so far have been written to the sink, except for a last part, which is in the buffer
abbrev pub invariant-loop-column : goal.invariant-loop-column
invariant-loop-column g l =
    Gathers l.fn.text (g.K.Sink.seen l.fn.sink) l.text (g.K.Sink.seen l.sink)
    (separated (codes " ") (map (λ column. decimal (g.E.Entries.entry l.filling l.row column)) (after l.left (l.column - l.left))))
