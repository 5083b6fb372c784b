use Rattle.std.proofs.Common.{map, take}
use Rattle.std.specs.Prelude.{codes}
use Rattle.expansion_printer.specs.Gathering.{Gathers}
use Rattle.sym_model.specs.NumberText.{label_text}
use Rattle.sym_model.specs.TableauText.{separated}
use Rattle.expansion_printer.proofs.words.put_shapes.Given as goal

-- unless a write failed, the labels of the shapes visited so far have been written to the sink, except for a last part, which is in the buffer
abbrev pub invariant-loop-at : goal.invariant-loop-at
invariant-loop-at g l =
    Gathers l.fn.text (g.K.Sink.seen l.fn.sink) l.text (g.K.Sink.seen l.sink)
    (separated (codes " ") (map label_text (take l.at l.shapes)))
