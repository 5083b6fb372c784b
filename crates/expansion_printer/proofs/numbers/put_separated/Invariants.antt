use Rattle.std.proofs.Common.{[], ◌∷◌, map, take}
use Rattle.std.specs.Prelude.{decimal}
use Rattle.expansion_printer.specs.Gathering.{Gathers}
use Rattle.sym_model.specs.TableauText.{separated}
use Rattle.expansion_printer.proofs.numbers.put_separated.Given as goal

-- unless a write failed, the texts of the numbers visited so far have been written to the sink, except for a last part, which is in the buffer
abbrev pub invariant-loop-at : goal.invariant-loop-at
invariant-loop-at g l =
    Gathers l.fn.text (g.K.Sink.seen l.fn.sink) l.text (g.K.Sink.seen l.sink)
    (separated (l.separator ∷ []) (map decimal (map g.N.Numeral.number (take l.at l.numbers))))
