use Rattle.std.proofs.Common.{map}
use Rattle.std.specs.Prelude.{string_bytes}
use Rattle.sym_model.specs.WordForms.{numbers}
use Rattle.calc_language.proofs.CellJudging.{ReadTo}
use Rattle.calc_language.proofs.cells.read_row.Given as goal

abbrev pub invariant-loop-i : goal.invariant-loop-i
invariant-loop-i l =
    ReadTo l.bounds.counted l.bounds.most l.columns.above l.above l.columns.here l.initial.taken l.at (numbers (map string_bytes l.words)) l.i l.row.items l.taken
