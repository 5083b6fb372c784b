use Rattle.std.proofs.Common.{◌≡◌, ◌≤◌, length, reverse, drop}
use Rattle.sym_model.specs.Schur.{letters_of}
use Rattle.row_insertion.proofs.reading.reading_word.Given as goal

abbrev pub invariant-loop-row : goal.invariant-loop-row
invariant-loop-row l = record { within : l.row ≤ length l.t.rows; read : l.letters.items ≡ letters_of (reverse (drop l.row l.t.rows)) }

abbrev pub decreases-loop-row : goal.decreases-loop-row
decreases-loop-row l = l.row
