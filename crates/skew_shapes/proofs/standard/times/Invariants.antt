-- Loop invariant: `count` is the number of times that `number` occurs in the rows visited so far.
use Rattle.std.proofs.Common.{◌≡◌, ◌≤◌, length, take}
use Rattle.sym_model.specs.Schur.{letters_of, times_in}
use Rattle.skew_shapes.proofs.standard.times.Given as goal

abbrev pub invariant-loop-row : goal.invariant-loop-row
invariant-loop-row l =
    (l.count ≡ times_in l.number (letters_of (take l.row l.t.rows))) × (l.count ≤ length (letters_of (take l.row l.t.rows)))
