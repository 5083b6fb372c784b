use Rattle.std.proofs.Common.{◌≡◌, ◌++◌, drop}
use Rattle.sym_model.specs.Schur.{row_lengths}
use Rattle.calc_language.proofs.skew_tableaux.skew_lengths.Given as goal

abbrev pub invariant-loop-row : goal.invariant-loop-row
invariant-loop-row l = l.lengths.items ++ row_lengths (drop l.row l.outer) (drop l.row l.inner) ≡ row_lengths l.outer l.inner
