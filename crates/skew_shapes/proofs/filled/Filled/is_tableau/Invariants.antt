-- Loop invariant: in each row before the current one, the letters are positive and weakly increasing, and smaller than the letters directly below
-- them (`row_passes`).
use Rattle.std.proofs.Common.{◌≡◌, true}
use Rattle.sym_model.specs.Partition.{after}
use Rattle.sym_model.specs.GoodTableau.{every}
use Rattle.skew_shapes.specs.RowTests.{row_passes}
use Rattle.skew_shapes.proofs.filled.Filled.is_tableau.Given as goal

abbrev pub invariant-loop-row : goal.invariant-loop-row
invariant-loop-row l = every (row_passes l.self.inner l.self.rows) (after 0 l.row) ≡ true
