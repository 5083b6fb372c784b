use Rattle.std.proofs.Common.{◌+◌, ◌-◌, arith}
use Rattle.strip_rules.proofs.CellMoves.{power_within}
use Rattle.strip_rules.proofs.BeadSums.{rows_low}
use Rattle.strip_rules.proofs.bead_strips.StripAddedRuleBetaSetBetaSet.add_image.Goals as goal

pub add_cells-requires-clause-low : goal.add_cells-requires-clause-low
add_cells-requires-clause-low c =
    let k = c.args.self.now.cells in
    let f = c.requires.0 in
    let l = rows_low 20 (20 - k) c.args.label.now c.requires.1 in
    let p = power_within (20 + (20 - k)) (63 - k) (omega arith) in
    omega arith
