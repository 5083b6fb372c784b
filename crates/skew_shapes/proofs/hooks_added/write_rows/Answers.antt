use Rattle.std.proofs.Common.{slice_set, rules}
use Rattle.std.proofs.lemmas.List.{take_more_set, length-set}
use Rattle.skew_shapes.proofs.LoneShapes.{rows_next}
use Rattle.skew_shapes.proofs.hooks_added.write_rows.Goals as goal

pub loop-above-preserved : goal.loop-above-preserved
loop-above-preserved c = search (rules, slice_set, take_more_set, rows_next, length-set)
