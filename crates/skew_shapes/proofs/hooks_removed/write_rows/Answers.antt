use Rattle.std.proofs.Common.{slice_set, rules}
use Rattle.std.proofs.lemmas.List.{take_all, take_more_set, length-set}
use Rattle.skew_shapes.proofs.LoneShapes.{rows_next}
use Rattle.skew_shapes.proofs.hooks_removed.write_rows.Goals as goal

pub loop-above-preserved : goal.loop-above-preserved
loop-above-preserved c = search (rules, slice_set, take_more_set, rows_next, length-set)

pub returns : goal.returns
returns c = search (rules, take_all)
