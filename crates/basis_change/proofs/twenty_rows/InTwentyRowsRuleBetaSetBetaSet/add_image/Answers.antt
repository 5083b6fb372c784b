use Rattle.std.proofs.Common.{arith, rules}
use Rattle.basis_change.proofs.TwentyRows.{rows_are, few_rows, wide-room}
use Rattle.basis_change.proofs.twenty_rows.InTwentyRowsRuleBetaSetBetaSet.add_image.Goals as goal

pub in_rows-requires-clause-rows : goal.in_rows-requires-clause-rows
in_rows-requires-clause-rows c = search (rules, rows_are, few_rows)

pub in_rows-requires-clause-room : goal.in_rows-requires-clause-room
in_rows-requires-clause-room c = let w = wide-room c.args.label.now c.requires in omega arith
