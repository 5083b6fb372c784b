use Rattle.std.proofs.Common.{◌-◌, rules}
use Rattle.std.proofs.lemmas.Bool.{lt-ltb, le-ltb}
use Rattle.skew_shapes.proofs.KeptRows.{length-filling_in}
use Rattle.skew_shapes.proofs.filled.Filled.stands_on_next.Goals as goal

pub returns-then-row-rows : goal.returns-then-row-rows
returns-then-row-rows c = search (rules, length-filling_in, le-ltb)

pub returns : goal.returns
returns c = search (rules, length-filling_in, lt-ltb)
