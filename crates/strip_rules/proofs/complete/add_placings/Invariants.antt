use Rattle.std.proofs.Common.{take}
use Rattle.linear_combinations.specs.Gains.{Gains, scaled}
use Rattle.strip_rules.specs.Rows.{with_placings}
use Rattle.strip_rules.proofs.complete.add_placings.Given as goal

-- the shapes visited so far, each with c times its number `placings`, have been added to the table
abbrev pub invariant-loop-shape : goal.invariant-loop-shape
invariant-loop-shape l = Gains l.fn.sum (scaled l.c (with_placings l.label (take l.shape-index l.shapes))) l.sum
