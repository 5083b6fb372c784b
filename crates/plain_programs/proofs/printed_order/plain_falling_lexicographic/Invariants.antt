use Rattle.std.proofs.Common.{◌≡◌, drop}
use Rattle.sym_model.specs.PrintedOrder.{falling_lexicographic}
use Rattle.plain_programs.proofs.printed_order.plain_falling_lexicographic.Given as goal

abbrev pub invariant-loop-i : goal.invariant-loop-i
invariant-loop-i l =
    falling_lexicographic (drop l.i l.first) (drop l.i l.second) ≡ falling_lexicographic l.first l.second
