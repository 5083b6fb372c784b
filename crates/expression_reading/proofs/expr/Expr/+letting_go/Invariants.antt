use Rattle.std.proofs.Common.{◌≤◌}
use Rattle.expression_reading.specs.declared.expr.Expr.{size-Expr}
use Rattle.expression_reading.proofs.expr.Expr.+letting_go.Given as goal

abbrev pub invariant-drop-loop-left : goal.invariant-drop-loop-left
invariant-drop-loop-left l = size-Expr l.rest ≤ size-Expr l.fn.self
