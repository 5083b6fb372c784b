use Rattle.std.proofs.Common.{arith}
use Rattle.std.proofs.lemmas.Bool.{false≢true}
use Rattle.expression_reading.specs.Trees.{tree_of}
use Rattle.expression_reading.proofs.TreeFacts.{nesting-positive}
use Rattle.expression_reading.proofs.expr.Expr.+is_plain_within.Goals as goal

pub returns-then-limit-eq0 : goal.returns-then-limit-eq0
returns-then-limit-eq0 t c = (
  λ h. absurd (false≢true h),
  λ h.
      absurd (omega (
        arith,
        h.0,
        nesting-positive (tree_of c.args.self.now),
        c.if-limit-eq0.true,
      )),
)
