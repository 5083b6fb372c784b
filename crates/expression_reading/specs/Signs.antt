-- The refusal of an expression with a minus or a fraction as the inner expression of a plethysm.
use Rattle.std.specs.Prelude.{ℕ, nat_lt, cond}
use Rattle.expression_reading.specs.declared.reading.ExpressionFault.{ExpressionFault}
use Rattle.expression_reading.specs.declared.reading.ExpressionFault.TheVariants.{Syntax, Literal}
use Rattle.expression_reading.specs.declared.reading.ExpressionFault.TheVariants.{Range, Shape}
use Rattle.expression_reading.specs.declared.reading.ExpressionFault.TheVariants.{NoMemory}

-- the first refusal of a word whose first minus or fraction is at the byte `sign`, given the refusal for its other errors: `Shape` at `sign` if the
-- given refusal has a later byte, and otherwise the given one; `Syntax` and `NoMemory` are not changed
abbrev pub refused_by_sign : ℕ → ExpressionFault → ExpressionFault
refused_by_sign sign (Syntax byte) = Syntax byte
refused_by_sign sign (Literal byte) = cond (nat_lt sign byte) (Shape sign) (Literal byte)
refused_by_sign sign (Range byte) = cond (nat_lt sign byte) (Shape sign) (Range byte)
refused_by_sign sign (Shape byte) = cond (nat_lt sign byte) (Shape sign) (Shape byte)
refused_by_sign sign NoMemory = NoMemory
