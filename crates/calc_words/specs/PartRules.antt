-- The kind of the error of a number of a partition, for numbers of at most 2^127 - 1.
use Rattle.std.specs.Prelude.{ℕ, ◌+◌, ◌==◌, nat_lt, Bool, ◌||◌, cond, Option, Some, None}
use Rattle.sym_model.specs.ExpressionOffence.{rises}
use Rattle.sym_model.specs.CommandOffence.{most_parts, most_cells}
use Rattle.expression_reading.specs.declared.offence.Kind.{Kind}
use Rattle.expression_reading.specs.declared.offence.Kind.TheVariants.{Range, Shape}

-- the kind of the error of a number: `Range` if y (it exceeds a limit), otherwise `Shape` if z (it is not allowed in the list), otherwise no error
abbrev pub range_or_shape : Bool → Bool → Option Kind
range_or_shape y z = cond y (Some Range) (cond z (Some Shape) None)

-- the kind of the error of the number `value` of a partition, if it has one, after `count` numbers with the sum `cells`, the last of which is `last`
abbrev pub part_kind : ℕ → ℕ → Option ℕ → ℕ → Option Kind
part_kind count cells last value =
    range_or_shape ((count == most_parts) || nat_lt most_cells (cells + value)) (rises last value)
