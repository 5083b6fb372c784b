use Rattle.std.proofs.Common.{arith}
use Rattle.sym_model.proofs.SortedParts.{rows_within_size}
use Rattle.family_lists.proofs.coefficients.exponent.Goals as goal

pub overflow_sub-excess : goal.overflow_sub-excess
overflow_sub-excess c =
    let size = c.size.ensures.value in
    let rows = c.rows.ensures.value in
    let few = rows_within_size c.args.label.now c.rows.ensures.limits.partition.positive in
    omega arith
