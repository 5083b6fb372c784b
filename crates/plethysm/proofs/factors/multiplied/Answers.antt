use Rattle.std.proofs.Common.{arith}
use Rattle.sym_model.proofs.Parts.{get_or-le-size}
use Rattle.plethysm.proofs.factors.multiplied.Goals as goal
use native.Mathlib.Nat.{mul-le-mul_left}

pub overflow_mul-k : goal.overflow_mul-k
overflow_mul-k c =
    let p = get_or-le-size c.args.parts.now c.loop-part.part-index in
    let m = mul-le-mul_left c.args.k p in
    omega (arith, c.requires)
