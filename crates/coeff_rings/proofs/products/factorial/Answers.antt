use Rattle.std.proofs.Common.{◌+◌, ◌≤◌, arith}
use Rattle.std.proofs.Math.Nat.{mul-le-mul}
use Rattle.monomial_laws.proofs.Growths.{factorial-mono}
use Rattle.coeff_rings.proofs.products.factorial.Goals as goal

pub overflow_mul-product : goal.overflow_mul-product
overflow_mul-product c =
    let small : c.loop-k.product ≤ 2432902008176640000 = omega (
      arith,
      c.loop-k.invariant,
      factorial-mono c.loop-k.k 20 (omega arith),
    ) in
    let few : c.from.result + 1 ≤ 20 = omega arith in
    omega (arith, mul-le-mul small few)
