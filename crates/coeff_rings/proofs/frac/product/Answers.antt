use Rattle.std.proofs.Common.{arith, ◌<◌, ◌≤◌, ◌^◌, ◌*◌, ◌/◌, ◌∙◌}
use Rattle.coeff_rings.proofs.Sizes.{product_num-large, product_den-large, product-parts}
use Rattle.coeff_rings.proofs.Sizes.{product-answer}
use Rattle.coeff_rings.proofs.frac.product.Goals as goal

pub returns-in_err-num : goal.returns-in_err-num
returns-in_err-num c =
    let large : 2 ^ 127 < (c.args.left.num / c.common_divisor-down.result) *
    (c.args.right.num / c.common_divisor-up.result) = omega (arith, c.in_err-num.ensures) in
    c.from_residual.ensures
    ∙ product_num-large c.args.negative c.args.left.num c.args.left.den c.args.right.num
    c.args.right.den c.common_divisor-down.result c.common_divisor-up.result
    c.requires.left.0 c.requires.right.0 c.requires.left.1 c.requires.right.1
    c.common_divisor-down.ensures.divisor c.common_divisor-up.ensures.divisor large

pub returns-in_err-den : goal.returns-in_err-den
returns-in_err-den c =
    let large : 2 ^ 127 ≤ (c.args.left.den / c.common_divisor-up.result) *
    (c.args.right.den / c.common_divisor-down.result) = omega (arith, c.in_err-den.ensures) in
    c.from_residual-in_err-den.ensures
    ∙ product_den-large c.args.negative c.args.left.num c.args.left.den c.args.right.num
    c.args.right.den c.common_divisor-down.result c.common_divisor-up.result
    c.requires.left.0 c.requires.right.0 c.requires.left.1 c.requires.right.1
    c.common_divisor-down.ensures.divisor c.common_divisor-up.ensures.divisor large

pub from_sizes-requires-clause-positive : goal.from_sizes-requires-clause-positive
from_sizes-requires-clause-positive c =
    (product-parts c.args.left.num c.args.left.den c.args.right.num c.args.right.den
    c.common_divisor-down.result c.common_divisor-up.result c.in_ok-num.num c.in_ok-den.den
    c.requires.left.0 c.requires.right.0 c.requires.left.1 c.requires.right.1
    c.common_divisor-down.ensures.divisor c.common_divisor-up.ensures.divisor
    c.in_ok-num.ensures.1 c.in_ok-den.ensures.1).0

pub from_sizes-requires-clause-coprime : goal.from_sizes-requires-clause-coprime
from_sizes-requires-clause-coprime c =
    (product-parts c.args.left.num c.args.left.den c.args.right.num c.args.right.den
    c.common_divisor-down.result c.common_divisor-up.result c.in_ok-num.num c.in_ok-den.den
    c.requires.left.0 c.requires.right.0 c.requires.left.1 c.requires.right.1
    c.common_divisor-down.ensures.divisor c.common_divisor-up.ensures.divisor
    c.in_ok-num.ensures.1 c.in_ok-den.ensures.1).1

pub returns : goal.returns
returns c =
    c.from_sizes.ensures
    ∙ product-answer c.args.negative c.args.left.num c.args.left.den c.args.right.num
    c.args.right.den c.common_divisor-down.result c.common_divisor-up.result c.in_ok-num.num
    c.in_ok-den.den
    c.requires.left.0 c.requires.right.0 c.requires.left.1 c.requires.right.1
    c.common_divisor-down.ensures.divisor c.common_divisor-up.ensures.divisor
    c.in_ok-num.ensures.1 c.in_ok-den.ensures.1
