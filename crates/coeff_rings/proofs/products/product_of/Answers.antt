use Rattle.std.proofs.Common.{◌*ℤ◌}
use Rattle.coeff_rings.proofs.CheckedResults.{checked-answers}
use Rattle.coeff_rings.proofs.products.product_of.Goals as goal

pub returns : goal.returns
returns c = checked-answers (c.args.x *ℤ c.args.y) c.mul.result _ c.ok_or.result
    c.mul.ensures.product c.ok_or.ensures.value
