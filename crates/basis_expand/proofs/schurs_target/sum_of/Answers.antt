use Rattle.std.proofs.Common.{◌∙◌}
use Rattle.fraction_laws.proofs.FractionLaws.{sum_comm}
use Rattle.sparse_polys.proofs.Coefficients.{if_answered}
use Rattle.sparse_polys.specs.Products.{coefficient_at}
use Rattle.basis_expand.proofs.schurs_target.sum_of.Goals as goal

pub returns-then-len-clause-sum : goal.returns-then-len-clause-sum
returns-then-len-clause-sum c = if_answered c.add_all.result c.add_all.ensures.sum
    (λ both sums ν. sums ν ∙ sum_comm (coefficient_at c.args.second ν)
    (coefficient_at c.args.first ν))
