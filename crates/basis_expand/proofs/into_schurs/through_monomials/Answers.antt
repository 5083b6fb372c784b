use Rattle.std.proofs.Common.{rules}
use Rattle.std.proofs.lemmas.Result.{err_from_is_err_and}
use Rattle.expression_reading.proofs.WeightFacts.{positive}
use Rattle.expression_reading.proofs.GrowthFacts.{wide-weight}
use Rattle.sparse_polys.proofs.Coefficients.{if_answered}
use Rattle.basis_expand.proofs.Weights.{heavy_for_s}
use Rattle.basis_expand.proofs.into_schurs.through_monomials.Goals as goal

pub returns-in_err-list-clause-large : goal.returns-in_err-list-clause-large
returns-in_err-list-clause-large c = search (rules, err_from_is_err_and, heavy_for_s)

pub returns-in_default-clause-large : goal.returns-in_default-clause-large
returns-in_default-clause-large c = search (rules, wide-weight, positive)

pub to_basis-requires-clause-positive : goal.to_basis-requires-clause-positive
to_basis-requires-clause-positive c = search (rules, positive)

pub returns-clause-value : goal.returns-clause-value
returns-clause-value c =
    if_answered c.to_basis.result c.to_basis.ensures.value
    (λ list h n. h n _ _ (c.in_ok-list.ensures.value n))
