use Rattle.std.proofs.Common.{arith, ap, refl}
use Rattle.std.specs.Prelude.{Err, None}
use Rattle.linear_combinations.proofs.Steps.{error_is}
use Rattle.schur_products.proofs.TwoFactors.{are_two, meets_two, fits_given, past_two}
use Rattle.schur_products.proofs.factor_product.mult_everywhere.Goals as goal

pub by_rows-requires-clause-sizes : goal.by_rows-requires-clause-sizes
by_rows-requires-clause-sizes c =
    (are_two c.args.factors.now c.factor_at.result.now c.factor_at-then-len-eq2.result.now
    c.len.ensures.limits (omega (arith, c.len.ensures.value, c.if-len-eq2.true))
    c.factor_at.ensures c.factor_at-then-len-eq2.ensures).sizes

pub by_rows-requires-clause-lengths : goal.by_rows-requires-clause-lengths
by_rows-requires-clause-lengths c =
    (are_two c.args.factors.now c.factor_at.result.now c.factor_at-then-len-eq2.result.now
    c.len.ensures.limits (omega (arith, c.len.ensures.value, c.if-len-eq2.true))
    c.factor_at.ensures c.factor_at-then-len-eq2.ensures).lengths

pub returns-in_err-terms-clause-large : goal.returns-in_err-terms-clause-large
returns-in_err-terms-clause-large c = λ err.
    past_two None c.args.factors.now c.factor_at.result.now c.factor_at-then-len-eq2.result.now refl
    (are_two c.args.factors.now c.factor_at.result.now c.factor_at-then-len-eq2.result.now
    c.len.ensures.limits (omega (arith, c.len.ensures.value, c.if-len-eq2.true))
    c.factor_at.ensures c.factor_at-then-len-eq2.ensures)
    (c.in_err-terms.ensures.large (ap Err (error_is _ _ _ c.from_residual.ensures.1 err)))

pub returns-in-Some-clause-meets : goal.returns-in-Some-clause-meets
returns-in-Some-clause-meets c =
    meets_two None c.args.factors.now c.factor_at.result.now c.factor_at-then-len-eq2.result.now
    c.in_ok-terms.field-0 c.in-Some.terms refl
    (are_two c.args.factors.now c.factor_at.result.now c.factor_at-then-len-eq2.result.now
    c.len.ensures.limits (omega (arith, c.len.ensures.value, c.if-len-eq2.true))
    c.factor_at.ensures c.factor_at-then-len-eq2.ensures) c.in-Some.is c.in_ok-terms.ensures.counts

pub returns-in-Some-clause-fits : goal.returns-in-Some-clause-fits
returns-in-Some-clause-fits c =
    fits_given None c.args.factors.now c.factor_at.result.now c.factor_at-then-len-eq2.result.now
    c.in_ok-terms.field-0 c.in-Some.terms refl
    (are_two c.args.factors.now c.factor_at.result.now c.factor_at-then-len-eq2.result.now
    c.len.ensures.limits (omega (arith, c.len.ensures.value, c.if-len-eq2.true))
    c.factor_at.ensures c.factor_at-then-len-eq2.ensures) c.in-Some.is c.in_ok-terms.ensures.fits
