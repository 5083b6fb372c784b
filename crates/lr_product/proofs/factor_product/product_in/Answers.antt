use Rattle.std.proofs.Common.{ap, arith, rules}
use Rattle.std.specs.Prelude.{Err}
use Rattle.linear_combinations.proofs.Steps.{error_is}
use Rattle.lr_product.proofs.GoodCounts.{classical_answer}
use Rattle.lr_product.proofs.Partial.{among_at, begin_with, may_meet_at, partial_at, partial_first}
use Rattle.lr_product.proofs.Partial.{large_first, large_at}
use Rattle.lr_product.proofs.PastCoefficients.{counts_reach, counts_small}
use Rattle.lr_product.proofs.factor_product.product_in.Goals as goal

pub counts_in-requires-clause-sizes : goal.counts_in-requires-clause-sizes
counts_in-requires-clause-sizes c =
    (begin_with c.args.factors.now c.factor_at.result.now c.factor_at-2.result.now
    c.len-len.ensures.limits c.factor_at.ensures c.factor_at-2.ensures).sizes

pub returns-in_err-product-clause-large : goal.returns-in_err-product-clause-large
returns-in_err-product-clause-large c = λ err.
    large_first c.args.variables c.args.factors.now c.factor_at.result.now c.factor_at-2.result.now
    c.len-len.ensures.limits
    (begin_with c.args.factors.now c.factor_at.result.now c.factor_at-2.result.now
    c.len-len.ensures.limits c.factor_at.ensures c.factor_at-2.ensures)
    c.requires.rows
    (counts_reach c.args.variables c.factor_at.result.now c.factor_at-2.result.now
    c.counts_in.ensures.factors.0 c.counts_in.ensures.factors.1
    (c.in_err-product.ensures.large (ap Err (error_is _ _ _ c.from_residual.ensures.1 err))))

pub loop-at-init : goal.loop-at-init
loop-at-init c =
    partial_first c.args.variables c.args.factors.now c.factor_at.result.now
    c.factor_at-2.result.now c.in_ok-product.product c.len-len.ensures.limits
    (begin_with c.args.factors.now c.factor_at.result.now c.factor_at-2.result.now
    c.len-len.ensures.limits c.factor_at.ensures c.factor_at-2.ensures)
    c.requires.rows c.in_ok-product.ensures.counts.table
    (classical_answer c.args.variables c.factor_at.result.now c.factor_at-2.result.now
    c.in_ok-product.product c.counts_in.ensures.factors.0 c.counts_in.ensures.factors.1
    c.in_ok-product.ensures.counts)
    (counts_small c.args.variables c.factor_at.result.now c.factor_at-2.result.now
    c.counts_in.ensures.factors.0 c.counts_in.ensures.factors.1 c.in_ok-product.ensures.fits)

pub times_factor-requires-clause-factor : goal.times_factor-requires-clause-factor
times_factor-requires-clause-factor c = search (rules, among_at)

pub times_factor-requires-clause-terms : goal.times_factor-requires-clause-terms
times_factor-requires-clause-terms c =
    may_meet_at c.args.variables c.loop-at.at c.args.factors.now c.factor_at-in-loop-at.result.now
    c.loop-at.product c.len-len.ensures.limits (omega arith)
    c.factor_at-in-loop-at.ensures c.loop-at.invariant

pub returns-in_err-next-clause-large : goal.returns-in_err-next-clause-large
returns-in_err-next-clause-large c = λ err.
    large_at c.args.variables c.loop-at.at c.args.factors.now c.factor_at-in-loop-at.result.now
    c.loop-at.product c.len-len.ensures.limits (omega arith)
    c.factor_at-in-loop-at.ensures c.requires.rows c.loop-at.invariant (c.in_err-next.ensures.large
    (ap Err (error_is _ _ _ c.from_residual-in_err-next.ensures.1 err)))

pub loop-at-preserved : goal.loop-at-preserved
loop-at-preserved c =
    partial_at c.args.variables c.loop-at.at c.args.factors.now c.factor_at-in-loop-at.result.now
    c.loop-at.product c.in_ok-next.next c.len-len.ensures.limits (omega arith)
    c.factor_at-in-loop-at.ensures c.loop-at.invariant c.in_ok-next.ensures.table
    c.in_ok-next.ensures.product c.in_ok-next.ensures.small
