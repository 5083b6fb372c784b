use Rattle.std.proofs.Common.{◌+◌, ◌*◌, ◌^◌, ap, sym, subst, arith, Err, pos}
use Rattle.sym_model.specs.Expansion.{power_sums}
use Rattle.sym_model.specs.Plethysm.{plethysm}
use Rattle.sym_model.specs.Polynomial.{scale}
use Rattle.sym_model.specs.Weight.{growth}
use Rattle.monomial_laws.specs.ExpressionTerms.{in_monomials, IsList}
use Rattle.monomial_laws.proofs.Growths.{factorial-positive}
use Rattle.sparse_polys.specs.MonomialProducts.{greatest_size}
use Rattle.sparse_polys.proofs.Bounds.{greatest-within}
use Rattle.linear_combinations.proofs.Steps.{error_is, if_answered}
use Rattle.basis_change.proofs.Bounds.{wide}
use Rattle.family_lists.proofs.FactorSteps.{factorial-below}
use Rattle.plethysm_laws.proofs.PathWeights.{weight-outer}
use Rattle.plethysm.proofs.PathPast.{past-weight}
use Rattle.plethysm.proofs.PlethysmAnswers.{composed}
use Rattle.plethysm.proofs.composition.in_m.Goals as goal
use native.Mathlib.Nat.{mul-le-mul_right}

pub returns-in_err-terms-clause-large : goal.returns-in_err-terms-clause-large
returns-in_err-terms-clause-large c err N D K b n d k bounded h =
    let l = c.in_err-terms.ensures.large (ap Err (error_is _ _ _ c.from_residual.ensures.1 err)) N
    bounded in
    let w = weight-outer N D c.args.size K b n d k in
    let g = growth power_sums c.args.size in
    let m = wide (2 ^ 127) N D g g d l (omega arith) in
    omega arith

pub multiplied_out-requires : goal.multiplied_out-requires
multiplied_out-requires c =
    let w = greatest-within c.args.size c.in_ok-terms.terms (c.in_ok-terms.ensures.within tt) in
    let p = mul-le-mul_right (greatest_size c.args.inner.now) w in
    omega (arith, c.requires.low)

pub returns-in_err-sum-clause-large : goal.returns-in_err-sum-clause-large
returns-in_err-sum-clause-large c err N D K b n d k bounded h =
    past-weight N D c.args.size K b c.in_ok-terms.terms c.args.inner.now n d k
    c.in_ok-terms.ensures.table (c.in_ok-terms.ensures.within tt)
    (c.in_ok-terms.ensures.few tt N bounded) h
    (c.in_err-sum.ensures.large (ap Err (error_is _ _ _ c.from_residual-in_err-sum.ensures.1 err))
    (K * (b + 1)) b h)

pub quotients-requires : goal.quotients-requires
quotients-requires c =
    let f = factorial-positive c.args.size in
    let e = c.factorial.ensures in
    (omega arith, factorial-below c.factorial.result c.args.size e (omega (arith, c.requires.size)))

pub returns-clause-value : goal.returns-clause-value
returns-clause-value c =
    if_answered c.quotients.result c.quotients.ensures.value
    (λ list divided K b h.
    divided (λ n. plethysm (in_monomials c.args.outer.now) b n (in_monomials c.args.inner.now n))
    (subst (λ f. IsList c.in_ok-sum.sum (λ n. scale (pos f)
    (plethysm (in_monomials c.args.outer.now) b n (in_monomials c.args.inner.now n))))
    (sym c.factorial.ensures)
    (composed _ K b c.args.outer.now c.in_ok-terms.terms c.args.inner.now c.in_ok-sum.sum
    c.in_ok-terms.ensures.table h c.in_ok-terms.ensures.value c.in_ok-sum.ensures.value)))
