use Rattle.std.proofs.Common.{ℕ, ◌<◌, ◌^◌, to_z-of_z, ◌∙◌, ◌-ℤ◌, FitsSigned, ap, sym, subst}
use Rattle.std.specs.Int.{w128, ◌∣◌}
use Rattle.coeff_rings.specs.declared.frac.Common.{Common}
use Rattle.fraction_laws.proofs.FractionAnswers.{common_positive}
use Rattle.coeff_rings.proofs.CommonDivisors.{Balances-difference, common_divisors, divisor_divides}
use Rattle.coeff_rings.proofs.FractionSteps.{difference_answers_fraction-from, difference-reached}
use Rattle.coeff_rings.proofs.FractionSteps.{difference-refused, CommonFits-from}
use Rattle.coeff_rings.proofs.frac.FracRing.sub.Goals as goal

pub returns-in_err-common-clause-difference : goal.returns-in_err-common-clause-difference
returns-in_err-common-clause-difference c =
    c.from_residual.ensures
    ∙ difference-refused c.args.self c.args.other (λ h. c.in_err-common.ensures.common
    (CommonFits-from c.args.self c.args.other _ h))

pub returns-in_err-common-clause-answer : goal.returns-in_err-common-clause-answer
returns-in_err-common-clause-answer c =
    difference_answers_fraction-from c.args.self c.args.other c.from_residual.result
    c.in_err-common.ensures.held.0 c.in_err-common.ensures.held.1
    (returns-in_err-common-clause-difference c)

pub returns-in_err-total-clause-difference : goal.returns-in_err-total-clause-difference
returns-in_err-total-clause-difference c =
    let total = ap (λ (k : Common). k.left -ℤ k.right) c.in_ok-common.ensures.common.1 in
    c.from_residual-in_err-total.ensures
    ∙ difference-refused c.args.self c.args.other (λ h. c.in_err-total.ensures
    (subst (FitsSigned w128) (sym total) h.total_fits))

pub returns-in_err-total-clause-answer : goal.returns-in_err-total-clause-answer
returns-in_err-total-clause-answer c =
    difference_answers_fraction-from c.args.self c.args.other c.from_residual-in_err-total.result
    c.in_ok-common.ensures.held.0 c.in_ok-common.ensures.held.1
    (returns-in_err-total-clause-difference c)

pub quotient-requires-clause-positive : goal.quotient-requires-clause-positive
quotient-requires-clause-positive c =
    let den = ap (λ (k : Common). k.den) c.in_ok-common.ensures.common.1 in
    subst (λ (n : ℕ). 0 < n) (sym den)
    (common_positive c.args.self c.args.other c.in_ok-common.ensures.held.0.lowest.positive
    c.in_ok-common.ensures.held.1.lowest.positive)

pub quotient-requires-clause-small : goal.quotient-requires-clause-small
quotient-requires-clause-small c =
    subst (λ (n : ℕ). n < 2 ^ 127)
    (sym (ap (λ (k : Common). k.den) c.in_ok-common.ensures.common.1))
    c.in_ok-common.ensures.common.0.den

pub quotient-requires-clause-factor : goal.quotient-requires-clause-factor
quotient-requires-clause-factor c =
    let is = c.in_ok-common.ensures.common.1 in
    subst (λ (k : Common). k.divisor ∣ k.den) (sym is) (divisor_divides c.args.self c.args.other
    c.in_ok-common.ensures.held.1.lowest.positive)

pub quotient-requires-clause-common : goal.quotient-requires-clause-common
quotient-requires-clause-common c =
    let is = c.in_ok-common.ensures.common.1 in
    let fits : FitsSigned w128 c.in_ok-total.total = subst (FitsSigned w128)
    (sym c.in_ok-total.ensures.1) c.in_ok-total.ensures.0 in
    let balances = Balances-difference _ _ c.in_ok-total.total
    (c.in_ok-total.ensures.1 ∙ ap (λ (k : Common). k.left -ℤ k.right) is) in
    rw (to_z-of_z fits) (λ d p q.
    subst (λ (n : ℕ). d ∣ n) (sym (ap (λ (k : Common). k.divisor) is))
    (common_divisors c.args.self c.args.other c.in_ok-total.total
    c.in_ok-common.ensures.held.0.lowest c.in_ok-common.ensures.held.1.lowest balances d p
    (subst (λ (n : ℕ). d ∣ n) (ap (λ (k : Common). k.den) is) q)))

pub returns-clause-difference : goal.returns-clause-difference
returns-clause-difference c =
    let is = c.in_ok-common.ensures.common.1 in
    let fits : FitsSigned w128 c.in_ok-total.total = subst (FitsSigned w128)
    (sym c.in_ok-total.ensures.1) c.in_ok-total.ensures.0 in
    difference-reached c.args.self c.args.other c.in_ok-common.common.left
    c.in_ok-common.common.right c.in_ok-total.total c.in_ok-common.common.den c.quotient.result
    c.in_ok-common.ensures.held.0 c.in_ok-common.ensures.held.1 c.in_ok-common.ensures.common.0
    (ap (λ (k : Common). k.left) is) (ap (λ (k : Common). k.right) is)
    (ap (λ (k : Common). k.den) is)
    c.in_ok-total.ensures.0 c.in_ok-total.ensures.1 (rw (to_z-of_z fits) at c.quotient.ensures)

pub returns-clause-answer : goal.returns-clause-answer
returns-clause-answer c =
    difference_answers_fraction-from c.args.self c.args.other c.quotient.result
    c.in_ok-common.ensures.held.0 c.in_ok-common.ensures.held.1
    (returns-clause-difference c)
