use Rattle.std.proofs.Common.{ℕ, ◌<◌, ◌∙◌, ap, subst, sym, to_z-of_z}
use Rattle.std.proofs.lemmas.Nat.Gcd.{IsGcd-swap}
use Rattle.sym_model.specs.Expansion.{Fraction}
use Rattle.coeff_rings.specs.Signs.{signs_differ}
use Rattle.coeff_rings.specs.declared.frac.Sizes.{Sizes}
use Rattle.fraction_laws.specs.Answers.{AnswersQuotient}
use Rattle.fraction_laws.proofs.FractionAnswers.{quotient_answers_fraction}
use Rattle.coeff_rings.proofs.Sizes.{size_positive, quotient-steps}
use Rattle.coeff_rings.proofs.frac.FracField.div.Goals as goal

pub product-requires-clause-left : goal.product-requires-clause-left
product-requires-clause-left c = c.sizes.ensures.lowest

pub product-requires-clause-right : goal.product-requires-clause-right
product-requires-clause-right c =
    let size = ap (λ (k : Sizes). k.num) c.sizes-divisor.ensures.value in (
      subst (λ (n : ℕ). 0 < n) (sym size)
          (size_positive c.args.other c.sizes-divisor.ensures.held.lowest c.requires),
      IsGcd-swap c.sizes-divisor.result.num c.sizes-divisor.result.den 1
          c.sizes-divisor.ensures.lowest.1,
    )

pub returns-clause-quotient : goal.returns-clause-quotient
returns-clause-quotient c =
    let signs = rw (to_z-of_z c.self.invariant.fits, to_z-of_z c.other.invariant.fits)
    at c.differ_in_sign.ensures in
    let left = ap (λ (r : Fraction). r.0) c.self.view_is in
    let right = ap (λ (r : Fraction). r.0) c.other.view_is in
    quotient-steps c.args.self c.args.other c.differ_in_sign.result c.sizes.result.num
    c.sizes.result.den c.sizes-divisor.result.den c.sizes-divisor.result.num c.product.result
    c.sizes-divisor.ensures.held.lowest.positive
    (signs ∙ ap (λ z. signs_differ z c.other.inside.num) left
    ∙ ap (λ z. signs_differ c.args.self.0 z) right)
    (ap (λ (k : Sizes). k.num) c.sizes.ensures.value)
    (ap (λ (k : Sizes). k.den) c.sizes.ensures.value)
    (ap (λ (k : Sizes). k.den) c.sizes-divisor.ensures.value)
    (ap (λ (k : Sizes). k.num) c.sizes-divisor.ensures.value)
    c.product.ensures

pub returns-clause-answer : goal.returns-clause-answer
returns-clause-answer c =
    subst (AnswersQuotient (λ r. r) c.args.self c.args.other) (sym (returns-clause-quotient c))
    (quotient_answers_fraction c.args.self c.args.other)
