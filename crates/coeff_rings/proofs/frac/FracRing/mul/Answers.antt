use Rattle.std.proofs.Common.{◌∙◌, ap, subst, sym, to_z-of_z}
use Rattle.sym_model.specs.Expansion.{Fraction}
use Rattle.coeff_rings.specs.Signs.{signs_differ}
use Rattle.coeff_rings.specs.declared.frac.Sizes.{Sizes}
use Rattle.fraction_laws.specs.Answers.{AnswersProduct}
use Rattle.fraction_laws.proofs.FractionAnswers.{product_answers_fraction}
use Rattle.coeff_rings.proofs.Sizes.{product-steps}
use Rattle.coeff_rings.proofs.frac.FracRing.mul.Goals as goal

pub returns-clause-product : goal.returns-clause-product
returns-clause-product c =
    let signs = rw (to_z-of_z c.self.invariant.fits, to_z-of_z c.other.invariant.fits)
    at c.differ_in_sign.ensures in
    let left = ap (λ (r : Fraction). r.0) c.self.view_is in
    let right = ap (λ (r : Fraction). r.0) c.other.view_is in
    product-steps c.args.self c.args.other c.differ_in_sign.result c.sizes.result.num
    c.sizes.result.den c.sizes-2.result.num c.sizes-2.result.den c.product.result
    (signs ∙ ap (λ z. signs_differ z c.other.inside.num) left
    ∙ ap (λ z. signs_differ c.args.self.0 z) right)
    (ap (λ (k : Sizes). k.num) c.sizes.ensures.value)
    (ap (λ (k : Sizes). k.den) c.sizes.ensures.value)
    (ap (λ (k : Sizes). k.num) c.sizes-2.ensures.value)
    (ap (λ (k : Sizes). k.den) c.sizes-2.ensures.value)
    c.product.ensures

pub returns-clause-answer : goal.returns-clause-answer
returns-clause-answer c =
    subst (AnswersProduct (λ r. r) c.args.self c.args.other) (sym (returns-clause-product c))
    (product_answers_fraction c.args.self c.args.other)
