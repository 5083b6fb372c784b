use Rattle.std.proofs.Common.{◌≡◌, pos, Some, None, Option, ap, ap₂, sym, ◌∙◌, refl, subst}
use Rattle.std.proofs.Common.{FitsSigned, to_z, of_z, to_z-of_z}
use Rattle.std.specs.Int.{w128}
use Rattle.std.specs.Option.{unwrap_or}
use Rattle.sym_model.specs.Expansion.{Fraction}
use Rattle.fraction_laws.specs.Checked.{checked_fraction_of}
use Rattle.block_reader.proofs.NewFractions.{not_new}
use Rattle.block_reader.proofs.coefficients.FracCoefficient.of_parts.Goals as goal

pub returns-in_default-new : goal.returns-in_default-new
returns-in_default-new c =
    let positive : to_z w128 (of_z w128 c.in-Ok.positive) ≡ pos c.args.den =
    to_z-of_z (subst (FitsSigned w128) (sym c.in-Ok.ensures.1) c.in-Ok.ensures.0)
    ∙ c.in-Ok.ensures.1 in
    not_new c.args.num c.args.den (pos c.args.den) None refl
    (c.in_default-new.ensures.value ∙ ap₂ checked_fraction_of (to_z-of_z c.ranges.num) positive)
    (λ k. cc)

pub returns-then-num : goal.returns-then-num
returns-then-num c =
    let positive : to_z w128 (of_z w128 c.in-Ok.positive) ≡ pos c.args.den =
    to_z-of_z (subst (FitsSigned w128) (sym c.in-Ok.ensures.1) c.in-Ok.ensures.0)
    ∙ c.in-Ok.ensures.1 in
    not_new c.args.num c.args.den (pos c.args.den) (Some c.in-Some.c) refl
    (c.in-Some.ensures.value ∙ ap₂ checked_fraction_of (to_z-of_z c.ranges.num) positive)
    (λ k. let same : c.in-Some.c ≡ (c.args.num, c.args.den) = ap (λ (o : Option Fraction).
    unwrap_or o c.in-Some.c) k in
    let num : c.num.result ≡ c.args.num = c.num.ensures.value ∙ ap (λ (r : Fraction). r.0) same in
    c.if-num.true (ap (of_z w128) num))

pub returns-then-den-positive : goal.returns-then-den-positive
returns-then-den-positive c =
    let positive : to_z w128 (of_z w128 c.in-Ok.positive) ≡ pos c.args.den =
    to_z-of_z (subst (FitsSigned w128) (sym c.in-Ok.ensures.1) c.in-Ok.ensures.0)
    ∙ c.in-Ok.ensures.1 in
    not_new c.args.num c.args.den (pos c.args.den) (Some c.in-Some.c) refl
    (c.in-Some.ensures.value ∙ ap₂ checked_fraction_of (to_z-of_z c.ranges.num) positive)
    (λ k. let same : c.in-Some.c ≡ (c.args.num, c.args.den) = ap (λ (o : Option Fraction).
    unwrap_or o c.in-Some.c) k in
    let den : c.den.result ≡ c.in-Ok.positive = c.den.ensures.value ∙ ap (λ (r : Fraction). pos r.1)
    same ∙ sym c.in-Ok.ensures.1 in
    c.if-den-positive.true (ap (of_z w128) den))
