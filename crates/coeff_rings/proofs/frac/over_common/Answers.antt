use Rattle.std.proofs.Common.{arith, ap, ℕ, ℤ, ◌≡◌, ◌<◌, ◌^◌, FitsSigned, to_z-of_z, subst, sym}
use Rattle.std.proofs.Common.{◌∙◌}
use Rattle.std.specs.Int.{w128}
use Rattle.sym_model.specs.Expansion.{Fraction}
use Rattle.fraction_laws.specs.Checked.{common_denominator}
use Rattle.coeff_rings.specs.declared.frac.Common.{Common}
use Rattle.coeff_rings.proofs.FractionSteps.{numerator-same, denominator-same, divisor-same}
use Rattle.coeff_rings.proofs.FractionSteps.{numerator-left, numerator-right, denominator-common}
use Rattle.coeff_rings.proofs.frac.over_common.Goals as goal

pub returns-in_err-left-clause-common : goal.returns-in_err-left-clause-common
returns-in_err-left-clause-common c =
    let a : Fraction = (c.a.inside.num, c.a.inside.den) in
    let b : Fraction = (c.b.inside.num, c.b.inside.den) in
    let is = numerator-left a b c.common_divisor-divisor.result
    c.common_divisor-divisor.ensures.greatest in
    let none = rw (to_z-of_z c.a.invariant.fits) at c.in_err-left.ensures in
    rw (c.from_residual.ensures, ← c.a.view_is, ← c.b.view_is)
    (λ h. none (subst (FitsSigned w128) (sym is) h.left))

pub returns-in_err-right-clause-common : goal.returns-in_err-right-clause-common
returns-in_err-right-clause-common c =
    let a : Fraction = (c.a.inside.num, c.a.inside.den) in
    let b : Fraction = (c.b.inside.num, c.b.inside.den) in
    let is = numerator-right a b c.common_divisor-divisor.result c.a.invariant.lowest.positive
    c.b.invariant.lowest.positive c.common_divisor-divisor.ensures.greatest in
    let none = rw (to_z-of_z c.b.invariant.fits) at c.in_err-right.ensures in
    rw (c.from_residual-in_err-right.ensures, ← c.a.view_is, ← c.b.view_is)
    (λ h. none (subst (FitsSigned w128) (sym is) h.right))

pub returns-in_err-den-clause-common : goal.returns-in_err-den-clause-common
returns-in_err-den-clause-common c =
    let a : Fraction = (c.a.inside.num, c.a.inside.den) in
    let b : Fraction = (c.b.inside.num, c.b.inside.den) in
    let is = denominator-common a b c.common_divisor-divisor.result
    c.common_divisor-divisor.ensures.greatest in
    rw (c.from_residual-in_err-den.ensures, ← c.a.view_is, ← c.b.view_is)
    (λ h. omega (arith, h.den, is, c.in_err-den.ensures))

pub returns-then-den-clause-common : goal.returns-then-den-clause-common
returns-then-den-clause-common c =
    let a : Fraction = (c.a.inside.num, c.a.inside.den) in
    let b : Fraction = (c.b.inside.num, c.b.inside.den) in
    let is = denominator-common a b c.common_divisor-divisor.result
    c.common_divisor-divisor.ensures.greatest in
    rw (← c.a.view_is, ← c.b.view_is) (λ h. omega (arith, h.den, is, c.in_ok-den.ensures))

same_common : (l r m s : ℤ) (d e g h : ℕ) → l ≡ m → r ≡ s → d ≡ e → g ≡ h
    → ◌≡◌ {A = Common} (record { left = l; right = r; den = d; divisor = g })
    (record { left = m; right = s; den = e; divisor = h })
same_common l r m s d e g h p q u v =
    let by_left : ℤ → Common = λ x. record { left = x; right = r; den = d; divisor = g } in
    let by_right : ℤ → Common = λ x. record { left = m; right = x; den = d; divisor = g } in
    let by_den : ℕ → Common = λ x. record { left = m; right = s; den = x; divisor = g } in
    let by_divisor : ℕ → Common = λ x. record { left = m; right = s; den = e; divisor = x } in
    ap by_left p ∙ ap by_right q ∙ ap by_den u ∙ ap by_divisor v

pub returns-then-a-b-clause-common : goal.returns-then-a-b-clause-common
returns-then-a-b-clause-common c =
    let a : Fraction = (c.a.inside.num, c.a.inside.den) in
    let b : Fraction = (c.b.inside.num, c.b.inside.den) in
    let left = numerator-same a b c.a.invariant.lowest.positive c.if-a-b.true in
    let right = numerator-same b a c.b.invariant.lowest.positive (sym c.if-a-b.true) in
    let den = denominator-same a b c.a.invariant.lowest.positive c.if-a-b.true in
    rw (to_z-of_z c.a.invariant.fits, to_z-of_z c.b.invariant.fits, ← c.a.view_is, ← c.b.view_is) (
      record {
        left = subst (FitsSigned w128) (sym left) c.a.invariant.fits;
        right =
            subst (FitsSigned w128) (sym right) c.b.invariant.fits;
        den = subst (λ n. n < 2 ^ 127)
            (sym den) c.a.invariant.small;
      },
      same_common _ _ _ _ _ _ _ _ (sym left) (sym right) (sym den)
          (sym (divisor-same a b c.a.invariant.lowest.positive c.if-a-b.true)),
    )

pub returns-clause-common : goal.returns-clause-common
returns-clause-common c =
    let a : Fraction = (c.a.inside.num, c.a.inside.den) in
    let b : Fraction = (c.b.inside.num, c.b.inside.den) in
    let g = c.common_divisor-divisor.result in
    let left_is = numerator-left a b g c.common_divisor-divisor.ensures.greatest in
    let right_is = numerator-right a b g c.a.invariant.lowest.positive c.b.invariant.lowest.positive
    c.common_divisor-divisor.ensures.greatest in
    let den_is = denominator-common a b g c.common_divisor-divisor.ensures.greatest in
    let left = rw (to_z-of_z c.a.invariant.fits) at c.in_ok-left.ensures in
    let right = rw (to_z-of_z c.b.invariant.fits) at c.in_ok-right.ensures in
    let left_fits : FitsSigned w128 c.in_ok-left.left = subst (FitsSigned w128) (sym left.1) left.0
    in
    let right_fits : FitsSigned w128 c.in_ok-right.right = subst (FitsSigned w128) (sym right.1)
    right.0 in
    let small : common_denominator a b < 2 ^ 127 = omega (arith, den_is, c.in_ok-den.ensures) in
    rw (← c.a.view_is, ← c.b.view_is) (
      record {
        left = subst (FitsSigned w128) left_is left.0;
        right = subst (FitsSigned w128)
            right_is right.0;
        den = small;
      },
      same_common _ _ _ _ _ _ _ _ (to_z-of_z left_fits ∙ left.1 ∙ left_is)
          (to_z-of_z right_fits ∙ right.1 ∙ right_is) (c.in_ok-den.ensures.1 ∙ den_is)
          c.common_divisor-divisor.ensures.greatest,
    )
