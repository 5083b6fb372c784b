-- Weights of 2^127 or more. The weight of an expression is the product of its numerator, its denominator, and the growth, the factor by which a
-- conversion can raise coefficients.
use Rattle.std.proofs.Common.{◌≡◌, ℕ, zero, suc, ◌*◌, ◌^◌, ◌<◌, ◌≤◌, refl, ap, arith, inl, inr, ⊎_elim, ◌⊎◌}
use Rattle.sym_model.specs.Expansion.{Basis, monomials, elementaries, completes, power_sums, schurs}
use Rattle.sym_model.specs.Expression.{Tree, denominator, degree}
use Rattle.sym_model.specs.Weight.{numerator, factorial, growth, weight}
use Rattle.sym_model.proofs.Numbers.{power-positive, times-more}
use Rattle.calc_base.specs.declared.words.Basis.{Basis as Letter}
use Rattle.calc_base.specs.declared.words.Basis.TheVariants.{E, H, P}
use Rattle.expression_reading.specs.Trees.{basis_of}
use Rattle.monomial_laws.proofs.Growths.{factorial-positive}
use Rattle.coeff_rings.proofs.CommonMultiples.{times-positive}
use Rattle.expression_reading.proofs.WeightFacts.{Positive, Wide}

pub growth-positive : (b : Basis) (d : ℕ) → 0 < growth b d
growth-positive b zero = omega arith
growth-positive monomials (suc d) = power-positive (suc d) (suc d) (omega arith)
growth-positive schurs (suc d) = power-positive (suc d) (suc d) (omega arith)
growth-positive elementaries (suc d) = times-positive _ _ (factorial-positive (suc d)) (power-positive (2 * suc d) (suc d) (omega arith))
growth-positive completes (suc d) = times-positive _ _ (factorial-positive (suc d)) (power-positive (2 * suc d) (suc d) (omega arith))
growth-positive power_sums (suc d) = times-positive _ _ (factorial-positive (suc d)) (power-positive (2 * suc d) (suc d) (omega arith))

-- for the target bases p, h and e, the growth at degree d is d!·(2d)^d
pub growth-with_factorial : (b : Basis) → (b ≡ power_sums) ⊎ (b ≡ completes) ⊎ (b ≡ elementaries) → (d : ℕ) → growth b d ≡ factorial d * (2 * d) ^ d
growth-with_factorial b h zero = refl
growth-with_factorial b (inl e) (suc d) = ap (λ x. growth x (suc d)) e
growth-with_factorial b (inr (inl e)) (suc d) = ap (λ x. growth x (suc d)) e
growth-with_factorial b (inr (inr e)) (suc d) = ap (λ x. growth x (suc d)) e

-- if the numerator and the denominator of e are positive, and one of them is 2^127 or more, the weight of e is 2^127 or more
pub wide-weight : (b : Basis) (e : Tree) → Positive e → Wide e → 2 ^ 127 ≤ weight b e
wide-weight b e h (inl w) =
    omega (
      arith,
      w,
      times-more (numerator e) (denominator e) h.1,
      times-more (numerator e * denominator e) (growth b (degree e)) (growth-positive b (degree e)),
    )
wide-weight b e h (inr w) =
    omega (
      arith,
      w,
      times-more (denominator e) (numerator e) h.0,
      times-more (numerator e * denominator e) (growth b (degree e)) (growth-positive b (degree e)),
    )

pub high-weight : (b : Basis) (e : Tree) → Positive e → 2 ^ 127 ≤ growth b (degree e) → 2 ^ 127 ≤ weight b e
high-weight b e h w =
    omega (arith, w, times-more (growth b (degree e)) (numerator e * denominator e) (times-positive (numerator e) (denominator e) h.0 h.1))

pub wide-product : (b : Basis) (e : Tree) → 2 ^ 127 ≤ numerator e * denominator e → 2 ^ 127 ≤ weight b e
wide-product b e w =
    omega (arith, w, times-more (numerator e * denominator e) (growth b (degree e)) (growth-positive b (degree e)))

-- for the target bases p, h and e: if (2d)^d is 2^128 or more, so is the growth at degree d
pub growth-past : (target : Letter) → (target ≡ P) ⊎ ((target ≡ H) ⊎ (target ≡ E)) → (d b k : ℕ) → b ≡ d → k ≡ d
    → ((2 * b) ^ k < 2 ^ 128 → ⊥) → growth (basis_of target) d < 2 ^ 128 → ⊥
growth-past target h d b k e f past small =
    let letters = ⊎_elim (λ p. inl (ap basis_of p)) (⊎_elim (λ p. inr (inl (ap basis_of p))) (λ p. inr (inr (ap basis_of p)))) h in
    past (rw (e, f) (omega (
      arith,
      small,
      growth-with_factorial (basis_of target) letters d,
      times-more ((2 * d) ^ d) (factorial d) (factorial-positive d),
    )))
