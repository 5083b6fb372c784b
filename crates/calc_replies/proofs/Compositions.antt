-- Lower bounds for the weight of a plethysm. The *weight* of an expression for a basis bounds every number in the conversion of the expression into
-- this basis. The *denominator* D of an expression is a common denominator of its coefficients, and its *numerator* bounds D times the sum of their
-- absolute values. The weight of a plethysm is computed from the numerators and degrees of both expressions and the denominator of the outer one.
use Rattle.std.proofs.Common.{◌≡◌, ℕ, ◌+◌, ◌*◌, ◌^◌, ◌≤◌, arith, subst, sym, refl}
use Rattle.std.proofs.lemmas.Nat.{mul-le}
use Rattle.std.proofs.Math.Nat.{mul-le-mul_left, pow-zero, pow-suc}
use Rattle.monomial_laws.proofs.Growths.{growth-most}
use Rattle.sym_model.specs.Expansion.{monomials}
use Rattle.sym_model.specs.Expression.{Tree, degree, denominator}
use Rattle.sym_model.specs.Plethysm.{plethysm_weight}
use Rattle.sym_model.specs.Weight.{numerator, growth, weight}
use Rattle.plethysm_laws.specs.PositiveExpression.{HasNoSigns}
use Rattle.plethysm_laws.proofs.NonnegativeTerms.{denominator-one}
use Rattle.expression_reading.proofs.WeightFacts.{Positive}
use Rattle.plethysm_laws.proofs.PathWeights.{weight-outer, weight-product}

-- if the numerator and the denominator of the outer expression e are at least 1, and K ≥ 1, then the weight of e for the basis m is at most the
-- weight of the plethysm of e and an inner expression with the numerator K and the degree b
pub outer-weight : (e : Tree) (K b : ℕ) → 1 ≤ numerator e → 1 ≤ denominator e → 1 ≤ K
    → weight monomials e ≤ plethysm_weight (numerator e) (denominator e) (degree e) K b
outer-weight e K b n d k =
    omega (
      arith,
      mul-le-mul_left (numerator e * denominator e) (growth-most monomials (degree e)),
      weight-outer (numerator e) (denominator e) (degree e) K b n d k,
    )

-- if N, D and a are at least 1, and the inner expression e has a numerator of at least 1 and the denominator 1, then the weight of e for the basis m
-- is at most the weight of the plethysm of e and an outer expression with the numerator N, the denominator D and the degree a
pub inner-weight : (N D a : ℕ) (e : Tree) → 1 ≤ N → 1 ≤ D → 1 ≤ a → 1 ≤ numerator e → denominator e ≡ 1
    → weight monomials e ≤ plethysm_weight N D a (numerator e) (degree e)
inner-weight N D a e n d h k one =
    let K = numerator e in
    let b = degree e in
    let w = weight-product N D a K b n d k 1 h in
    let first : 1 * b ≡ b = omega arith in
    let power : (K * (b + 1)) ^ 1 ≡ K * (b + 1) = rw (pow-suc (K * (b + 1)) 0, pow-zero (K * (b + 1))) (omega arith) in
    let v = subst (λ x. x * growth monomials (1 * b) ≤ plethysm_weight N D a K b) power w in
    let u = subst (λ x. K * (b + 1) * growth monomials x ≤ plethysm_weight N D a K b) first v in
    let some = mul-le K 1 K (b + 1) (omega arith) (omega arith) in
    let wide = mul-le (K * 1) (growth monomials b) (K * (b + 1)) (growth monomials b) some (omega arith) in
    subst (λ x. K * x * growth monomials b ≤ plethysm_weight N D a K b) (sym one) (omega (arith, wide, u))

-- if the weight of the outer expression e for the basis m is 2^127 or more, so is the weight of the plethysm of e and f
pub outer-large : (e f : Tree) → Positive e → Positive f → 2 ^ 127 ≤ weight monomials e
    → 2 ^ 127 ≤ plethysm_weight (numerator e) (denominator e) (degree e) (numerator f) (degree f)
outer-large e f p q h = omega (arith, h, outer-weight e (numerator f) (degree f) (omega (arith, p.0)) (omega (arith, p.1)) (omega (arith, q.0)))

-- if the inner expression f has no minus sign and no fraction, its weight for the basis m is 2^127 or more, and the outer expression e is not
-- constant, then the weight of the plethysm of e and f is 2^127 or more
pub inner-large : (e f : Tree) → Positive e → Positive f → 1 ≤ degree e → HasNoSigns f → 2 ^ 127 ≤ weight monomials f
    → 2 ^ 127 ≤ plethysm_weight (numerator e) (denominator e) (degree e) (numerator f) (degree f)
inner-large e f p q some h heavy =
    omega (arith, heavy, inner-weight (numerator e) (denominator e) (degree e) f (omega (arith, p.0)) (omega (arith, p.1)) some (omega (arith, q.0)) (denominator-one f h))

-- if the outer expression is constant (of degree 0), the weight of the plethysm does not depend on the numerator K of the inner expression
pub constant-weight : (N D K b : ℕ) → plethysm_weight N D 0 1 b ≡ plethysm_weight N D 0 K b
constant-weight N D K b = rw (pow-zero (1 * (b + 1)), pow-zero (K * (b + 1))) refl
