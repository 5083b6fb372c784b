-- Bounds for the numbers that occur if a plethysm is computed by way of power sums. A polynomial in n variables is bounded by K at the degree b if a
-- sum of at most K powers of x_1 + .. + x_n, with exponents up to b, is a majorant of it.
use Rattle.std.proofs.Common.{◌≡◌, ℕ, ◌+◌, ◌*◌, ◌^◌, ◌<◌, ◌≤◌, List, [], ◌∷◌, length, sym, subst, refl, inl, inr, arith, ℤ, pos, ◌+ℤ◌, ◌*ℤ◌}
use Rattle.std.specs.Prelude.{nat_abs}
use Rattle.std.proofs.lemmas.Nat.{mul-le}
use Rattle.std.proofs.Math.Nat.{pow-le-pow_right}
use Rattle.sym_model.specs.Sum.{total, Among, Once}
use Rattle.sym_model.specs.Polynomial.{Poly, coefficient, Same, In}
use Rattle.sym_model.specs.Partition.{ArePositive, size}
use Rattle.sym_model.specs.Bases.{power_sum, product_over}
use Rattle.sym_model.specs.Expansion.{Basis}
use Rattle.sym_model.specs.Weight.{factorial, growth}
use Rattle.sym_model.specs.WholeTerms.{WholeTerms, labels, combined, absolute_total}
use Rattle.sym_model.proofs.WholeTerms.{coefficient_of_combined}
use Rattle.std.proofs.lemmas.Int.{ints, unsigned_abs-mul}
use Rattle.monomial_laws.specs.Majorant.{IsBounded}
use Rattle.monomial_laws.specs.MonomialProduct.{product_coefficient}
use Rattle.monomial_laws.specs.ExpressionTerms.{in_monomials, IsList, absolute}
use Rattle.monomial_laws.proofs.Majorants.{bounded_respects}
use Rattle.monomial_laws.proofs.WeightBounds.{coefficient_within_factorial, product_within_growth}
use Rattle.sym_model.proofs.Polynomials.{Same_sym}
use Rattle.sym_model.specs.Plethysm.{substitute}
use Rattle.plethysm_laws.specs.PowerSumPlethysm.{dilated, met}
use Rattle.plethysm_laws.specs.SumsOfMonomials.{HavePlaces, monomial_sum}
use Rattle.plethysm_laws.proofs.Substitutions.{substitute-power_sum}
use Rattle.monomial_laws.proofs.Majorants.{bounded-weaken}
use Rattle.plethysm_laws.proofs.SubstitutedBounds.{bounded-power_sum, bounded-dilated}
use native.Mathlib.Nat.{mul-le-mul_left}

-- if g is bounded by K at the degree b, the product of the p_k[g] over the parts k of λ is bounded by K^|λ| at the degree |λ|·b; λ is `parts`
pub bounded-path : (K b n : ℕ) (γs : List (List ℕ)) (g : Poly) (parts : List ℕ) → ArePositive parts → HavePlaces n γs → Same (monomial_sum γs) g → In n g → IsBounded K b n g
    → IsBounded (K ^ size parts) (size parts * b) n (product_over (λ k m. dilated k g) parts n)
bounded-path K b n γs g parts p h e i r =
    bounded_respects (K ^ size parts) (size parts * b) n (substitute n γs (power_sum parts (length γs))) (product_over (λ k m. dilated k g) parts n)
    (substitute-power_sum parts n γs g p h e)
    (bounded-power_sum K b n γs g parts h e i r)

-- if g is bounded by K ≥ 1 at the degree b, and λ has at most a cells, no coefficient of p_λ[g], the product of the p_k[g] over the parts k of λ,
-- exceeds K^a·(a·b)! in absolute value
pub path-coefficient : (K b a n : ℕ) (γs : List (List ℕ)) (g : Poly) (parts : List ℕ) → 1 ≤ K → size parts ≤ a → ArePositive parts → HavePlaces n γs → Same (monomial_sum γs) g → In n g → IsBounded K b n g
    → (α : List ℕ) → length α ≡ n → nat_abs (coefficient (product_over (λ k m. dilated k g) parts n) α) ≤ K ^ a * factorial (a * b)
path-coefficient K b a n γs g parts o s p h e i r α l =
    coefficient_within_factorial (K ^ a) (a * b) n (product_over (λ k m. dilated k g) parts n)
    (bounded-weaken (K ^ size parts) (K ^ a) (size parts * b) (a * b) n (product_over (λ k m. dilated k g) parts n)
    (pow-le-pow_right o s) (mul-le (size parts) b a b s (omega arith)) (bounded-path K b n γs g parts p h e i r))
    α l

-- let g be bounded by K at the degree b, and let A and B be lists of terms c·m_μ with the polynomials p_k[g] and p_λ[g], for λ = `rest`. If the
-- coefficients of A and B are replaced by their absolute values, no coefficient of the product of the two lists exceeds K^(k + |λ|) times `growth`
-- of m at the degree (k + |λ|)·b
pub path-product : (K b k : ℕ) (rest : List ℕ) (A B : WholeTerms) (γs : ℕ → List (List ℕ)) (g : ℕ → Poly) → 0 < k → ArePositive rest
    → ((n : ℕ) → HavePlaces n (γs n)) → ((n : ℕ) → Same (monomial_sum (γs n)) (g n)) → ((n : ℕ) → In n (g n)) → ((n : ℕ) → IsBounded K b n (g n))
    → Once (labels A) → Once (labels B) → IsList A (λ n. dilated k (g n)) → IsList B (λ n. product_over (λ k m. dilated k (g n)) rest n)
    → (ν : List ℕ) → nat_abs (product_coefficient (absolute A) (absolute B) ν) ≤ K ^ k * K ^ size rest * growth Basis.monomials (k * b + size rest * b)
path-product K b k rest A B γs g l p h e i r o q x y ν =
    product_within_growth (K ^ k) (K ^ size rest) (k * b) (size rest * b) A B o q
    (λ n. bounded_respects (K ^ k) (k * b) n (dilated k (g n)) (in_monomials A n)
    (Same_sym (in_monomials A n) (dilated k (g n)) (x n))
    (bounded-dilated K b k n (γs n) (g n) l (h n) (e n) (i n) (r n)))
    (λ n. bounded_respects (K ^ size rest) (size rest * b) n (product_over (λ k m. dilated k (g n)) rest n) (in_monomials B n)
    (Same_sym (in_monomials B n) (product_over (λ k m. dilated k (g n)) rest n) (y n))
    (bounded-path K b n (γs n) (g n) rest p (h n) (e n) (i n) (r n)))
    ν

-- the coefficient of x^α in the sum of c·polynomial(λ) over the terms (λ, c) of W is at most, in absolute value, the sum of |c| times the absolute
-- value of the coefficient of x^α in polynomial(λ) (`met`)
pub coefficient-met : (polynomial : List ℕ → Poly) (W : WholeTerms) (α : List ℕ) → nat_abs (coefficient (combined polynomial W) α) ≤ met W (λ label. coefficient (polynomial label) α)
coefficient-met polynomial W α = subst (λ z. nat_abs z ≤ met W (λ label. coefficient (polynomial label) α)) (sym (coefficient_of_combined polynomial W α)) (by W)
  where
    more : (z y x : ℤ) (r : ℕ) → nat_abs x ≤ r → nat_abs (z *ℤ y +ℤ x) ≤ nat_abs z * nat_abs y + r
    more z y x r h = let e = unsigned_abs-mul z y in sum (z *ℤ y) x (nat_abs z * nat_abs y) r e h
      where
        sum : (u x : ℤ) (s r : ℕ) → nat_abs u ≡ s → nat_abs x ≤ r → nat_abs (u +ℤ x) ≤ s + r
        sum u x s r e h = omega (arith, ints)

    by : (V : WholeTerms) → nat_abs (total (λ (t : List ℕ × ℤ). t.1 *ℤ coefficient (polynomial t.0) α) V) ≤ met V (λ label. coefficient (polynomial label) α)
    by [] = let e : nat_abs (pos 0) ≡ 0 = refl in omega arith
    by (t ∷ V) = more t.1 (coefficient (polynomial t.0) α) (total (λ (t : List ℕ × ℤ). t.1 *ℤ coefficient (polynomial t.0) α) V) (met V (λ label. coefficient (polynomial label) α)) (by V)

met-within : (B : ℕ) (f : List ℕ → ℤ) (W : WholeTerms) → ((t : List ℕ × ℤ) → Among t W → nat_abs (f t.0) ≤ B) → met W f ≤ absolute_total W * B
met-within B f [] h = omega arith
met-within B f (t ∷ W) h =
    let r = met-within B f W (λ u m. h u (inr m)) in
    let p = mul-le-mul_left (nat_abs t.1) (h t (inl refl)) in
    omega arith

-- let g be bounded by K ≥ 1 at the degree b, and let each label λ of W have at most a cells: for each α, the sum, over the terms (λ, c) of W, of |c|
-- times the absolute value of the coefficient of x^α in p_λ[g] is at most K^a·(a·b)! times the sum of the |c|
pub path-met : (K b a n : ℕ) (γs : List (List ℕ)) (g : Poly) (W : WholeTerms) → 1 ≤ K → ((t : List ℕ × ℤ) → Among t W → ArePositive t.0 × (size t.0 ≤ a))
    → HavePlaces n γs → Same (monomial_sum γs) g → In n g → IsBounded K b n g
    → (α : List ℕ) → length α ≡ n → met W (λ label. coefficient (product_over (λ k m. dilated k g) label n) α) ≤ absolute_total W * (K ^ a * factorial (a * b))
path-met K b a n γs g W o p h e i r α l =
    met-within (K ^ a * factorial (a * b)) (λ label. coefficient (product_over (λ k m. dilated k g) label n) α) W
    (λ t m. let q = p t m in path-coefficient K b a n γs g t.0 o q.1 q.0 h e i r α l)
