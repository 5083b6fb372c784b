-- Substituting monomials for the variables turns majorants into majorants, and so bounds into bounds. A polynomial in n variables is bounded by K at
-- the degree b if a sum of at most K powers of x_1 + .. + x_n, with exponents up to b, is a majorant of it.
use Rattle.std.proofs.Common.{ℕ, zero, suc, ◌+◌, ◌*◌, ◌^◌, ◌<◌, ◌≤◌, max, List, [], ◌∷◌, length, replicate, refl, inl, inr, arith, rules}
use Rattle.std.proofs.lemmas.Int.{ints}
use Rattle.std.proofs.lemmas.Nat.{mul-le}
use Rattle.sym_model.specs.Sum.{Among}
use Rattle.sym_model.specs.Polynomial.{Poly, Same, In, one, plus, times}
use Rattle.sym_model.specs.Partition.{size}
use Rattle.sym_model.specs.Bases.{has, power_sum, power_sum_of, product_over}
use Rattle.sym_model.specs.Expansion.{completes, power_sums}
use Rattle.monomial_laws.specs.Majorant.{IsMajorant, IsBounded, power, powers}
use Rattle.sym_model.proofs.Polynomials.{at_only, coefficient_pair, Same_sym, at_only-nonnegative}
use Rattle.monomial_laws.proofs.Powers.{In-product_over}
use Rattle.std.proofs.Math.Nat.{pow-le-pow_right}
use Rattle.monomial_laws.proofs.MajorantPairs.{majorant-pair}
use Rattle.monomial_laws.proofs.Majorants.{bounded-weaken, bounded-majorant, majorant-monomials, majorant-atom, bounded-atom, bounded-plus, bounded-times, bounded_respects}
use Rattle.sym_model.specs.Plethysm.{substitute}
use Rattle.plethysm_laws.specs.PowerSumPlethysm.{dilated}
use Rattle.plethysm_laws.specs.SumsOfMonomials.{HavePlaces, monomial_sum}
use Rattle.plethysm_laws.proofs.Substitutions.{pair-substitute, substitute-plus, substitute-power_sum, substitute-power_sum_of, In-dilated, dilated-once}
use Rattle.sym_model.proofs.Parts.{ArePositive-ones}
use native.Mathlib.Nat.{pow-suc, pow-zero}

pub majorant-substitute : (n : ℕ) (γs : List (List ℕ)) (F f : Poly) → IsMajorant F f → IsMajorant (substitute n γs F) (substitute n γs f)
majorant-substitute n γs F f m α = search (rules, at_only, majorant-pair, at_only-nonnegative, coefficient_pair, pair-substitute)

-- ---- bounds for polynomials in which monomials are substituted for the variables

bounded-product : (K b s n : ℕ) (g : Poly) → In n g → IsBounded K b n g → IsBounded (K ^ s) (s * b) n (product_over (λ k m. dilated k g) (replicate s 1) n)
bounded-product K b zero n g i h = bounded-weaken 1 (K ^ 0) 0 (0 * b) n (one n) (rw (pow-zero K) (omega arith)) (omega arith) (bounded-atom completes [] n)
bounded-product K b (suc s) n g i h =
    let rest = product_over (λ k m. dilated k g) (replicate s 1) n in
    bounded-weaken (K * K ^ s) (K ^ suc s) (b + s * b) (suc s * b) n (times (dilated 1 g) rest)
    (rw (pow-suc K s) (omega arith))
    (omega arith)
    (bounded-times K (K ^ s) b (s * b) n (dilated 1 g) rest (In-dilated 1 n g i)
    (In-product_over (λ k m. dilated k g) (replicate s 1) n (λ k. In-dilated k n g i))
    (bounded_respects K b n g (dilated 1 g) (Same_sym (dilated 1 g) g (dilated-once g)) h)
    (bounded-product K b s n g i h))

bounded-power : (K b s n : ℕ) (γs : List (List ℕ)) (g : Poly) → HavePlaces n γs → Same (monomial_sum γs) g → In n g → IsBounded K b n g
    → IsBounded (K ^ s) (s * b) n (substitute n γs (power s (length γs)))
bounded-power K b s n γs g h e i k =
    bounded_respects (K ^ s) (s * b) n (product_over (λ k m. dilated k g) (replicate s 1) n) (substitute n γs (power s (length γs)))
    (Same_sym (substitute n γs (power s (length γs))) (product_over (λ k m. dilated k g) (replicate s 1) n)
    (substitute-power_sum (replicate s 1) n γs g (ArePositive-ones s) h e))
    (bounded-product K b s n g i k)

bounded-powers : (K b a n : ℕ) (γs : List (List ℕ)) (g : Poly) (ds : List ℕ) → 1 ≤ K → HavePlaces n γs → Same (monomial_sum γs) g → In n g → IsBounded K b n g
    → ((d : ℕ) → Among d ds → d ≤ a) → IsBounded (length ds * K ^ a) (a * b) n (substitute n γs (powers ds (length γs)))
bounded-powers K b a n γs g [] o h e i k low = record { exponents = []; few = omega arith; low = λ j m. absurd m; majorant = λ α. omega (arith, ints) }
bounded-powers K b a n γs g (d ∷ ds) o h e i k low =
    let M = length γs in
    let first = substitute n γs (power d M) in
    let rest = substitute n γs (powers ds M) in
    let p = let r : K ^ d ≤ K ^ a = pow-le-pow_right o (low d (inl refl)) in r in
    let q = mul-le d b a b (low d (inl refl)) (omega arith) in
    bounded_respects (suc (length ds) * K ^ a) (a * b) n (plus first rest) (substitute n γs (powers (d ∷ ds) M))
    (Same_sym (substitute n γs (powers (d ∷ ds) M)) (plus first rest) (substitute-plus n γs (power d M) (powers ds M)))
    (bounded-weaken (K ^ d + length ds * K ^ a) (suc (length ds) * K ^ a) (max (d * b) (a * b)) (a * b) n (plus first rest)
    (omega arith)
    (omega arith)
    (bounded-plus (K ^ d) (length ds * K ^ a) (d * b) (a * b) n first rest (bounded-power K b d n γs g h e i k)
    (bounded-powers K b a n γs g ds o h e i k (λ j m. low j (inr m)))))

-- let g be the sum of the monomials γs. If f is bounded by N at the degree a, and g by K ≥ 1 at the degree b, then f with these monomials substituted
-- for its variables is bounded by N·K^a at the degree a·b
pub bounded-substitute : (N a K b n : ℕ) (γs : List (List ℕ)) (f g : Poly) → 1 ≤ K → HavePlaces n γs → Same (monomial_sum γs) g → In n g → IsBounded K b n g
    → IsBounded N a (length γs) f → IsBounded (N * K ^ a) (a * b) n (substitute n γs f)
bounded-substitute N a K b n γs f g o h e i k r =
    let F = powers r.exponents (length γs) in
    let m = mul-le (length r.exponents) (K ^ a) N (K ^ a) r.few (omega arith) in
    bounded-majorant (N * K ^ a) (a * b) n (substitute n γs F) (substitute n γs f) (majorant-substitute n γs F f r.majorant)
    (bounded-weaken (length r.exponents * K ^ a) (N * K ^ a) (a * b) (a * b) n (substitute n γs F) (omega arith) (omega arith)
    (bounded-powers K b a n γs g r.exponents o h e i k r.low))

-- if k > 0 and g is bounded by K at the degree b, g with each variable replaced by its k-th power is bounded by K^k at the
-- degree k·b
pub bounded-dilated : (K b k n : ℕ) (γs : List (List ℕ)) (g : Poly) → 0 < k → HavePlaces n γs → Same (monomial_sum γs) g → In n g → IsBounded K b n g
    → IsBounded (K ^ k) (k * b) n (dilated k g)
bounded-dilated K b k n γs g l h e i r =
    bounded_respects (K ^ k) (k * b) n (substitute n γs (power_sum_of k (length γs))) (dilated k g) (substitute-power_sum_of k n γs g l h e)
    (bounded-majorant (K ^ k) (k * b) n (substitute n γs (power k (length γs))) (substitute n γs (power_sum_of k (length γs)))
    (majorant-substitute n γs (power k (length γs)) (power_sum_of k (length γs)) (majorant-monomials (λ α. has k α) (length γs) k))
    (bounded-power K b k n γs g h e i r))

-- let g be the sum of the monomials γs. If g is bounded by K at the degree b, then p_λ with these monomials substituted for its variables is bounded
-- by K^|λ| at the degree |λ|·b; λ is `parts`
pub bounded-power_sum : (K b n : ℕ) (γs : List (List ℕ)) (g : Poly) (parts : List ℕ) → HavePlaces n γs → Same (monomial_sum γs) g → In n g → IsBounded K b n g
    → IsBounded (K ^ size parts) (size parts * b) n (substitute n γs (power_sum parts (length γs)))
bounded-power_sum K b n γs g parts h e i r =
    bounded-majorant (K ^ size parts) (size parts * b) n (substitute n γs (power (size parts) (length γs))) (substitute n γs (power_sum parts (length γs)))
    (majorant-substitute n γs (power (size parts) (length γs)) (power_sum parts (length γs)) (majorant-atom power_sums parts (length γs)))
    (bounded-power K b (size parts) n γs g h e i r)
