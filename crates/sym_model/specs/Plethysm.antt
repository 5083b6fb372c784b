-- Plethysm: the variables of one symmetric polynomial replaced by the monomials of another
-- (Macdonald, I.8).
use Rattle.std.specs.Prelude.{ℕ, zero, suc, ◌+◌, ◌-◌, ◌*◌, ◌^◌, max, nat_abs, List, [], ◌∷◌, map}
use Rattle.std.specs.Prelude.{length, replicate, flat_map}
use Rattle.sym_model.specs.Polynomial.{Term, Poly, coefficient, no_exponents, join}
use Rattle.sym_model.specs.Bases.{down_from}
use Rattle.sym_model.specs.Expansion.{power_sums}
use Rattle.sym_model.specs.Weight.{factorial, growth}

-- the list with each number multiplied by k: the exponents of the k-th power of x^α
abbrev pub multiplied : ℕ → List ℕ → List ℕ
multiplied k α = map (λ a. k * a) α

-- the exponents of the monomial in n variables that x^α becomes if, for each j, its j-th variable is replaced by the
-- monomial x^(γ_j), for the exponent lists γs = γ_1, γ_2, ..
abbrev pub replaced : ℕ → List (List ℕ) → List ℕ → List ℕ
replaced n [] α = no_exponents n
replaced n (γ ∷ γs) [] = no_exponents n
replaced n (γ ∷ γs) (a ∷ α) = join (multiplied a γ) (replaced n γs α)

-- the polynomial f with, for each j, its j-th variable replaced by the monomial x^(γ_j) in n variables, for the
-- exponent lists γs = γ_1, γ_2, ..
abbrev pub substitute : ℕ → List (List ℕ) → Poly → Poly
substitute n γs f = map (λ (t : Term). (replaced n γs t.0, t.1)) f

-- the exponent lists of n places whose sum is at most d, in decreasing lexicographic order
abbrev pub exponent_lists_within : ℕ → ℕ → List (List ℕ)
exponent_lists_within zero d = [] ∷ []
exponent_lists_within (suc n) d =
    flat_map (λ a. map (λ α. a ∷ α) (exponent_lists_within n (d - a))) (down_from d)

-- the exponent lists of the monomials of g, each as many times as its coefficient in g, in decreasing lexicographic
-- order; g is a polynomial in n variables, of degree at most d and without negative coefficients
abbrev pub repeated_monomials : ℕ → ℕ → Poly → List (List ℕ)
repeated_monomials d n g =
    flat_map (λ α. replicate (nat_abs (coefficient g α)) α) (exponent_lists_within n d)

-- f[g] in n variables: the polynomial f N, in N variables, with the N monomials of the list `repeated_monomials d n g`
-- in place of its variables; g is a polynomial in n variables of degree at most d
abbrev pub plethysm : (ℕ → Poly) → ℕ → ℕ → Poly → Poly
plethysm f d n g =
    let γs = repeated_monomials d n g in
    substitute n γs (f (length γs))

-- the weight of a plethysm, which bounds every number in its computation: N·D·(a+1)·(K·(b+1))^a·C, with C the greater
-- of B(a)·(ab)! and B(ab), and B(d) = d!·(2d)^d. The outer expression has the degree a and the denominator D, and N
-- bounds D times the sum of the absolute values of its coefficients. The inner expression has the degree b, and K
-- bounds the sum of the absolute values of its coefficients.
abbrev pub plethysm_weight : ℕ → ℕ → ℕ → ℕ → ℕ → ℕ
plethysm_weight N D a K b =
    N * D * (a + 1) * (K * (b + 1)) ^ a
    * max (growth power_sums a * factorial (a * b)) (growth power_sums (a * b))
