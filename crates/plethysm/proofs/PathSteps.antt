-- For a list W in m, that is, a list of terms c·m_μ: the sum of c·p_λ[W] over the terms c·p_λ of a list, and the sum after one more term of this list
-- is added.
use Rattle.std.proofs.Common.{◌≡◌, ℕ, ◌+◌, ◌*◌, ◌^◌, ◌≤◌, List, [], ◌∷◌, ◌++◌, length, sym, ◌∙◌, ap, ap₂, subst, inl, inr, arith, ℤ, pos, ◌+ℤ◌, ◌*ℤ◌, append-nil, append_assoc}
use Rattle.std.specs.Prelude.{nat_abs}
use Rattle.std.proofs.lemmas.Int.{ints, unsigned_abs-mul}
use Rattle.sym_model.specs.Partition.{IsPartition}
use Rattle.sym_model.specs.Polynomial.{Poly, Same, coefficient, plus, scale, pair}
use Rattle.sym_model.specs.Bases.{monomial}
use Rattle.sym_model.specs.WholeTerms.{WholeTerms, combined}
use Rattle.sym_model.proofs.Ring.{one-product}
use Rattle.sym_model.proofs.Polynomials.{pair_plus, pair_scale, pair_determined, coefficient_plus, coefficient_scale}
use Rattle.sym_model.proofs.WholeTerms.{coefficient-combined}
use Rattle.monomial_laws.specs.ExpressionTerms.{in_monomials, IsList}
use Rattle.sparse_polys.specs.Large.{SumIsLarge}
use Rattle.sparse_polys.proofs.Bounds.{coefficient-list}
use Rattle.plethysm_laws.specs.PowerSumPlethysm.{met}
use Rattle.plethysm_laws.proofs.PathBounds.{coefficient-met}
use Rattle.plethysm.specs.PathSums.{power_sum_in, power_sum_at, IsPastPath}

pub sum-value : (A B S : WholeTerms) (z : ℤ) (P : ℕ → Poly) → Same S (plus (scale (pos 1) A) (scale z B)) → IsList B P → (n : ℕ) → Same (in_monomials S n) (plus (in_monomials A n) (scale z (P n)))
sum-value A B S z P e h n α =
    let ψ : List ℕ → ℤ = λ l. coefficient (monomial l n) α in
    coefficient-combined (λ label. monomial label n) S α
    ∙ pair_determined S (plus (scale (pos 1) A) (scale z B)) ψ e
    ∙ pair_plus (scale (pos 1) A) (scale z B) ψ
    ∙ ap₂ ◌+ℤ◌
    (pair_scale (pos 1) A ψ ∙ one-product (pair A ψ) ∙ sym (coefficient-combined (λ label. monomial label n) A α))
    (pair_scale z B ψ ∙ ap (λ y. z *ℤ y) (sym (coefficient-combined (λ label. monomial label n) B α) ∙ h n α) ∙ sym (coefficient_scale z (P n) α))
    ∙ sym (coefficient_plus (in_monomials A n) (scale z (P n)) α)

-- if A, z·B or A + z·B has a coefficient of absolute value 2^127 or more (`SumIsLarge`), then |a| + |z|·|b| is 2^127 or more for the coefficients a
-- of A and b of B at some partition ν
pub sum-large : (A B : WholeTerms) (z : ℤ) (P : ℕ → Poly) → IsList B P → SumIsLarge A B (pos 1) z
    → (ν : List ℕ) × IsPartition ν × (2 ^ 127 ≤ nat_abs (coefficient A ν) + nat_abs z * nat_abs (coefficient (P (length ν)) ν))
sum-large A B z P h (inl l) = (
  l.label,
  l.partition,
  first (2 ^ 127) (coefficient A l.label) (coefficient (scale (pos 1) A) l.label) (nat_abs z * nat_abs (coefficient (P (length l.label)) l.label)) (coefficient_scale (pos 1) A l.label ∙ one-product (coefficient A l.label)) l.large,
)
  where
    first : (m : ℕ) (a b : ℤ) (r : ℕ) → b ≡ a → m ≤ nat_abs b → m ≤ nat_abs a + r
    first m a b r e k = omega (arith, ap nat_abs e)
sum-large A B z P h (inr (inl l)) =
    let e = coefficient-list B P h l.label l.partition in (
      l.label,
      l.partition,
      second (2 ^ 127) z (coefficient B l.label) (coefficient (P (length l.label)) l.label) (coefficient (scale z B) l.label) (nat_abs (coefficient A l.label)) (coefficient_scale z B l.label) e l.large,
    )
  where
    second : (m : ℕ) (z b p y : ℤ) (r : ℕ) → y ≡ z *ℤ b → b ≡ p → m ≤ nat_abs y → m ≤ r + nat_abs z * nat_abs p
    second m z b p y r e f k = let u = unsigned_abs-mul z p in let v = ap nat_abs (e ∙ ap (λ x. z *ℤ x) f) in omega (arith, u, v)
sum-large A B z P h (inr (inr l)) =
    let e = coefficient-list B P h l.label l.partition in (
      l.label,
      l.partition,
      both (2 ^ 127) z (coefficient A l.label) (coefficient B l.label) (coefficient (P (length l.label)) l.label) (coefficient (plus (scale (pos 1) A) (scale z B)) l.label)
          (coefficient_plus (scale (pos 1) A) (scale z B) l.label ∙ ap₂ ◌+ℤ◌ (coefficient_scale (pos 1) A l.label ∙ one-product (coefficient A l.label)) (coefficient_scale z B l.label)) e l.large,
    )
  where
    add : (m : ℕ) (a u y : ℤ) (s : ℕ) → y ≡ a +ℤ u → nat_abs u ≡ s → m ≤ nat_abs y → m ≤ nat_abs a + s
    add m a u y s e f k = omega (arith, ints)

    both : (m : ℕ) (z a b p y : ℤ) → y ≡ a +ℤ z *ℤ b → b ≡ p → m ≤ nat_abs y → m ≤ nat_abs a + nat_abs z * nat_abs p
    both m z a b p y e f k = add m a (z *ℤ p) y (nat_abs z * nat_abs p) (e ∙ ap (λ x. a +ℤ z *ℤ x) f) (unsigned_abs-mul z p) k

combined-push : (P : List ℕ → Poly) (W : WholeTerms) (t : List ℕ × ℤ) → combined P (W ++ t ∷ []) ≡ plus (combined P W) (scale t.1 (P t.0))
combined-push P [] t = append-nil (scale t.1 (P t.0))
combined-push P (u ∷ W) t = ap (λ f. scale u.1 (P u.0) ++ f) (combined-push P W t) ∙ sym (append_assoc (scale u.1 (P u.0)) (combined P W) (scale t.1 (P t.0)))

met-append : (f : List ℕ → ℤ) (V U : WholeTerms) → met (V ++ U) f ≡ met V f + met U f
met-append f [] U = omega arith
met-append f (t ∷ V) U = omega (arith, met-append f V U)

-- let x be the term z·p_λ: if S is the sum of c·p_μ[W] over the terms `done`, and T is S plus z·p_λ[W], then T is the sum over the terms `done` and x
pub path-step : (n : ℕ) (W S T done : WholeTerms) (x : List ℕ × ℤ)
    → Same (in_monomials S n) (combined (λ label. power_sum_in W label n) done)
    → Same (in_monomials T n) (plus (in_monomials S n) (scale x.1 (power_sum_in W x.0 n)))
    → Same (in_monomials T n) (combined (λ label. power_sum_in W label n) (done ++ x ∷ []))
path-step n W S T done x h k α =
    let P : List ℕ → Poly = λ label. power_sum_in W label n in
    k α
    ∙ coefficient_plus (in_monomials S n) (scale x.1 (power_sum_in W x.0 n)) α
    ∙ ap (λ y. y +ℤ coefficient (scale x.1 (power_sum_in W x.0 n)) α) (h α)
    ∙ sym (coefficient_plus (combined P done) (scale x.1 (power_sum_in W x.0 n)) α)
    ∙ sym (ap (λ f. coefficient f α) (combined-push P done x))

-- let S be the sum of c·p_μ[W] over the terms `done`, and x the next term z·p_λ, and let |P| be the absolute value of the coefficient of P at ν: if
-- |S| + |z|·|p_λ[W]| is at least m, so is the sum of |c|·|p_μ[W]| over all terms c·p_μ
pub path-past : (m : ℕ) (W S done rest : WholeTerms) (x : List ℕ × ℤ) (ν : List ℕ) → IsPartition ν
    → ((n : ℕ) → Same (in_monomials S n) (combined (λ label. power_sum_in W label n) done))
    → m ≤ nat_abs (coefficient S ν) + nat_abs x.1 * nat_abs (power_sum_at W ν x.0)
    → m ≤ met (done ++ (x ∷ rest)) (power_sum_at W ν)
path-past m W S done rest x ν p h l =
    let a = coefficient-list S (λ n. combined (λ label. power_sum_in W label n) done) h ν p in
    let b = coefficient-met (λ label. power_sum_in W label (length ν)) done ν in
    let d = met-append (power_sum_at W ν) done (x ∷ rest) in
    let g = ap nat_abs a in
    omega arith

pub past-from_step : (K b : ℕ) (W S B done rest terms : WholeTerms) (x : List ℕ × ℤ) → done ++ (x ∷ rest) ≡ terms → IsList B (power_sum_in W x.0)
    → ((n : ℕ) → Same (in_monomials S n) (combined (λ label. power_sum_in W label n) done))
    → SumIsLarge S B (pos 1) x.1 → IsPastPath K b W terms
past-from_step K b W S B done rest terms x all list h large =
    let (ν, p, l) = sum-large S B x.1 (power_sum_in W x.0) list large in
    inr (ν, p, subst (λ (es : WholeTerms). 2 ^ 127 ≤ met es (power_sum_at W ν)) all (path-past (2 ^ 127) W S done rest x ν p h l))
