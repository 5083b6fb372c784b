-- The value of an expression without negation, difference and fraction (`HasNoSigns`) has no negative coefficient.
use Rattle.std.proofs.Common.{◌≡◌, ℕ, Bool, true, false, cond, List, [], ◌∷◌, map, sym, subst, inl, inr, refl, arith, ℤ, pos, ◌+ℤ◌, ◌*ℤ◌, filter, rules}
use Rattle.std.specs.Prelude.{◌≤ℤ◌}
use Rattle.std.proofs.lemmas.Int.{ints}
use Rattle.sym_model.specs.Sum.{Among}
use Rattle.sym_model.specs.Polynomial.{Term, Poly, same, coefficient, one, join, plus, scale, times}
use Rattle.sym_model.specs.Partition.{sorted_parts, size}
use Rattle.sym_model.specs.Bases.{exponent_lists, monomials, monomial, has, at_most_one, product_over, elementary_of, complete_of, power_sum_of}
use Rattle.sym_model.specs.Schur.{tableaux, content, letters_of}
use Rattle.sym_model.specs.Expansion.{Basis, elementaries, completes, power_sums, schurs, basis_polynomial}
use Rattle.sym_model.specs.Expression.{Tree, number, fraction, atom, negation, sum, difference, product, cleared_value, denominator}
use Rattle.sym_model.proofs.Sums.{Among_from_append, Among_from_map, Among_from_each}
use Rattle.sym_model.specs.WholeTerms.{WholeTerms}
use Rattle.monomial_laws.specs.ExpressionTerms.{in_monomials}
use Rattle.plethysm_laws.specs.PositiveExpression.{HasNoSigns}
use Rattle.sym_model.proofs.Integers.{product-nonnegative}

-- no term of the polynomial has a negative coefficient
abbrev pub AreNonnegative : Poly → Type 0
AreNonnegative f = (t : Term) → Among t f → pos 0 ≤ℤ t.1

pub coefficient-nonnegative : (f : Poly) → AreNonnegative f → (α : List ℕ) → pos 0 ≤ℤ coefficient f α
coefficient-nonnegative [] h α = omega (arith, ints)
coefficient-nonnegative (t ∷ f) h α = by (same t.0 α) t.1 (coefficient f α) (h t (inl refl)) (coefficient-nonnegative f (λ u m. h u (inr m)) α)
  where
    by : (b : Bool) (x y : ℤ) → pos 0 ≤ℤ x → pos 0 ≤ℤ y → pos 0 ≤ℤ (cond b x (pos 0) +ℤ y)
    by true x y p q = omega (arith, ints)
    by false x y p q = omega (arith, ints)

nonnegative-map : {A : Type 0} (f : A → Term) (xs : List A) → ((x : A) → Among x xs → pos 0 ≤ℤ (f x).1) → AreNonnegative (map f xs)
nonnegative-map f xs h t m = let r = Among_from_map f t xs m in subst (λ (u : Term). pos 0 ≤ℤ u.1) (sym r.2) (h r.0 r.1)

nonnegative-plus : (f g : Poly) → AreNonnegative f → AreNonnegative g → AreNonnegative (plus f g)
nonnegative-plus f g h k t m = elim (Among_from_append t f g m) [ inl u ↦ h t u | inr u ↦ k t u ]

nonnegative-times : (f g : Poly) → AreNonnegative f → AreNonnegative g → AreNonnegative (times f g)
nonnegative-times f g h k t m =
    let r = Among_from_each (λ (s : Term). map (λ (t : Term). (join s.0 t.0, s.1 *ℤ t.1)) g) t f m in
    nonnegative-map (λ (u : Term). (join (r.0).0 u.0, (r.0).1 *ℤ u.1)) g (λ u n. product-nonnegative (r.0).1 u.1 (h r.0 r.1) (k u n)) t r.2

nonnegative-scale : (q : ℕ) (f : Poly) → AreNonnegative f → AreNonnegative (scale (pos q) f)
nonnegative-scale q f h = nonnegative-map (λ (t : Term). (t.0, pos q *ℤ t.1)) f (λ t m. product-nonnegative (pos q) t.1 (omega (arith, ints)) (h t m))

nonnegative-one : (n : ℕ) → AreNonnegative (one n)
nonnegative-one n t (inl e) = subst (λ (u : Term). pos 0 ≤ℤ u.1) (sym e) (omega (arith, ints))
nonnegative-one n t (inr m) = absurd m

nonnegative-monomials : (test : List ℕ → Bool) (n d : ℕ) → AreNonnegative (monomials test n d)
nonnegative-monomials test n d = nonnegative-map (λ α. (α, pos 1)) (filter test (exponent_lists n d)) (λ α m. omega (arith, ints))

nonnegative-product_over : (f : ℕ → ℕ → Poly) (parts : List ℕ) (n : ℕ) → ((k : ℕ) → AreNonnegative (f k n)) → AreNonnegative (product_over f parts n)
nonnegative-product_over f [] n h = nonnegative-one n
nonnegative-product_over f (k ∷ parts) n h = nonnegative-times (f k n) (product_over f parts n) (h k) (nonnegative-product_over f parts n h)

nonnegative-atom : (basis : Basis) (parts : List ℕ) (n : ℕ) → AreNonnegative (basis_polynomial basis parts n)
nonnegative-atom Basis.monomials parts n = nonnegative-monomials (λ α. same (sorted_parts α) parts) n (size parts)
nonnegative-atom elementaries parts n = nonnegative-product_over elementary_of parts n (λ k. nonnegative-monomials at_most_one n k)
nonnegative-atom completes parts n = nonnegative-product_over complete_of parts n (λ k. nonnegative-monomials (λ α. true) n k)
nonnegative-atom power_sums parts n = nonnegative-product_over power_sum_of parts n (λ k. nonnegative-monomials (has k) n k)
nonnegative-atom schurs parts n = nonnegative-map (λ (filling : List (List ℕ)). (content n (letters_of filling), pos 1)) (tableaux n parts []) (λ filling m. omega (arith, ints))

pub nonnegative-value : (e : Tree) (n : ℕ) → HasNoSigns e → AreNonnegative (cleared_value e n)
nonnegative-value (number a) n h = nonnegative-scale a (one n) (nonnegative-one n)
nonnegative-value (fraction a b) n h = absurd h
nonnegative-value (atom basis parts) n h = nonnegative-atom basis parts n
nonnegative-value (negation e) n h = absurd h
nonnegative-value (sum e f) n h = search (rules, nonnegative-plus, nonnegative-scale, (nonnegative-value e n h.0), (nonnegative-value f n h.1))
nonnegative-value (difference e f) n h = absurd h
nonnegative-value (product e f) n h = nonnegative-times (cleared_value e n) (cleared_value f n) (nonnegative-value e n h.0) (nonnegative-value f n h.1)

pub denominator-one : (e : Tree) → HasNoSigns e → denominator e ≡ 1
denominator-one (number a) h = refl
denominator-one (fraction a b) h = absurd h
denominator-one (atom basis parts) h = refl
denominator-one (negation e) h = absurd h
denominator-one (sum e f) h = rw (denominator-one e h.0, denominator-one f h.1) refl
denominator-one (difference e f) h = absurd h
denominator-one (product e f) h = rw (denominator-one e h.0, denominator-one f h.1) refl

pub nonnegative-monomial_terms : (W : WholeTerms) (n : ℕ) → AreNonnegative W → AreNonnegative (in_monomials W n)
nonnegative-monomial_terms W n h t m =
    let r = Among_from_each (λ (t : List ℕ × ℤ). scale t.1 (monomial t.0 n)) t W m in
    nonnegative-map (λ (u : Term). (u.0, (r.0).1 *ℤ u.1)) (monomial (r.0).0 n)
    (λ u k. product-nonnegative (r.0).1 u.1 (h r.0 r.1) (nonnegative-monomials (λ α. same (sorted_parts α) (r.0).0) n (size (r.0).0) u k)) t r.2
