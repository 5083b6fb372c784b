-- A polynomial without negative coefficients is the sum of its monomials, each repeated as often as its coefficient says (`repeated_monomials`).
use Rattle.std.proofs.Common.{◌≡◌, ◌⊎◌, ℕ, zero, suc, ◌+◌, ◌-◌, ◌<◌, ◌≤◌, Bool, true, false, ◌&&◌, cond, eqb, leb, List, [], ◌∷◌, map, length, replicate, sym, ◌∙◌, ap, refl, inl, inr, arith, ℤ, pos, ◌+ℤ◌, ◌*ℤ◌, rules}
use Rattle.std.specs.Prelude.{nat_abs}
use Rattle.std.proofs.lemmas.Int.{ints}
use Rattle.std.proofs.lemmas.Bool.{cases_lt, cases_eq, le-leb, lt-leb, leb-true, eq-eqb, ne_eqb, eqb-true, and_parts, and_from}
use Rattle.sym_model.specs.Sum.{total, Among}
use Rattle.sym_model.specs.Polynomial.{Poly, same, coefficient, Same}
use Rattle.sym_model.specs.Partition.{size}
use Rattle.sym_model.specs.Bases.{down_from}
use Rattle.sym_model.proofs.Ring.{distributes_right, one-product}
use Rattle.sym_model.proofs.Sums.{total_ext, total_zero, total_none, total_map, total_each, Among_from_map, Among_from_each}
use Rattle.sym_model.proofs.Exponents.{tests_agree}
use Rattle.sym_model.proofs.Polynomials.{at_only, coefficient_pair, coefficient_outside, pair_monomials}
use Rattle.sym_model.proofs.Monomials.{total_down_from-only}
use Rattle.sym_model.specs.Plethysm.{exponent_lists_within, repeated_monomials}
use Rattle.plethysm_laws.specs.SumsOfMonomials.{HavePlaces, IsMonomialSum, monomial_sum}
use lib.IntN.{+ℤ_idr, zero-*ℤ}
use Rattle.sym_model.proofs.Integers.{chosen_as_product, nested_tests}

-- whether γ has n entries with a sum of at most d
abbrev is_within : ℕ → ℕ → List ℕ → Bool
is_within n d γ = eqb (length γ) n && leb (size γ) d

total_within-only : (φ : List ℕ → ℤ) (γ : List ℕ) (n d : ℕ) → total (λ (α : List ℕ). cond (same α γ) (φ α) (pos 0)) (exponent_lists_within n d) ≡ cond (is_within n d γ) (φ γ) (pos 0)
total_within-only φ [] zero d = rw (le-leb 0 d (omega arith)) (+ℤ_idr (φ []))
total_within-only φ (c ∷ γ) zero d = rw (ne_eqb (suc (length γ)) 0 (λ e. omega arith)) refl
total_within-only φ [] (suc n) d = search (rules, total_each, total_none, total_map, total_zero, ne_eqb)
total_within-only φ (c ∷ γ) (suc n) d =
    total_each F (λ (a : ℕ). map (λ (α : List ℕ). a ∷ α) (exponent_lists_within n (d - a))) (down_from d)
    ∙ total_ext
    (λ (a : ℕ). total F (map (λ (α : List ℕ). a ∷ α) (exponent_lists_within n (d - a))))
    (λ (a : ℕ). cond (eqb a c) (inner a) (pos 0))
    (λ a. total_map F (λ (α : List ℕ). a ∷ α) (exponent_lists_within n (d - a)) ∙ row a (eqb a c) (total_within-only (λ α. φ (a ∷ α)) γ n (d - a)))
    (down_from d)
    ∙ total_down_from-only inner c d
    ∙ nested_tests (leb c d) (is_within n (d - c) γ) (φ (c ∷ γ))
    ∙ ap (λ b. cond b (φ (c ∷ γ)) (pos 0)) (tests_agree (leb c d && is_within n (d - c) γ) (is_within (suc n) d (c ∷ γ)) there back)
  where
    F : List ℕ → ℤ
    F α = cond (same α (c ∷ γ)) (φ α) (pos 0)

    inner : ℕ → ℤ
    inner a = cond (is_within n (d - a) γ) (φ (a ∷ γ)) (pos 0)

    row : (a : ℕ) (b : Bool) → total (λ (α : List ℕ). cond (same α γ) (φ (a ∷ α)) (pos 0)) (exponent_lists_within n (d - a)) ≡ inner a
        → total (λ (α : List ℕ). cond (b && same α γ) (φ (a ∷ α)) (pos 0)) (exponent_lists_within n (d - a)) ≡ cond b (inner a) (pos 0)
    row a true e = e
    row a false e = total_zero (exponent_lists_within n (d - a))

    there : (leb c d && is_within n (d - c) γ) ≡ true → is_within (suc n) d (c ∷ γ) ≡ true
    there t =
        let p = and_parts (leb c d) (is_within n (d - c) γ) t in
        let q = and_parts (eqb (length γ) n) (leb (size γ) (d - c)) p.1 in
        let l = leb-true c d p.0 in
        let u = eqb-true (length γ) n q.0 in
        let v = leb-true (size γ) (d - c) q.1 in
        and_from (eqb (suc (length γ)) (suc n)) (leb (c + size γ) d) (eq-eqb (suc (length γ)) (suc n) (omega arith)) (le-leb (c + size γ) d (omega arith))

    back : is_within (suc n) d (c ∷ γ) ≡ true → (leb c d && is_within n (d - c) γ) ≡ true
    back t =
        let q = and_parts (eqb (suc (length γ)) (suc n)) (leb (c + size γ) d) t in
        let u = eqb-true (suc (length γ)) (suc n) q.0 in
        let v = leb-true (c + size γ) d q.1 in
        and_from (leb c d) (is_within n (d - c) γ) (le-leb c d (omega arith))
        (and_from (eqb (length γ) n) (leb (size γ) (d - c)) (eq-eqb (length γ) n (omega arith)) (le-leb (size γ) (d - c) (omega arith)))

-- ---- sums over the monomials of g, each repeated as often as its coefficient says

total-replicate : {A : Type 0} (f : A → ℤ) (k : ℕ) (x : A) → total f (replicate k x) ≡ pos k *ℤ f x
total-replicate f zero x = sym (zero-*ℤ (f x))
total-replicate f (suc k) x = search (rules, one-product, distributes_right, (total-replicate f k x))

coefficient_repeated : (d n : ℕ) (g : Poly) (β : List ℕ) → coefficient (monomial_sum (repeated_monomials d n g)) β ≡ cond (is_within n d β) (pos (nat_abs (coefficient g β))) (pos 0)
coefficient_repeated d n g β =
    coefficient_pair (monomial_sum (repeated_monomials d n g)) β
    ∙ pair_monomials (repeated_monomials d n g) (at_only β)
    ∙ total_each (at_only β) (λ (α : List ℕ). replicate (nat_abs (coefficient g α)) α) (exponent_lists_within n d)
    ∙ total_ext
    (λ (α : List ℕ). total (at_only β) (replicate (nat_abs (coefficient g α)) α))
    (λ (α : List ℕ). cond (same α β) (pos (nat_abs (coefficient g α))) (pos 0))
    (λ α. total-replicate (at_only β) (nat_abs (coefficient g α)) α ∙ sym (chosen_as_product (same α β) (pos (nat_abs (coefficient g α)))))
    (exponent_lists_within n d)
    ∙ total_within-only (λ α. pos (nat_abs (coefficient g α))) β n d

pub repeated-sum : (d n : ℕ) (g : Poly) → IsMonomialSum d n g → Same (monomial_sum (repeated_monomials d n g)) g
repeated-sum d n g h β = coefficient_repeated d n g β ∙ by (cases_eq (length β) n) (cases_lt d (size β))
  where
    by : (length β ≡ n) ⊎ (length β ≡ n → ⊥) → (d < size β) ⊎ (size β ≤ d) → cond (is_within n d β) (pos (nat_abs (coefficient g β))) (pos 0) ≡ coefficient g β
    by (inr o) u = rw (ne_eqb (length β) n o) (sym (coefficient_outside n g β h.places o))
    by (inl e) (inl l) = rw (eq-eqb (length β) n e, lt-leb (size β) d l) (sym (h.low β e l))
    by (inl e) (inr l) = rw (eq-eqb (length β) n e, le-leb (size β) d l) (let p = h.natural β in omega (arith, ints))

length-within : (n d : ℕ) (α : List ℕ) → Among α (exponent_lists_within n d) → length α ≡ n
length-within zero d α (inl e) = ap length e
length-within zero d α (inr m) = absurd m
length-within (suc n) d α m =
    let r = Among_from_each (λ a. map (λ α. a ∷ α) (exponent_lists_within n (d - a))) α (down_from d) m in
    let s = Among_from_map (λ α. r.0 ∷ α) α (exponent_lists_within n (d - r.0)) r.2 in
    ap length s.2 ∙ ap suc (length-within n (d - r.0) s.0 s.1)

among_replicate : {A : Type 0} (k : ℕ) (x y : A) → Among y (replicate k x) → y ≡ x
among_replicate zero x y m = absurd m
among_replicate (suc k) x y (inl e) = e
among_replicate (suc k) x y (inr m) = among_replicate k x y m

pub repeated-places : (d n : ℕ) (g : Poly) → HavePlaces n (repeated_monomials d n g)
repeated-places d n g γ m =
    let r = Among_from_each (λ α. replicate (nat_abs (coefficient g α)) α) γ (exponent_lists_within n d) m in
    ap length (among_replicate (nat_abs (coefficient g r.0)) r.0 γ r.2) ∙ length-within n d r.0 r.1
