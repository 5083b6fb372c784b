-- A power sum p_a times a monomial symmetric polynomial m_λ.
--     power_sum_times_monomial    p_a·m_λ is the sum of the terms `raised_terms a λ`, in every number of variables
--
-- The coefficient of x^α in p_a·m_λ is the number of places of α from which a can be subtracted so that the list then sorts to λ
-- (`coefficient-power_sum_times`). At such a place the entry of α is a + b with b a part of λ or 0, and α sorts to λ with one b
-- replaced by a + b. If there is one such place, every place with the same entry is another one.
use Rattle.std.proofs.Common.{◌≡◌, ◌⊎◌, ℕ, zero, suc, ◌+◌, ◌-◌, ◌<◌, ◌≤◌, Bool, true, false, ◌&&◌, cond, eqb, leb, List, [], ◌∷◌, map, length, replicate, sym, ◌∙◌, ap, ap₂, refl, inl, inr, arith, ℤ, pos, ◌+ℤ◌, ◌*ℤ◌, rules}
use Rattle.std.proofs.lemmas.Int.{ints}
use Rattle.std.proofs.lemmas.Bool.{cases_lt, cases_eq, le-leb, lt-leb, leb-true, eq-eqb, ne_eqb, eqb-true, and_parts, and_from}
use Rattle.sym_model.specs.Sum.{total, Among}
use Rattle.sym_model.specs.Polynomial.{Term, Poly, same, coefficient, Same, In, join, pair, times}
use Rattle.sym_model.specs.Partition.{IsPartition, size, insert_part, sorted_parts}
use Rattle.sym_model.specs.Bases.{has, monomial, power_sum_of}
use Rattle.sym_model.specs.Schur.{times_in}
use Rattle.sym_model.specs.WholeTerms.{combined}
use Rattle.sym_model.specs.RaisedPart.{raise, distinct}
use Rattle.monomial_laws.specs.LoweredPart.{lowered}
use Rattle.monomial_laws.specs.PowerSumProduct.{raised_terms}
use Rattle.sym_model.proofs.Sums.{total_append, total_ext, total_among, total_zero, total_none, total_map, total_exchange, Among_from_append, Among_from_map, total_cond}
use Rattle.sym_model.proofs.Exponents.{tests_agree, same_true, same_from, join_zeros}
use Rattle.sym_model.proofs.Polynomials.{at_only, coefficient_pair, pair_times, pair_total, pair_in}
use Rattle.sym_model.proofs.SortedParts.{insert_part_comm, IsPartition-sorted_parts, times_in-sorted_parts, raised_from_lowered, lowered_from_raised}
use Rattle.sym_model.proofs.Monomials.{one_place, pair-power_sum_of, coefficient-monomial, In-monomials}
use Rattle.sym_model.proofs.WholeTerms.{coefficient-combined}
use Rattle.sym_model.proofs.Ring.{product-one}
use lib.IntN.{+ℤ_idl, +ℤ_idr, *ℤ-zero}
use Rattle.sym_model.proofs.Integers.{nested_tests}

-- for each entry of α, the pair of this entry and the list of the other entries
abbrev pub spots : List ℕ → List (ℕ × List ℕ)
spots [] = []
spots (c ∷ α) = (c, α) ∷ map (λ (s : ℕ × List ℕ). (s.0, c ∷ s.1)) (spots α)

pub length-lowered : (a : ℕ) (α γ : List ℕ) → Among γ (lowered a α) → length γ ≡ length α
length-lowered a [] γ m = absurd m
length-lowered a (c ∷ α) γ m = by (leb a c) (Among_from_append γ (cond (leb a c) (((c - a) ∷ α) ∷ []) []) (map (λ (δ : List ℕ). c ∷ δ) (lowered a α)) m) (length-lowered a α)
  where
    by : (b : Bool) → Among γ (cond b (((c - a) ∷ α) ∷ []) []) ⊎ Among γ (map (λ (δ : List ℕ). c ∷ δ) (lowered a α)) → ((δ : List ℕ) → Among δ (lowered a α) → length δ ≡ length α) → length γ ≡ suc (length α)
    by true (inl (inl e)) r = ap length e
    by true (inl (inr u)) r = absurd u
    by false (inl u) r = absurd u
    by b (inr u) r = let s = Among_from_map (λ (δ : List ℕ). c ∷ δ) γ (lowered a α) u in ap length s.2 ∙ ap suc (r s.0 s.1)

total_lowered-empty : (a : ℕ) (α : List ℕ) → total (λ (γ : List ℕ). at_only γ []) (lowered a α) ≡ pos 0
total_lowered-empty a [] = refl
total_lowered-empty a (c ∷ α) =
    total_append (λ (γ : List ℕ). at_only γ []) (cond (leb a c) (((c - a) ∷ α) ∷ []) []) (map (λ (γ : List ℕ). c ∷ γ) (lowered a α))
    ∙ ap₂ ◌+ℤ◌ (by (leb a c)) (total_map (λ (γ : List ℕ). at_only γ []) (λ (γ : List ℕ). c ∷ γ) (lowered a α) ∙ total_zero (lowered a α))
  where
    by : (b : Bool) → total (λ (γ : List ℕ). at_only γ []) (cond b (((c - a) ∷ α) ∷ []) []) ≡ pos 0
    by true = refl
    by false = refl

-- let β have the length n. The number of exponent lists ε = (0, .., 0, a, 0, .., 0) with ε + β = α is the number of places at which subtracting a
-- from α gives β
pub total_one_place-join : (a n : ℕ) (β α : List ℕ) → length β ≡ n → total (λ (ε : List ℕ). at_only α (join ε β)) (one_place a n) ≡ total (λ (γ : List ℕ). at_only γ β) (lowered a α)
total_one_place-join a zero [] α l = sym (total_lowered-empty a α)
total_one_place-join a zero (b ∷ β) α l = absurd (omega arith)
total_one_place-join a (suc n) [] α l = absurd (omega arith)
total_one_place-join a (suc n) (b ∷ β) [] l =
    +ℤ_idl (total (λ (ε : List ℕ). at_only [] (join ε (b ∷ β))) (map (λ (ε : List ℕ). 0 ∷ ε) (one_place a n)))
    ∙ total_map (λ (ε : List ℕ). at_only [] (join ε (b ∷ β))) (λ (ε : List ℕ). 0 ∷ ε) (one_place a n)
    ∙ total_zero (one_place a n)
total_one_place-join a (suc n) (b ∷ β) (c ∷ α) l =
    ap₂ ◌+ℤ◌ first (second (total_one_place-join a n β α (omega arith)))
    ∙ sym (total_append (λ (γ : List ℕ). at_only γ (b ∷ β)) (cond (leb a c) (((c - a) ∷ α) ∷ []) []) (map (λ (γ : List ℕ). c ∷ γ) (lowered a α)))
  where
    first : at_only (c ∷ α) (join (a ∷ replicate n 0) (b ∷ β)) ≡ total (λ (γ : List ℕ). at_only γ (b ∷ β)) (cond (leb a c) (((c - a) ∷ α) ∷ []) [])
    first = ap (λ δ. cond (eqb (a + b) c && same δ α) (pos 1) (pos 0)) (join_zeros n β (omega arith)) ∙ by (cases_lt c a)
      where
        by : (c < a) ⊎ (a ≤ c) → cond (eqb (a + b) c && same β α) (pos 1) (pos 0) ≡ total (λ (γ : List ℕ). at_only γ (b ∷ β)) (cond (leb a c) (((c - a) ∷ α) ∷ []) [])
        by (inl h) = rw (ne_eqb (a + b) c (λ e. omega arith), lt-leb a c h) refl
        by (inr h) =
            let e : eqb (a + b) c ≡ eqb b (c - a) =
            tests_agree (eqb (a + b) c) (eqb b (c - a))
            (λ t. let u = eqb-true (a + b) c t in eq-eqb b (c - a) (omega arith))
            (λ t. let u = eqb-true b (c - a) t in eq-eqb (a + b) c (omega arith)) in
            rw (e, le-leb a c h) (sym (+ℤ_idr (cond (eqb b (c - a) && same β α) (pos 1) (pos 0))))

    row : (x : Bool) → total (λ (ε : List ℕ). at_only α (join ε β)) (one_place a n) ≡ total (λ (γ : List ℕ). at_only γ β) (lowered a α)
        → total (λ (ε : List ℕ). cond (x && same (join ε β) α) (pos 1) (pos 0)) (one_place a n) ≡ total (λ (γ : List ℕ). cond (x && same β γ) (pos 1) (pos 0)) (lowered a α)
    row true h = h
    row false h = total_zero (one_place a n) ∙ sym (total_zero (lowered a α))

    second : total (λ (ε : List ℕ). at_only α (join ε β)) (one_place a n) ≡ total (λ (γ : List ℕ). at_only γ β) (lowered a α)
        → total (λ (ε : List ℕ). at_only (c ∷ α) (join ε (b ∷ β))) (map (λ (ε : List ℕ). 0 ∷ ε) (one_place a n)) ≡ total (λ (γ : List ℕ). at_only γ (b ∷ β)) (map (λ (γ : List ℕ). c ∷ γ) (lowered a α))
    second h =
        total_map (λ (ε : List ℕ). at_only (c ∷ α) (join ε (b ∷ β))) (λ (ε : List ℕ). 0 ∷ ε) (one_place a n)
        ∙ ap (λ k. total (λ (ε : List ℕ). cond (eqb k c && same (join ε β) α) (pos 1) (pos 0)) (one_place a n)) (let e : 0 + b ≡ b = omega arith in e)
        ∙ row (eqb b c) h
        ∙ sym (total_map (λ (γ : List ℕ). at_only γ (b ∷ β)) (λ (γ : List ℕ). c ∷ γ) (lowered a α))

-- if a > 0, the coefficient of x^α in p_a·g is the sum of the coefficients of g at the lists obtained from α by subtracting a from one entry
pub coefficient-power_sum_times : (a n : ℕ) (g : Poly) (α : List ℕ) → 0 < a → In n g → coefficient (times (power_sum_of a n) g) α ≡ total (coefficient g) (lowered a α)
coefficient-power_sum_times a n g α h i =
    coefficient_pair (times (power_sum_of a n) g) α
    ∙ pair_times (power_sum_of a n) g (at_only α)
    ∙ pair-power_sum_of a n (λ ε. pair g (λ β. at_only α (join ε β))) h
    ∙ sym (pair_total g (λ (ε : List ℕ) (β : List ℕ). at_only α (join ε β)) (one_place a n))
    ∙ pair_in n g (λ β. total (λ (ε : List ℕ). at_only α (join ε β)) (one_place a n)) (λ β. total (λ (γ : List ℕ). at_only γ β) (lowered a α)) i (λ β l. total_one_place-join a n β α l)
    ∙ pair_total g (λ (γ : List ℕ) (β : List ℕ). at_only γ β) (lowered a α)
    ∙ total_ext (λ (γ : List ℕ). pair g (at_only γ)) (coefficient g) (λ γ. sym (coefficient_pair g γ)) (lowered a α)

total_lowered-sorted : (a : ℕ) (χ : List ℕ → ℤ) (α : List ℕ) → total (λ (γ : List ℕ). χ (sorted_parts γ)) (lowered a α) ≡ total (λ (s : ℕ × List ℕ). cond (leb a s.0) (χ (insert_part (s.0 - a) (sorted_parts s.1))) (pos 0)) (spots α)
total_lowered-sorted a χ [] = refl
total_lowered-sorted a χ (c ∷ α) =
    total_append (λ (γ : List ℕ). χ (sorted_parts γ)) (cond (leb a c) (((c - a) ∷ α) ∷ []) []) (map (λ (γ : List ℕ). c ∷ γ) (lowered a α))
    ∙ ap₂ ◌+ℤ◌
    (by (leb a c))
    (total_map (λ (γ : List ℕ). χ (sorted_parts γ)) (λ (γ : List ℕ). c ∷ γ) (lowered a α)
    ∙ total_lowered-sorted a (λ l. χ (insert_part c l)) α
    ∙ total_ext
    (λ (s : ℕ × List ℕ). cond (leb a s.0) (χ (insert_part c (insert_part (s.0 - a) (sorted_parts s.1)))) (pos 0))
    (λ (s : ℕ × List ℕ). cond (leb a s.0) (χ (insert_part (s.0 - a) (insert_part c (sorted_parts s.1)))) (pos 0))
    (λ s. ap (λ l. cond (leb a s.0) (χ l) (pos 0)) (insert_part_comm c (s.0 - a) (sorted_parts s.1)))
    (spots α)
    ∙ sym (total_map (λ (s : ℕ × List ℕ). cond (leb a s.0) (χ (insert_part (s.0 - a) (sorted_parts s.1))) (pos 0)) (λ (s : ℕ × List ℕ). (s.0, c ∷ s.1)) (spots α)))
  where
    by : (b : Bool) → total (λ (γ : List ℕ). χ (sorted_parts γ)) (cond b (((c - a) ∷ α) ∷ []) []) ≡ cond b (χ (insert_part (c - a) (sorted_parts α))) (pos 0)
    by true = +ℤ_idr (χ (insert_part (c - a) (sorted_parts α)))
    by false = refl

total_spots-sorted : (ψ : ℕ → List ℕ → ℤ) (α : List ℕ) → total (λ (s : ℕ × List ℕ). ψ s.0 (insert_part s.0 (sorted_parts s.1))) (spots α) ≡ total (λ (c : ℕ). ψ c (sorted_parts α)) α
total_spots-sorted ψ [] = refl
total_spots-sorted ψ (c ∷ α) =
    ap (λ n. ψ c (insert_part c (sorted_parts α)) +ℤ n)
    (total_map (λ (s : ℕ × List ℕ). ψ s.0 (insert_part s.0 (sorted_parts s.1))) (λ (s : ℕ × List ℕ). (s.0, c ∷ s.1)) (spots α)
    ∙ total_ext
    (λ (s : ℕ × List ℕ). ψ s.0 (insert_part s.0 (insert_part c (sorted_parts s.1))))
    (λ (s : ℕ × List ℕ). ψ s.0 (insert_part c (insert_part s.0 (sorted_parts s.1))))
    (λ s. ap (ψ s.0) (insert_part_comm s.0 c (sorted_parts s.1)))
    (spots α)
    ∙ total_spots-sorted (λ k l. ψ k (insert_part c l)) α)

-- ---- the places of α from which a can be subtracted so that the list then sorts to λ

-- 1 if a ≤ k, k - a is 0 or one of `parts`, and the sorted list `whole` is `parts` with one k - a replaced by k; otherwise 0
abbrev pub raised_here : ℕ → List ℕ → ℕ → List ℕ → ℤ
raised_here a parts k whole = cond (leb a k) (cond (has (k - a) (0 ∷ parts)) (cond (same whole (raise a (k - a) parts)) (pos 1) (pos 0)) (pos 0)) (pos 0)

lowered_here : (a k : ℕ) (ρ parts : List ℕ) → 0 < a → IsPartition ρ → IsPartition parts → cond (leb a k) (cond (same (insert_part (k - a) ρ) parts) (pos 1) (pos 0)) (pos 0) ≡ raised_here a parts k (insert_part k ρ)
lowered_here a k ρ parts h q p = by (leb a k) refl
  where
    by : (b : Bool) → leb a k ≡ b → cond b (cond (same (insert_part (k - a) ρ) parts) (pos 1) (pos 0)) (pos 0) ≡ cond b (cond (has (k - a) (0 ∷ parts)) (cond (same (insert_part k ρ) (raise a (k - a) parts)) (pos 1) (pos 0)) (pos 0)) (pos 0)
    by false e = refl
    by true e =
        let l = leb-true a k e in
        let back : a + (k - a) ≡ k = omega arith in
        ap (λ t. cond t (pos 1) (pos 0))
        (tests_agree (same (insert_part (k - a) ρ) parts) (has (k - a) (0 ∷ parts) && same (insert_part k ρ) (raise a (k - a) parts))
        (λ t.
        let r = raised_from_lowered a (k - a) ρ parts h q (same_true (insert_part (k - a) ρ) parts t) in
        and_from (has (k - a) (0 ∷ parts)) (same (insert_part k ρ) (raise a (k - a) parts)) r.0 (same_from (insert_part k ρ) (raise a (k - a) parts) (ap (λ n. insert_part n ρ) (sym back) ∙ r.1)))
        (λ t.
        let r = and_parts (has (k - a) (0 ∷ parts)) (same (insert_part k ρ) (raise a (k - a) parts)) t in
        same_from (insert_part (k - a) ρ) parts
        (lowered_from_raised a (k - a) ρ parts h p r.0 (ap (λ n. insert_part n ρ) back ∙ same_true (insert_part k ρ) (raise a (k - a) parts) r.1))))
        ∙ sym (nested_tests (has (k - a) (0 ∷ parts)) (same (insert_part k ρ) (raise a (k - a) parts)) (pos 1))

total_lowered-is : (a : ℕ) (parts α : List ℕ) → 0 < a → IsPartition parts → total (λ (γ : List ℕ). cond (same (sorted_parts γ) parts) (pos 1) (pos 0)) (lowered a α) ≡ total (λ (k : ℕ). raised_here a parts k (sorted_parts α)) α
total_lowered-is a parts α h p =
    total_lowered-sorted a (λ l. cond (same l parts) (pos 1) (pos 0)) α
    ∙ total_ext
    (λ (s : ℕ × List ℕ). cond (leb a s.0) (cond (same (insert_part (s.0 - a) (sorted_parts s.1)) parts) (pos 1) (pos 0)) (pos 0))
    (λ (s : ℕ × List ℕ). raised_here a parts s.0 (insert_part s.0 (sorted_parts s.1)))
    (λ s. lowered_here a s.0 (sorted_parts s.1) parts h (IsPartition-sorted_parts s.1) p)
    (spots α)
    ∙ total_spots-sorted (raised_here a parts) α

pub total_distinct-only : (g : ℕ → ℤ) (k : ℕ) (numbers : List ℕ) → total (λ (b : ℕ). cond (eqb b k) (g b) (pos 0)) (distinct numbers) ≡ cond (has k numbers) (g k) (pos 0)
total_distinct-only g k [] = refl
total_distinct-only g k (c ∷ numbers) = search (rules, cases_eq, eq-eqb, ne_eqb, ints, +ℤ_idl, (total_distinct-only g k numbers))

pub total_times_in : (k : ℕ) (α : List ℕ) → total (λ (c : ℕ). cond (eqb c k) (pos 1) (pos 0)) α ≡ pos (times_in k α)
total_times_in k [] = refl
total_times_in k (c ∷ α) = search (rules, ints, (total_times_in k α))

taken : (a b c : ℕ) (x : ℤ) → cond (eqb c (a + b)) x (pos 0) ≡ cond (leb a c) (cond (eqb b (c - a)) x (pos 0)) (pos 0)
taken a b c x = search rules

-- let μ be `parts` with one b replaced by a + b. The multiplicity of a + b in μ times the coefficient of x^α in m_μ is the number of entries a + b of
-- α, if α has n places and sorts to μ. Otherwise this product is 0
term_at : (a b n : ℕ) (parts α : List ℕ) → 0 < a
    → pos (times_in (a + b) (raise a b parts)) *ℤ coefficient (monomial (raise a b parts) n) α
    ≡ cond (eqb (length α) n) (total (λ (c : ℕ). cond (leb a c) (cond (eqb b (c - a)) (cond (same (sorted_parts α) (raise a b parts)) (pos 1) (pos 0)) (pos 0)) (pos 0)) α) (pos 0)
term_at a b n parts α h =
    ap (λ x. pos (times_in (a + b) (raise a b parts)) *ℤ x) (coefficient-monomial (raise a b parts) n α)
    ∙ by (eqb (length α) n) (same (sorted_parts α) (raise a b parts)) refl
  where
    by : (x y : Bool) → same (sorted_parts α) (raise a b parts) ≡ y
        → pos (times_in (a + b) (raise a b parts)) *ℤ cond x (cond y (pos 1) (pos 0)) (pos 0)
        ≡ cond x (total (λ (c : ℕ). cond (leb a c) (cond (eqb b (c - a)) (cond y (pos 1) (pos 0)) (pos 0)) (pos 0)) α) (pos 0)
    by false y e = *ℤ-zero (pos (times_in (a + b) (raise a b parts)))
    by true false e =
        *ℤ-zero (pos (times_in (a + b) (raise a b parts)))
        ∙ sym (total_none (λ (c : ℕ). cond (leb a c) (cond (eqb b (c - a)) (pos 0) (pos 0)) (pos 0)) α (λ c m. same_ends (leb a c) (eqb b (c - a))))
      where
        same_ends : (x y : Bool) → cond x (cond y (pos 0) (pos 0)) (pos 0) ≡ pos 0
        same_ends true true = refl
        same_ends true false = refl
        same_ends false y = refl
    by true true e =
        product-one (pos (times_in (a + b) (raise a b parts)))
        ∙ ap pos (ap (times_in (a + b)) (sym (same_true (sorted_parts α) (raise a b parts) e)) ∙ times_in-sorted_parts (a + b) α (omega arith))
        ∙ sym (total_times_in (a + b) α)
        ∙ total_ext (λ (c : ℕ). cond (eqb c (a + b)) (pos 1) (pos 0)) (λ (c : ℕ). cond (leb a c) (cond (eqb b (c - a)) (pos 1) (pos 0)) (pos 0)) (λ c. taken a b c (pos 1)) α

-- if α has n places, the coefficient of x^α in the sum of the terms `raised_terms a parts` is the sum of `raised_here` over the entries of α;
-- otherwise it is 0
coefficient-raised_terms : (a n : ℕ) (parts α : List ℕ) → 0 < a → coefficient (combined (λ label. monomial label n) (raised_terms a parts)) α ≡ cond (eqb (length α) n) (total (λ (k : ℕ). raised_here a parts k (sorted_parts α)) α) (pos 0)
coefficient-raised_terms a n parts α h =
    coefficient-combined (λ label. monomial label n) (raised_terms a parts) α
    ∙ total_map (λ (t : Term). t.1 *ℤ coefficient (monomial t.0 n) α) (λ (b : ℕ). (raise a b parts, pos (times_in (a + b) (raise a b parts)))) (distinct (0 ∷ parts))
    ∙ total_ext
    (λ (b : ℕ). pos (times_in (a + b) (raise a b parts)) *ℤ coefficient (monomial (raise a b parts) n) α)
    (λ (b : ℕ). cond (eqb (length α) n) (total (λ (c : ℕ). F c b) α) (pos 0))
    (λ b. term_at a b n parts α h)
    (distinct (0 ∷ parts))
    ∙ total_cond (eqb (length α) n) (λ (b : ℕ). total (λ (c : ℕ). F c b) α) (distinct (0 ∷ parts))
    ∙ ap (λ x. cond (eqb (length α) n) x (pos 0))
    (sym (total_exchange F α (distinct (0 ∷ parts)))
    ∙ total_ext (λ (c : ℕ). total (F c) (distinct (0 ∷ parts))) (λ (c : ℕ). raised_here a parts c (sorted_parts α))
    (λ c. total_cond (leb a c) (λ (b : ℕ). cond (eqb b (c - a)) (X b) (pos 0)) (distinct (0 ∷ parts)) ∙ ap (λ x. cond (leb a c) x (pos 0)) (total_distinct-only X (c - a) (0 ∷ parts)))
    α)
  where
    X : ℕ → ℤ
    X b = cond (same (sorted_parts α) (raise a b parts)) (pos 1) (pos 0)

    F : ℕ → ℕ → ℤ
    F c b = cond (leb a c) (cond (eqb b (c - a)) (X b) (pos 0)) (pos 0)

-- if α has n places, the coefficient of x^α in p_a·m_λ is the sum of `raised_here` over the entries of α, λ being `parts`; otherwise it is 0
coefficient-power_sum_monomial : (a n : ℕ) (parts α : List ℕ) → 0 < a → IsPartition parts → coefficient (times (power_sum_of a n) (monomial parts n)) α ≡ cond (eqb (length α) n) (total (λ (k : ℕ). raised_here a parts k (sorted_parts α)) α) (pos 0)
coefficient-power_sum_monomial a n parts α h p =
    coefficient-power_sum_times a n (monomial parts n) α h (In-monomials (λ α. same (sorted_parts α) parts) n (size parts))
    ∙ total_among
    (coefficient (monomial parts n))
    (λ (γ : List ℕ). cond (eqb (length α) n) (cond (same (sorted_parts γ) parts) (pos 1) (pos 0)) (pos 0))
    (lowered a α)
    (λ γ m. coefficient-monomial parts n γ ∙ ap (λ k. cond (eqb k n) (cond (same (sorted_parts γ) parts) (pos 1) (pos 0)) (pos 0)) (length-lowered a α γ m))
    ∙ total_cond (eqb (length α) n) (λ (γ : List ℕ). cond (same (sorted_parts γ) parts) (pos 1) (pos 0)) (lowered a α)
    ∙ ap (λ x. cond (eqb (length α) n) x (pos 0)) (total_lowered-is a parts α h p)

-- p_a·m_λ in n variables is the sum of the c·m_μ over the terms c, μ of `raised_terms a λ`, if a > 0; here λ is `parts`
pub power_sum_times_monomial : (a n : ℕ) (parts : List ℕ) → 0 < a → IsPartition parts → Same (times (power_sum_of a n) (monomial parts n)) (combined (λ label. monomial label n) (raised_terms a parts))
power_sum_times_monomial a n parts h p α = coefficient-power_sum_monomial a n parts α h p ∙ sym (coefficient-raised_terms a n parts α h)
