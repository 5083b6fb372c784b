-- The product of a power sum and an augmented monomial symmetric polynomial (`augmented`).
use Rattle.std.proofs.Common.{◌≡◌, ℕ, zero, suc, ◌+◌, ◌*◌, ◌<◌, ◌≤◌, ◌⊎◌, ◌==◌, Bool, true, false, cond, List, [], ◌∷◌, map, nat_le, sym, ◌∙◌, ap, ap₂, refl, inl, inr, arith, ℤ, pos, ◌+ℤ◌, ◌*ℤ◌, flat_map, rules}
use Rattle.std.proofs.lemmas.Int.{ints}
use Rattle.std.proofs.lemmas.Bool.{cases_lt, cases_eq, cases_Bool, ne_eqb, leb-false, both_ways}
use Rattle.std.proofs.Math.Nat.{mul_left_comm, mul_assoc, mul_comm, mul_right_comm}
use Rattle.sym_model.specs.Sum.{total}
use Rattle.sym_model.specs.Polynomial.{Same, scale, plus, times, pair}
use Rattle.sym_model.specs.Partition.{IsPartition, insert_part}
use Rattle.sym_model.specs.Bases.{has, monomial, power_sum_of}
use Rattle.sym_model.specs.Schur.{times_in}
use Rattle.sym_model.specs.Weight.{factorial}
use Rattle.sym_model.specs.RaisedPart.{raise, distinct, without_one}
use Rattle.sym_model.specs.WholeTerms.{combined}
use Rattle.monomial_laws.specs.PowerSumProduct.{raised_terms}
use Rattle.basis_change_laws.specs.AugmentedMonomial.{multiplicity_factorials, augmented}
use Rattle.sym_model.proofs.Ring.{product_assoc, distributes_left}
use lib.IntN.{*ℤ_comm}
use Rattle.sym_model.proofs.Sums.{total_ext, total_among, total_map, total_exchange, total_scale}
use Rattle.sym_model.proofs.Polynomials.{pair_scale, pair_plus, pair_each, pair_determined, same_from_pair}
use Rattle.sym_model.proofs.PolynomialLaws.{times-scale}
use Rattle.sym_model.proofs.SortedParts.{times_in-insert_part, insert_part-without_one, has_from-times_in, has-zero, without_one-zero, has-among, distinct-zero}
use Rattle.sym_model.proofs.WholeTerms.{pair_of_combined}
use Rattle.sym_model.proofs.Contents.{times_in-here, times_in-other}
use Rattle.sym_model.proofs.Numbers.{equal-sym}
use Rattle.monomial_laws.proofs.PowerSums.{total_distinct-only, total_times_in, power_sum_times_monomial}
use Rattle.monomial_laws.proofs.PowerSumLists.{has_from-distinct}
use Rattle.sym_model.specs.ListWeight.{factorials}
use Rattle.sym_model.proofs.Integers.{pos-cond}

-- ---- the product of the factorials of the multiplicities of the numbers of a list

times_in-distinct : (k : ℕ) (l : List ℕ) → times_in k (distinct l) ≡ cond (has k l) 1 0
times_in-distinct k l = let e = sym (total_times_in k (distinct l)) ∙ total_distinct-only (λ b. pos 1) k l ∙ sym (pos-cond (has k l) 1) in omega (arith, ints)

factorials_without : (c : ℕ) (l D : List ℕ) → times_in c D ≡ 0 → factorials (map (λ b. times_in b (c ∷ l)) D) ≡ factorials (map (λ b. times_in b l) D)
factorials_without c l [] z = refl
factorials_without c l (b ∷ D) z = search (rules, cases_eq, times_in-here, times_in-other, (factorials_without c l D))

factorials_with : (c : ℕ) (l D : List ℕ) → times_in c D ≡ 1 → factorials (map (λ b. times_in b (c ∷ l)) D) ≡ times_in c (c ∷ l) * factorials (map (λ b. times_in b l) D)
factorials_with c l [] z = absurd (omega arith)
factorials_with c l (b ∷ D) z =
    search (rules, cases_eq, times_in-here, factorials_without, mul_assoc, times_in-other, mul_left_comm, (factorials_with c l D))

pub multiplicity_factorials-cons : (c : ℕ) (l : List ℕ) → multiplicity_factorials (c ∷ l) ≡ times_in c (c ∷ l) * multiplicity_factorials l
multiplicity_factorials-cons c l = by (cases_Bool (has c l))
  where
    by : (has c l ≡ true) ⊎ (has c l ≡ false) → factorials (map (λ b. times_in b (c ∷ l)) (cond (has c l) (distinct l) (c ∷ distinct l))) ≡ times_in c (c ∷ l) * multiplicity_factorials l
    by (inl e) =
        ap (λ (t : Bool). factorials (map (λ b. times_in b (c ∷ l)) (cond t (distinct l) (c ∷ distinct l)))) e
        ∙ factorials_with c l (distinct l) (times_in-distinct c l ∙ ap (λ (t : Bool). cond t 1 0) e)
    by (inr e) =
        let once = times_in-here c c l refl in
        let none : times_in c l ≡ 0 = no_more (cases_lt 0 (times_in c l)) in
        let single : times_in c (c ∷ l) ≡ 1 = omega arith in
        ap (λ (t : Bool). factorials (map (λ b. times_in b (c ∷ l)) (cond t (distinct l) (c ∷ distinct l)))) e
        ∙ ap₂ ◌*◌ (ap factorial single ∙ sym single) (factorials_without c l (distinct l) (times_in-distinct c l ∙ ap (λ (t : Bool). cond t 1 0) e))
      where
        no_more : (0 < times_in c l) ⊎ (times_in c l ≤ 0) → times_in c l ≡ 0
        no_more (inl h) = absurd (both_ways (has c l) e (has_from-times_in c l h))
        no_more (inr h) = omega arith

pub multiplicity_factorials-insert : (a : ℕ) (parts : List ℕ) → 0 < a → multiplicity_factorials (insert_part a parts) ≡ times_in a (insert_part a parts) * multiplicity_factorials parts
multiplicity_factorials-insert zero parts h = absurd (omega arith)
multiplicity_factorials-insert (suc a) [] h = multiplicity_factorials-cons (suc a) []
multiplicity_factorials-insert (suc a) (b ∷ parts) h = by (nat_le b (suc a)) refl (multiplicity_factorials-insert (suc a) parts (omega arith))
  where
    by : (t : Bool) → nat_le b (suc a) ≡ t → multiplicity_factorials (insert_part (suc a) parts) ≡ times_in (suc a) (insert_part (suc a) parts) * multiplicity_factorials parts
        → multiplicity_factorials (cond t (suc a ∷ b ∷ parts) (b ∷ insert_part (suc a) parts)) ≡ times_in (suc a) (cond t (suc a ∷ b ∷ parts) (b ∷ insert_part (suc a) parts)) * multiplicity_factorials (b ∷ parts)
    by true e later = multiplicity_factorials-cons (suc a) (b ∷ parts)
    by false e later =
        let g = leb-false b (suc a) e in
        let x = multiplicity_factorials-cons b (insert_part (suc a) parts) in
        let y = multiplicity_factorials-cons b parts in
        let u : times_in b (b ∷ insert_part (suc a) parts) ≡ times_in b (b ∷ parts) =
        times_in-here b b (insert_part (suc a) parts) refl ∙ ap suc (times_in-insert_part b (suc a) parts (omega arith) ∙ ap (λ (t : Bool). cond {A = ℕ} t 1 0 + times_in b parts) (ne_eqb (suc a) b (λ d. absurd (omega arith))) ∙ omega arith) ∙ sym (times_in-here b b parts refl) in
        let v = times_in-other (suc a) b (insert_part (suc a) parts) (λ d. absurd (omega arith)) in
        x
        ∙ ap₂ ◌*◌ u later
        ∙ mul_left_comm (times_in b (b ∷ parts)) (times_in (suc a) (insert_part (suc a) parts)) (multiplicity_factorials parts)
        ∙ ap₂ ◌*◌ (sym v) (sym y)

raise_factor : (a b : ℕ) (parts : List ℕ) → 0 < a → IsPartition parts → has b parts ≡ true
    → times_in b parts * multiplicity_factorials (raise a b parts) ≡ multiplicity_factorials parts * times_in (a + b) (raise a b parts)
raise_factor a zero parts h p e = absurd (both_ways (has 0 parts) (has-zero parts p.positive) e)
raise_factor a (suc b) parts h p e =
    let back = insert_part-without_one (suc b) parts (omega arith) p.falls e in
    let x = multiplicity_factorials-insert (a + suc b) (without_one (suc b) parts) (omega arith) in
    let y = multiplicity_factorials-insert (suc b) (without_one (suc b) parts) (omega arith) in
    let z : multiplicity_factorials parts ≡ times_in (suc b) parts * multiplicity_factorials (without_one (suc b) parts) = ap multiplicity_factorials (sym back) ∙ y ∙ ap (λ l. times_in (suc b) l * multiplicity_factorials (without_one (suc b) parts)) back in
    ap (λ i. times_in (suc b) parts * i) x
    ∙ (sym (mul_assoc (times_in (suc b) parts) (times_in (a + suc b) (raise a (suc b) parts)) (multiplicity_factorials (without_one (suc b) parts))) ∙ mul_right_comm (times_in (suc b) parts) (times_in (a + suc b) (raise a (suc b) parts)) (multiplicity_factorials (without_one (suc b) parts)))
    ∙ ap (λ i. i * times_in (a + suc b) (raise a (suc b) parts)) (sym z)

pull_factor : (t : Bool) (x : ℤ) → cond t (pos 1) (pos 0) *ℤ x ≡ cond t x (pos 0)
pull_factor true x = omega (arith, ints)
pull_factor false x = omega (arith, ints)

total_parts : (g : ℕ → ℤ) (l : List ℕ) → total (λ (b : ℕ). pos (times_in b l) *ℤ g b) (distinct l) ≡ total g l
total_parts g l =
    total_ext (λ (b : ℕ). pos (times_in b l) *ℤ g b) (λ (b : ℕ). total (λ (c : ℕ). cond (b == c) (g b) (pos 0)) l) spread (distinct l)
    ∙ total_exchange (λ (b c : ℕ). cond (b == c) (g b) (pos 0)) (distinct l) l
    ∙ total_among (λ (c : ℕ). total (λ (b : ℕ). cond (b == c) (g b) (pos 0)) (distinct l)) g l
    (λ c m. total_distinct-only g c l ∙ ap (λ (t : Bool). cond t (g c) (pos 0)) (has-among c l m))
  where
    spread : (b : ℕ) → pos (times_in b l) *ℤ g b ≡ total (λ (c : ℕ). cond (b == c) (g b) (pos 0)) l
    spread b =
        ap (λ x. x *ℤ g b) (sym (total_times_in b l))
        ∙ *ℤ_comm (total (λ (c : ℕ). cond (c == b) (pos 1) (pos 0)) l) (g b)
        ∙ sym (total_scale (g b) (λ (c : ℕ). cond (c == b) (pos 1) (pos 0)) l)
        ∙ total_ext (λ (c : ℕ). g b *ℤ cond (c == b) (pos 1) (pos 0)) (λ (c : ℕ). cond (b == c) (g b) (pos 0))
        (λ c. *ℤ_comm (g b) (cond (c == b) (pos 1) (pos 0)) ∙ pull_factor (c == b) (g b) ∙ ap (λ (t : Bool). cond t (g b) (pos 0)) (equal-sym c b)) l

pub power_sum_times_augmented : (a n : ℕ) (parts : List ℕ) → 0 < a → IsPartition parts
    → Same (times (power_sum_of a n) (augmented parts n)) (plus (augmented (insert_part a parts) n) (flat_map (λ b. augmented (raise a b parts) n) parts))
power_sum_times_augmented a n parts h p =
    same_from_pair (times (power_sum_of a n) (augmented parts n)) (plus (augmented (insert_part a parts) n) (flat_map (λ b. augmented (raise a b parts) n) parts)) (λ φ.
    pair_determined (times (power_sum_of a n) (augmented parts n)) (scale (pos (multiplicity_factorials parts)) (times (power_sum_of a n) (monomial parts n))) φ (times-scale (pos (multiplicity_factorials parts)) (power_sum_of a n) (monomial parts n))
    ∙ pair_scale (pos (multiplicity_factorials parts)) (times (power_sum_of a n) (monomial parts n)) φ
    ∙ ap (λ x. pos (multiplicity_factorials parts) *ℤ x) (
    pair_determined (times (power_sum_of a n) (monomial parts n)) (combined (λ label. monomial label n) (raised_terms a parts)) φ (power_sum_times_monomial a n parts h p)
    ∙ pair_of_combined (λ label. monomial label n) (raised_terms a parts) φ
    ∙ total_map (λ (t : List ℕ × ℤ). t.1 *ℤ pair (monomial t.0 n) φ) (λ (b : ℕ). (raise a b parts, pos (times_in (a + b) (raise a b parts)))) (distinct (0 ∷ parts))
    ∙ ap (λ (l : List ℕ). total (λ (b : ℕ). pos (times_in (a + b) (raise a b parts)) *ℤ pair (monomial (raise a b parts) n) φ) l) (distinct-zero parts p.positive))
    ∙ distributes_left (pos (multiplicity_factorials parts)) (pos (times_in (a + 0) (raise a 0 parts)) *ℤ pair (monomial (raise a 0 parts) n) φ) (total (λ (b : ℕ). pos (times_in (a + b) (raise a b parts)) *ℤ pair (monomial (raise a b parts) n) φ) (distinct parts))
    ∙ ap₂ ◌+ℤ◌ (put_in φ) (made_greater φ)
    ∙ sym (pair_plus (augmented (insert_part a parts) n) (flat_map (λ b. augmented (raise a b parts) n) parts) φ
    ∙ ap₂ ◌+ℤ◌ (pair_scale (pos (multiplicity_factorials (insert_part a parts))) (monomial (insert_part a parts) n) φ)
    (pair_each (λ (b : ℕ). augmented (raise a b parts) n) parts φ ∙ total_ext (λ (b : ℕ). pair (augmented (raise a b parts) n) φ) (λ (b : ℕ). pos (multiplicity_factorials (raise a b parts)) *ℤ pair (monomial (raise a b parts) n) φ) (λ b. pair_scale (pos (multiplicity_factorials (raise a b parts))) (monomial (raise a b parts) n) φ) parts)))
  where
    nothing_raised : raise a 0 parts ≡ insert_part a parts
    nothing_raised = let e : a + 0 ≡ a = omega arith in ap₂ insert_part e (without_one-zero parts p.positive)

    put_in : (φ : List ℕ → ℤ) → pos (multiplicity_factorials parts) *ℤ (pos (times_in (a + 0) (raise a 0 parts)) *ℤ pair (monomial (raise a 0 parts) n) φ) ≡ pos (multiplicity_factorials (insert_part a parts)) *ℤ pair (monomial (insert_part a parts) n) φ
    put_in φ =
        let e : a + 0 ≡ a = omega arith in
        ap₂ (λ (i : ℕ) (l : List ℕ). pos (multiplicity_factorials parts) *ℤ (pos (times_in i l) *ℤ pair (monomial l n) φ)) e nothing_raised
        ∙ sym (product_assoc (pos (multiplicity_factorials parts)) (pos (times_in a (insert_part a parts))) (pair (monomial (insert_part a parts) n) φ))
        ∙ ap (λ i. pos i *ℤ pair (monomial (insert_part a parts) n) φ) (mul_comm (multiplicity_factorials parts) (times_in a (insert_part a parts)) ∙ sym (multiplicity_factorials-insert a parts h))

    made_greater : (φ : List ℕ → ℤ)
        → pos (multiplicity_factorials parts) *ℤ total (λ (b : ℕ). pos (times_in (a + b) (raise a b parts)) *ℤ pair (monomial (raise a b parts) n) φ) (distinct parts)
        ≡ total (λ (b : ℕ). pos (multiplicity_factorials (raise a b parts)) *ℤ pair (monomial (raise a b parts) n) φ) parts
    made_greater φ =
        sym (total_scale (pos (multiplicity_factorials parts)) (λ (b : ℕ). pos (times_in (a + b) (raise a b parts)) *ℤ pair (monomial (raise a b parts) n) φ) (distinct parts))
        ∙ total_among (λ (b : ℕ). pos (multiplicity_factorials parts) *ℤ (pos (times_in (a + b) (raise a b parts)) *ℤ pair (monomial (raise a b parts) n) φ))
        (λ (b : ℕ). pos (times_in b parts) *ℤ (pos (multiplicity_factorials (raise a b parts)) *ℤ pair (monomial (raise a b parts) n) φ)) (distinct parts)
        (λ b m. sym (product_assoc (pos (multiplicity_factorials parts)) (pos (times_in (a + b) (raise a b parts))) (pair (monomial (raise a b parts) n) φ))
        ∙ ap (λ i. pos i *ℤ pair (monomial (raise a b parts) n) φ) (sym (raise_factor a b parts h p (has_from-distinct b parts m)))
        ∙ product_assoc (pos (times_in b parts)) (pos (multiplicity_factorials (raise a b parts))) (pair (monomial (raise a b parts) n) φ))
        ∙ total_parts (λ (b : ℕ). pos (multiplicity_factorials (raise a b parts)) *ℤ pair (monomial (raise a b parts) n) φ) parts
