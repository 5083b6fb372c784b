-- The number `arrangements l r ν` of ways to write ν = β + γ, place by place, where β has the parts of l and zeros in some order, and γ has the
-- parts of r and zeros in some order (specs/MonomialProduct). It is computed part by part of ν: each part x of ν is the sum of an entry b of β and
-- the entry x - b of γ.
--     arrangements-cons     the number for x ∷ ν as a sum over b, which is 0 or one of the different parts of l
--     arrangements-lacking  the number is 0 if l has a part greater than all parts of ν
--     arrangements-sizes    the number is 0 if |l| + |r| is not |ν|
--     arrangements-comm     the number does not change if l and r are exchanged
use Rattle.std.proofs.Common.{◌+◌, ◌≡◌, ℕ, zero, suc, ◌-◌, Bool, true, false, ◌&&◌, cond, eqb, leb, List, [], ◌∷◌, length, sym, ◌∙◌, ap, ap₂, refl, inl, inr, arith, ℤ, pos, ◌*ℤ◌, map, rules}
use Rattle.std.proofs.lemmas.Bool.{cases_eq, eq-eqb, ne_eqb, eqb-true, leb-true, and_parts, and_from, cond-true}
use Rattle.sym_model.specs.Sum.{total, Among}
use Rattle.sym_model.specs.Polynomial.{same, coefficient, times}
use Rattle.sym_model.specs.Partition.{IsPartition, size, insert_part, sorted_parts}
use Rattle.sym_model.specs.Bases.{has, down_from, monomial}
use Rattle.sym_model.specs.RaisedPart.{without_one, distinct}
use Rattle.monomial_laws.specs.MonomialProduct.{splits, arrangements}
use Rattle.sym_model.proofs.Sums.{Among_from_each, Among_from_map, total_ext, total_among, total_none, total_exchange, length-select, total_cond, down_from-below}
use Rattle.sym_model.proofs.Exponents.{tests_agree, same_true, same_from}
use Rattle.sym_model.proofs.SortedParts.{size-sorted_parts, IsPartition-sorted_parts, IsPartition-without_one, insert_part-without_one, without_one-insert_part, has-insert_part, has_past, has-zero_or, without_one-zero}
use Rattle.sym_model.proofs.Monomials.{total_down_from-only, coefficient-monomial, In-monomials}
use Rattle.sym_model.proofs.PolynomialLaws.{times_comm}
use Rattle.monomial_laws.proofs.PowerSums.{total_distinct-only}
use Rattle.monomial_laws.proofs.Splits.{total_splits, length-splits, coefficient_times, tests-product}
use Rattle.sym_model.specs.Bounded.{AreBelow}
use Rattle.sym_model.proofs.Integers.{pos_equal}

-- 1 if s.0 sorts to the partition l and s.1 to the partition r, and 0 otherwise
abbrev sorts_to_both : List ℕ → List ℕ → List ℕ × List ℕ → ℤ
sorts_to_both l r s = cond (same (sorted_parts s.0) l && same (sorted_parts s.1) r) (pos 1) (pos 0)

count : (l r ν : List ℕ) → pos (arrangements l r ν) ≡ total (sorts_to_both l r) (splits ν)
count l r ν = length-select (λ (s : List ℕ × List ℕ). same (sorted_parts s.0) l && same (sorted_parts s.1) r) (splits ν)

inserted : (b : ℕ) (p l : List ℕ) → IsPartition p → IsPartition l → same (insert_part b p) l ≡ (has b (0 ∷ l) && same p (without_one b l))
inserted zero p l h k = search (rules, tests_agree, same_from, same_true, without_one-zero)
inserted (suc b) p l h k =
    tests_agree (same (insert_part (suc b) p) l) (has (suc b) (0 ∷ l) && same p (without_one (suc b) l))
    (λ t.
    let e = same_true (insert_part (suc b) p) l t in
    and_from (has (suc b) (0 ∷ l)) (same p (without_one (suc b) l))
    (has-zero_or (suc b) l (inr (ap (has (suc b)) (sym e) ∙ has-insert_part (suc b) p (omega arith))))
    (same_from p (without_one (suc b) l) (sym (without_one-insert_part (suc b) p (omega arith)) ∙ ap (without_one (suc b)) e)))
    (λ t.
    let u = and_parts (has (suc b) (0 ∷ l)) (same p (without_one (suc b) l)) t in
    let m : has (suc b) l ≡ true = sym (has_past (suc b) 0 l (λ e. omega arith)) ∙ u.0 in
    same_from (insert_part (suc b) p) l
    (ap (insert_part (suc b)) (same_true p (without_one (suc b) l) u.1) ∙ insert_part-without_one (suc b) l (omega arith) k.falls m))

among_up_to : (f : ℕ → ℤ) (x : ℕ) (numbers : List ℕ) → total (λ (b : ℕ). cond (has b numbers) (f b) (pos 0)) (down_from x) ≡ total (λ (c : ℕ). cond (leb c x) (f c) (pos 0)) (distinct numbers)
among_up_to f x numbers =
    total_ext (λ (b : ℕ). cond (has b numbers) (f b) (pos 0)) (λ (b : ℕ). total (λ (c : ℕ). cond (eqb c b) (f c) (pos 0)) (distinct numbers)) (λ b. sym (total_distinct-only f b numbers)) (down_from x)
    ∙ total_exchange (λ (b c : ℕ). cond (eqb c b) (f c) (pos 0)) (down_from x) (distinct numbers)
    ∙ total_ext
    (λ (c : ℕ). total (λ (b : ℕ). cond (eqb c b) (f c) (pos 0)) (down_from x))
    (λ (c : ℕ). cond (leb c x) (f c) (pos 0))
    (λ c.
    total_ext (λ (b : ℕ). cond (eqb c b) (f c) (pos 0)) (λ (b : ℕ). cond (eqb b c) (f c) (pos 0))
    (λ b. ap (λ t. cond t (f c) (pos 0)) (tests_agree (eqb c b) (eqb b c) (λ t. eq-eqb b c (sym (eqb-true c b t))) (λ t. eq-eqb c b (sym (eqb-true b c t)))))
    (down_from x)
    ∙ total_down_from-only (λ b. f c) c x)
    (distinct numbers)

-- for partitions l and r, `arrangements l r (x ∷ ν)` is a sum over the different numbers b ≤ x such that b is 0 or a part of l, and x - b is 0 or a
-- part of r. The summand for b is `arrangements p q ν`, where p is l without one b, and q is r without one x - b (0 is no part: l without 0 is l)
pub arrangements-cons : (x : ℕ) (ν l r : List ℕ) → IsPartition l → IsPartition r
    → pos (arrangements l r (x ∷ ν))
    ≡ total (λ (b : ℕ). cond (leb b x) (cond (has (x - b) (0 ∷ r)) (pos (arrangements (without_one b l) (without_one (x - b) r) ν)) (pos 0)) (pos 0)) (distinct (0 ∷ l))
arrangements-cons x ν l r p q =
    count l r (x ∷ ν)
    ∙ total_splits (λ y z. sorts_to_both l r (y, z)) x ν
    ∙ total_ext
    (λ (b : ℕ). total (λ (s : List ℕ × List ℕ). sorts_to_both l r (b ∷ s.0, (x - b) ∷ s.1)) (splits ν))
    (λ (b : ℕ). cond (has b (0 ∷ l)) (here b) (pos 0))
    row
    (down_from x)
    ∙ among_up_to here x (0 ∷ l)
  where
    here : ℕ → ℤ
    here b = cond (has (x - b) (0 ∷ r)) (pos (arrangements (without_one b l) (without_one (x - b) r) ν)) (pos 0)

    take_out : (a b c d : Bool) → cond ((a && b) && (c && d)) (pos 1) (pos 0) ≡ cond a (cond c (cond (b && d) (pos 1) (pos 0)) (pos 0)) (pos 0)
    take_out true true true d = refl
    take_out true true false d = refl
    take_out true false true d = refl
    take_out true false false d = refl
    take_out false b c d = refl

    row : (b : ℕ) → total (λ (s : List ℕ × List ℕ). sorts_to_both l r (b ∷ s.0, (x - b) ∷ s.1)) (splits ν) ≡ cond (has b (0 ∷ l)) (here b) (pos 0)
    row b =
        total_ext
        (λ (s : List ℕ × List ℕ). sorts_to_both l r (b ∷ s.0, (x - b) ∷ s.1))
        (λ (s : List ℕ × List ℕ). cond (has b (0 ∷ l)) (cond (has (x - b) (0 ∷ r)) (sorts_to_both (without_one b l) (without_one (x - b) r) s) (pos 0)) (pos 0))
        (λ s.
        ap₂ (λ (y z : Bool). cond (y && z) (pos 1) (pos 0))
        (inserted b (sorted_parts s.0) l (IsPartition-sorted_parts s.0) p)
        (inserted (x - b) (sorted_parts s.1) r (IsPartition-sorted_parts s.1) q)
        ∙ take_out (has b (0 ∷ l)) (same (sorted_parts s.0) (without_one b l)) (has (x - b) (0 ∷ r)) (same (sorted_parts s.1) (without_one (x - b) r)))
        (splits ν)
        ∙ total_cond (has b (0 ∷ l)) (λ (s : List ℕ × List ℕ). cond (has (x - b) (0 ∷ r)) (sorts_to_both (without_one b l) (without_one (x - b) r) s) (pos 0)) (splits ν)
        ∙ ap (λ z. cond (has b (0 ∷ l)) z (pos 0))
        (total_cond (has (x - b) (0 ∷ r)) (sorts_to_both (without_one b l) (without_one (x - b) r)) (splits ν)
        ∙ ap (λ z. cond (has (x - b) (0 ∷ r)) z (pos 0)) (sym (count (without_one b l) (without_one (x - b) r) ν)))

has-without_one : (k b : ℕ) (numbers : List ℕ) → (b ≡ k → ⊥) → has k numbers ≡ true → has k (without_one b numbers) ≡ true
has-without_one k b [] n h = h
has-without_one k b (c ∷ numbers) n h = search (rules, cases_eq, eq-eqb, has_past, ne_eqb, (has-without_one k b numbers n))

-- if l has a part k greater than all parts of ν, `arrangements l r ν` is 0
pub arrangements-lacking : (k : ℕ) (ν l r : List ℕ) → IsPartition l → IsPartition r → has k l ≡ true → AreBelow k ν → arrangements l r ν ≡ 0
arrangements-lacking k [] [] r p q h a = absurd (cc)
arrangements-lacking k [] (c ∷ l) r p q h a = refl
arrangements-lacking k (x ∷ ν) l r p q h a =
    pos_equal
    (arrangements-cons x ν l r p q
    ∙ total_none
    (λ (b : ℕ). cond (leb b x) (cond (has (x - b) (0 ∷ r)) (pos (arrangements (without_one b l) (without_one (x - b) r) ν)) (pos 0)) (pos 0))
    (distinct (0 ∷ l))
    (λ b m. by b (leb b x) refl (has (x - b) (0 ∷ r)) (λ e. arrangements-lacking k ν (without_one b l) (without_one (x - b) r) (IsPartition-without_one b l p) (IsPartition-without_one (x - b) r q) (has-without_one k b l e h) a.1)))
  where
    by : (b : ℕ) (y : Bool) → leb b x ≡ y → (z : Bool) → ((b ≡ k → ⊥) → arrangements (without_one b l) (without_one (x - b) r) ν ≡ 0)
        → cond y (cond z (pos (arrangements (without_one b l) (without_one (x - b) r) ν)) (pos 0)) (pos 0) ≡ pos 0
    by b true e true f = ap pos (f (λ i. let u = leb-true b x e in omega (arith, a.0)))
    by b true e false f = refl
    by b false e z f = refl

-- ---- the coefficient of m_ν in m_l·m_r

pub coefficient-product : (l r ν : List ℕ) → coefficient (times (monomial l (length ν)) (monomial r (length ν))) ν ≡ pos (arrangements l r ν)
coefficient-product l r ν =
    let n = length ν in
    coefficient_times n (monomial l n) (monomial r n) ν (In-monomials (λ α. same (sorted_parts α) l) n (size l)) (In-monomials (λ α. same (sorted_parts α) r) n (size r)) refl
    ∙ total_among
    (λ (s : List ℕ × List ℕ). coefficient (monomial l n) s.0 *ℤ coefficient (monomial r n) s.1)
    (sorts_to_both l r)
    (splits ν)
    (λ s m.
    let k = length-splits ν s m in
    ap₂ ◌*ℤ◌
    (coefficient-monomial l n s.0 ∙ cond-true (eqb (length s.0) n) (cond (same (sorted_parts s.0) l) (pos 1) (pos 0)) (pos 0) (eq-eqb (length s.0) n k.0))
    (coefficient-monomial r n s.1 ∙ cond-true (eqb (length s.1) n) (cond (same (sorted_parts s.1) r) (pos 1) (pos 0)) (pos 0) (eq-eqb (length s.1) n k.1))
    ∙ sym (tests-product (same (sorted_parts s.0) l) (same (sorted_parts s.1) r)))
    ∙ sym (count l r ν)

pub arrangements-comm : (l r ν : List ℕ) → arrangements l r ν ≡ arrangements r l ν
arrangements-comm l r ν =
    pos_equal (sym (coefficient-product l r ν) ∙ times_comm (monomial l (length ν)) (monomial r (length ν)) ν ∙ coefficient-product r l ν)

pub sizes-splits : (ν : List ℕ) (s : List ℕ × List ℕ) → Among s (splits ν) → size s.0 + size s.1 ≡ size ν
sizes-splits [] s (inl e) = omega (arith, ap (λ (p : List ℕ × List ℕ). size p.0) e, ap (λ (p : List ℕ × List ℕ). size p.1) e)
sizes-splits [] s (inr m) = absurd m
sizes-splits (c ∷ ν) s m =
    let r = Among_from_each (λ (b : ℕ). map (λ (t : List ℕ × List ℕ). (b ∷ t.0, (c - b) ∷ t.1)) (splits ν)) s (down_from c) m in
    let u = Among_from_map (λ (t : List ℕ × List ℕ). (r.0 ∷ t.0, (c - r.0) ∷ t.1)) s (splits ν) r.2 in
    let k = sizes-splits ν u.0 u.1 in
    let b = down_from-below c r.0 r.1 in
    omega (arith, ap (λ (p : List ℕ × List ℕ). size p.0) u.2, ap (λ (p : List ℕ × List ℕ). size p.1) u.2)

pub arrangements-sizes : (l r ν : List ℕ) → (size l + size r ≡ size ν → ⊥) → arrangements l r ν ≡ 0
arrangements-sizes l r ν n =
    pos_equal
    (count l r ν
    ∙ total_none (sorts_to_both l r) (splits ν)
    (λ s m. ap (λ b. cond b (pos 1) (pos 0)) (by s m (same (sorted_parts s.0) l) (same (sorted_parts s.1) r) refl refl)))
  where
    by : (s : List ℕ × List ℕ) → Among s (splits ν) → (a b : Bool) → same (sorted_parts s.0) l ≡ a → same (sorted_parts s.1) r ≡ b → (a && b) ≡ false
    by s m false b e f = refl
    by s m true false e f = refl
    by s m true true e f =
        absurd
        (n
        (omega (
          arith,
          ap size (same_true (sorted_parts s.0) l e),
          ap size (same_true (sorted_parts s.1) r f),
          size-sorted_parts s.0,
          size-sorted_parts s.1,
          sizes-splits ν s m,
        )))
