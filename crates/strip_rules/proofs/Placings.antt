-- `placings` of a partition μ and a list ν (specs/StripProduct) is the number of lists as long as ν that consist of the parts of μ and zeros, in some
-- order, and whose entry at each place is at most the entry of ν there.
--     placings-next     the number for one more part v, which is at most the parts before it
use Rattle.std.proofs.Common.{◌≡◌, ◌⊎◌, ℕ, suc, ◌+◌, ◌-◌, ◌*◌, ◌<◌, ◌≤◌, Bool, true, false, cond, ◌==◌, eqb, leb, List, [], ◌∷◌, ◌++◌, length, sym, ◌∙◌, ap, ap₂, subst, refl, inl, inr, arith, ℤ, pos, ◌*ℤ◌, rules}
use Rattle.std.proofs.lemmas.Bool.{cases_eq, le-leb, eq-eqb, ne_eqb, eqb-true, leb-true}
use Rattle.std.proofs.lemmas.Int.{ints}
use Rattle.sym_model.specs.Sum.{total, Among}
use Rattle.sym_model.specs.Polynomial.{same, coefficient, pair}
use Rattle.sym_model.specs.Partition.{IsPartition, Falls, Holds, size, insert_part, sorted_parts}
use Rattle.sym_model.specs.Bases.{has}
use Rattle.sym_model.specs.Schur.{times_in}
use Rattle.sym_model.specs.Conjugate.{count_from}
use Rattle.sym_model.proofs.Sums.{total_ext, total_among, total_none, total_scale, total_cond, length-select}
use Rattle.sym_model.proofs.Exponents.{tests_agree, same_true, same_sym}
use Rattle.sym_model.proofs.Monomials.{total_down_from-last}
use Rattle.sym_model.proofs.SortedParts.{insert_part-front, times_in-sorted_parts, IsPartition_tail, has-insert_part, size-sorted_parts, IsPartition-sorted_parts}
use Rattle.monomial_laws.specs.MonomialProduct.{splits, product_coefficient}
use Rattle.monomial_laws.proofs.Splits.{total_splits, sorted_total}
use Rattle.strip_rules.specs.StripProduct.{placings}
use Rattle.strip_rules.proofs.MarkedPlaces.{IsTaken, marked_taken, marked_scale, marked-from, marking}
use lib.IntN.{*ℤ-zero, zero-*ℤ, *ℤ_comm}
use Rattle.sym_model.specs.WholeTerms.{WholeTerms}
use Rattle.sym_model.proofs.Ring.{one-product}
use Rattle.sym_model.proofs.Polynomials.{at_only, coefficient_pair, pair_ext, pair_total, pair_factor}
use Rattle.strip_rules.proofs.SplitCounts.{some_split, counts-splits, count_from-sorted_parts, holds_from_counts}
use Rattle.monomial_laws.proofs.Arrangements.{sizes-splits}
use native.Mathlib.Nat.{mul-pos, eq_of_mul-eq-mul_right}
use Rattle.sym_model.proofs.Integers.{pos_equal, nothing_either}
use Rattle.partitions.proofs.Arrangings.{same-insert_part}
use Rattle.std.proofs.Math.Nat.{mul_assoc, mul_comm}

pub placings-total : (μ ν : List ℕ) → pos (placings μ ν) ≡ sorted_total (λ x y. at_only μ x) ν
placings-total μ ν = length-select (λ (s : List ℕ × List ℕ). same (sorted_parts s.0) μ) (splits ν)

-- the product of the factorials of the multiplicities of the parts
abbrev pub repeats : List ℕ → ℕ
repeats [] = 1
repeats (v ∷ μ) = suc (times_in v μ) * repeats μ

pub repeats-positive : (μ : List ℕ) → 0 < repeats μ
repeats-positive [] = omega arith
repeats-positive (v ∷ μ) = search (rules, mul-pos, (repeats-positive μ))

-- the number of ways to write the parts of μ one after another into free places of ν, each part into a place whose number is at least the part, if j
-- places of ν are already occupied. The parts of μ must be weakly decreasing, and the numbers at the occupied places at least the first part.
abbrev pub placed : ℕ → List ℕ → List ℕ → ℕ
placed j ν [] = 1
placed j ν (v ∷ μ) = (count_from v ν - j) * placed (suc j) ν μ

placed-taken : (d j : ℕ) (rest ν μ : List ℕ) → IsTaken d rest ν → ((v : ℕ) → Among v μ → v ≤ d)
    → placed j rest μ ≡ placed (suc j) ν μ
placed-taken d j rest ν [] t h = refl
placed-taken d j rest ν (v ∷ μ) t h =
    let c = t.counts v in
    let l = le-leb v d (h v (inl refl)) in
    let e : count_from v ν ≡ 1 + count_from v rest = c
    ∙ ap (λ b. cond b 1 0 + count_from v rest) l in
    ap₂ ◌*◌ (let f : count_from v rest - j ≡ count_from v ν - suc j = omega arith in f)
    (placed-taken d (suc j) rest ν μ t (λ w m. h w (inr m)))

-- if x is at least each part of μ, adding a place with the number x to ν and having one more place occupied does not change the number `placed` of
-- ways to write the parts of μ into ν
pub placed-first : (x j : ℕ) (ν μ : List ℕ) → ((w : ℕ) → Among w μ → w ≤ x) → placed (suc j) (x ∷ ν) μ ≡ placed j ν μ
placed-first x j ν [] h = refl
placed-first x j ν (w ∷ μ) h =
    let l = ap (λ b. cond b 1 0 + count_from w ν) (le-leb w x (h w (inl refl))) in
    let e : count_from w (x ∷ ν) - suc j ≡ count_from w ν - j = omega arith in
    ap₂ ◌*◌ e (placed-first x (suc j) ν μ (λ u m. h u (inr m)))

placings-none : (ν : List ℕ) → sorted_total (λ x y. at_only [] x) ν ≡ pos 1
placings-none [] = refl
placings-none (c ∷ ν) =
    total_splits (λ x y. at_only [] (sorted_parts x)) c ν
    ∙ total_down_from-last
    (λ (b : ℕ). total (λ (s : List ℕ × List ℕ). at_only [] (insert_part b (sorted_parts s.0)))
    (splits ν)) c
    (λ b p l. total_none (λ (s : List ℕ × List ℕ). at_only [] (insert_part b (sorted_parts s.0)))
    (splits ν) (λ s m. none b (sorted_parts s.0) p))
    ∙ placings-none ν
  where
    none : (b : ℕ) (x : List ℕ) → 0 < b → at_only [] (insert_part b x) ≡ pos 0
    none b x p = by (insert_part b x) (has-insert_part b x p)
      where
        by : (y : List ℕ) → has b y ≡ true → at_only [] y ≡ pos 0
        by [] e = absurd (cc)
        by (a ∷ y) e = refl

pub placings-first : (ν : List ℕ) → placings [] ν ≡ 1
placings-first ν = let e = placings-total [] ν ∙ placings-none ν in omega (arith, ints)

pub below_first : (v : ℕ) (μ : List ℕ) → Falls (v ∷ μ) → (w : ℕ) → Among w μ → w ≤ v
below_first v [] f w m = absurd m
below_first v (a ∷ μ) f w (inl e) = omega (arith, f.0)
below_first v (a ∷ μ) f w (inr m) = omega (arith, f.0, below_first a μ f.1 w m)

pub placings-placed : (μ ν : List ℕ) → IsPartition μ → repeats μ * placings μ ν ≡ placed 0 ν μ
placings-placed [] ν p = omega (arith, placings-first ν)
placings-placed (v ∷ μ) ν p =
    pos_equal
    (ap (λ n. pos n)
    (let e : suc (times_in v μ) * repeats μ * placings (v ∷ μ) ν
    ≡ repeats μ * (suc (times_in v μ) * placings (v ∷ μ) ν) = omega arith in e)
    ∙ ap (λ z. pos (repeats μ) *ℤ z) (sym left ∙ marking ν v (λ x y. at_only (v ∷ μ) x))
    ∙ marked_scale (pos (repeats μ))
    (λ (d : ℕ) (rest : List ℕ). cond (leb v d)
    (sorted_total (λ x y. at_only (v ∷ μ) (insert_part v x)) rest) (pos 0)) ν
    ∙ marked_taken
    (λ (d : ℕ) (rest : List ℕ). pos (repeats μ) *ℤ cond (leb v d)
    (sorted_total (λ x y. at_only (v ∷ μ) (insert_part v x)) rest) (pos 0))
    (λ (d : ℕ) (rest : List ℕ). cond (leb v d) (pos (placed 1 ν μ)) (pos 0))
    ν
    (λ d rest t. place d rest t (leb v d) refl (placings-placed μ rest (IsPartition_tail v μ p)))
    ∙ marked-from v (pos (placed 1 ν μ)) ν
    ∙ ap (λ n. pos n *ℤ pos (placed 1 ν μ))
    (let e : count_from v ν ≡ count_from v ν - 0 = omega arith in e))
  where
    front : insert_part v μ ≡ v ∷ μ
    front = insert_part-front v μ p.positive.0 p.falls

    left : total (λ (s : List ℕ × List ℕ). pos (times_in v s.0) *ℤ at_only (v ∷ μ)
        (sorted_parts s.0)) (splits ν) ≡ pos (suc (times_in v μ) * placings (v ∷ μ) ν)
    left =
        total_ext
        (λ (s : List ℕ × List ℕ). pos (times_in v s.0) *ℤ at_only (v ∷ μ) (sorted_parts s.0))
        (λ (s : List ℕ × List ℕ). pos (suc (times_in v μ)) *ℤ at_only (v ∷ μ) (sorted_parts s.0))
        (λ s. by s (same (sorted_parts s.0) (v ∷ μ)) refl)
        (splits ν)
        ∙ total_scale (pos (suc (times_in v μ)))
        (λ (s : List ℕ × List ℕ). at_only (v ∷ μ) (sorted_parts s.0)) (splits ν)
        ∙ ap (λ z. pos (suc (times_in v μ)) *ℤ z) (sym (placings-total (v ∷ μ) ν))
      where
        by : (s : List ℕ × List ℕ) (b : Bool) → same (sorted_parts s.0) (v ∷ μ) ≡ b
            → pos (times_in v s.0) *ℤ cond b (pos 1) (pos 0)
            ≡ pos (suc (times_in v μ)) *ℤ cond b (pos 1) (pos 0)
        by s true e =
            ap (λ n. pos n *ℤ pos 1)
            (sym (times_in-sorted_parts v s.0 p.positive.0)
            ∙ ap (times_in v) (same_true (sorted_parts s.0) (v ∷ μ) e)
            ∙ ap (λ b. cond b 1 0 + times_in v μ) (eq-eqb v v refl)
            ∙ (let o : 1 + times_in v μ ≡ suc (times_in v μ) = omega arith in o))
        by s false e = *ℤ-zero (pos (times_in v s.0)) ∙ sym (*ℤ-zero (pos (suc (times_in v μ))))

    place : (d : ℕ) (rest : List ℕ) → IsTaken d rest ν → (b : Bool) → leb v d ≡ b
        → repeats μ * placings μ rest ≡ placed 0 rest μ
        → pos (repeats μ) *ℤ cond b (sorted_total (λ x y. at_only (v ∷ μ) (insert_part v x)) rest)
        (pos 0) ≡ cond b (pos (placed 1 ν μ)) (pos 0)
    place d rest t true e r =
        let l = leb-true v d e in
        ap (λ z. pos (repeats μ) *ℤ z)
        (total_ext
        (λ (s : List ℕ × List ℕ). at_only (v ∷ μ) (insert_part v (sorted_parts s.0)))
        (λ (s : List ℕ × List ℕ). at_only μ (sorted_parts s.0))
        (λ s. ap (λ y. at_only y (insert_part v (sorted_parts s.0))) (sym front)
        ∙ ap (λ b. cond b (pos 1) (pos 0)) (same-insert_part v (sorted_parts s.0) μ))
        (splits rest)
        ∙ sym (placings-total μ rest))
        ∙ ap pos (r ∙ placed-taken d 0 rest ν μ t
        (λ w m. omega (arith, below_first v μ p.falls w m)))
    place d rest t false e r = *ℤ-zero (pos (repeats μ))

-- ---- the number of placings for one more part

placed-last : (j v : ℕ) (ν μ : List ℕ) → placed j ν (μ ++ v ∷ [])
    ≡ placed j ν μ * (count_from v ν - (j + length μ))
placed-last j v ν [] = search rules
placed-last j v ν (w ∷ μ) = search (rules, (placed-last (suc j) v ν μ))

times_in-last : (u v : ℕ) (μ : List ℕ) → times_in u (μ ++ v ∷ [])
    ≡ times_in u μ + cond (eqb v u) 1 0
times_in-last u v [] = omega arith
times_in-last u v (w ∷ μ) = omega (arith, times_in-last u v μ)

repeats-last : (v : ℕ) (μ : List ℕ) → repeats (μ ++ v ∷ []) ≡ repeats μ * suc (times_in v μ)
repeats-last v [] = refl
repeats-last v (u ∷ μ) =
    ap₂ (λ a b. suc a * b) (times_in-last u v μ) (repeats-last v μ) ∙ by (cases_eq v u)
  where
    by : (v ≡ u) ⊎ (v ≡ u → ⊥)
        → suc (times_in u μ + cond (eqb v u) 1 0) * (repeats μ * suc (times_in v μ))
        ≡ suc (times_in u μ) * repeats μ * suc (cond (eqb u v) 1 0 + times_in v μ)
    by (inl e) = subst
        (λ (w : ℕ). suc (times_in w μ + cond (eqb v w) 1 0) * (repeats μ * suc (times_in v μ))
        ≡ suc (times_in w μ) * repeats μ * suc (cond (eqb w v) 1 0 + times_in v μ)) e
        (rw (eq-eqb v v refl) (grouped (times_in v μ) (repeats μ)))
      where
        grouped : (t r : ℕ) → suc (t + 1) * (r * suc t) ≡ suc t * r * suc (1 + t)
        grouped t r = omega arith
    by (inr n) = rw (ne_eqb v u n, ne_eqb u v (λ e. n (sym e)))
        (grouped (times_in u μ) (times_in v μ) (repeats μ))
      where
        grouped : (t s r : ℕ) → suc (t + 0) * (r * suc s) ≡ suc t * r * suc (0 + s)
        grouped t s r = omega arith

front_of : (v : ℕ) (μ : List ℕ) → IsPartition (μ ++ v ∷ []) → IsPartition μ
front_of v [] p = record { falls = tt; positive = tt }
front_of v (a ∷ []) p = record { falls = tt; positive = (p.positive.0, tt) }
front_of v (a ∷ b ∷ μ) p = search (rules, (front_of v (b ∷ μ)))

pub placings-next : (v : ℕ) (μ ν : List ℕ) → IsPartition (μ ++ v ∷ [])
    → placings (μ ++ v ∷ []) ν * suc (times_in v μ) ≡ placings μ ν * (count_from v ν - length μ)
placings-next v μ ν p =
    let a = placings-placed (μ ++ v ∷ []) ν p in
    let b = placings-placed μ ν (front_of v μ p) in
    let o : 0 + length μ ≡ length μ = omega arith in
    let c = placed-last 0 v ν μ ∙ ap (λ n. placed 0 ν μ * (count_from v ν - n)) o in
    let d = repeats-last v μ in
    eq_of_mul-eq-mul_right (repeats μ) (repeats-positive μ)
    (placings (μ ++ v ∷ []) ν * suc (times_in v μ)) (placings μ ν * (count_from v ν - length μ))
    (grouped (placings (μ ++ v ∷ []) ν) (suc (times_in v μ)) (repeats μ)
    ∙ ap (λ n. n * placings (μ ++ v ∷ []) ν) (sym d)
    ∙ a
    ∙ c
    ∙ ap (λ n. n * (count_from v ν - length μ)) (sym b)
    ∙ (mul_assoc (repeats μ) (placings μ ν) (count_from v ν - length μ) ∙ mul_comm (repeats μ) ((placings μ ν) * (count_from v ν - length μ))))
  where
    grouped : (x y z : ℕ) → x * y * z ≡ z * y * x
    grouped x y z = omega arith

pub placings-hold : (μ ν : List ℕ) → IsPartition μ → IsPartition ν → 0 < placings μ ν → Holds ν μ
placings-hold μ ν p q h =
    let s = some_split (λ (s : List ℕ × List ℕ). same (sorted_parts s.0) μ) ν h in
    holds_from_counts ν μ q p
    (λ k l.
    omega (
      arith,
      counts-splits ν s.0 k s.1,
      count_from-sorted_parts k s.0.0 l,
      ap (count_from k) (same_true (sorted_parts s.0.0) μ s.2),
    ))

-- ---- the product of a linear combination of monomial symmetric polynomials and h_k, the sum of the m_λ with λ of size k

pub placings-lists : (k : ℕ) (left right : WholeTerms)
    → ((parts : List ℕ) → IsPartition parts → coefficient right parts
    ≡ cond (size parts == k) (pos 1) (pos 0))
    → (ν : List ℕ) → product_coefficient left right ν
    ≡ pair left (λ μ. cond (size μ + k == size ν) (pos (placings μ ν)) (pos 0))
placings-lists k left right h ν =
    sym
    (pair_ext left
    (λ μ. cond (size μ + k == size ν) (pos (placings μ ν)) (pos 0))
    (λ μ. total (λ (s : List ℕ × List ℕ). at_only (sorted_parts s.0) μ *ℤ coefficient right
    (sorted_parts s.1)) (splits ν))
    label
    ∙ pair_total left
    (λ (s : List ℕ × List ℕ) (μ : List ℕ). at_only (sorted_parts s.0) μ *ℤ coefficient right
    (sorted_parts s.1)) (splits ν)
    ∙ total_ext
    (λ (s : List ℕ × List ℕ). pair left
    (λ μ. at_only (sorted_parts s.0) μ *ℤ coefficient right (sorted_parts s.1)))
    (λ (s : List ℕ × List ℕ). coefficient left (sorted_parts s.0) *ℤ coefficient right
    (sorted_parts s.1))
    (λ s.
    pair_ext left (λ μ. at_only (sorted_parts s.0) μ *ℤ coefficient right (sorted_parts s.1))
    (λ μ. coefficient right (sorted_parts s.1) *ℤ at_only (sorted_parts s.0) μ)
    (λ μ. *ℤ_comm (at_only (sorted_parts s.0) μ) (coefficient right (sorted_parts s.1)))
    ∙ pair_factor (coefficient right (sorted_parts s.1)) left (at_only (sorted_parts s.0))
    ∙ ap (λ z. coefficient right (sorted_parts s.1) *ℤ z)
    (sym (coefficient_pair left (sorted_parts s.0)))
    ∙ *ℤ_comm (coefficient right (sorted_parts s.1)) (coefficient left (sorted_parts s.0)))
    (splits ν))
  where
    test : List ℕ → Bool
    test μ = size μ + k == size ν

    label : (μ : List ℕ) → cond (test μ) (pos (placings μ ν)) (pos 0)
        ≡ total (λ (s : List ℕ × List ℕ). at_only (sorted_parts s.0) μ *ℤ coefficient right
        (sorted_parts s.1)) (splits ν)
    label μ =
        ap (λ z. cond (test μ) z (pos 0)) (placings-total μ ν)
        ∙ sym (total_cond (test μ) (λ (s : List ℕ × List ℕ). at_only μ (sorted_parts s.0))
        (splits ν))
        ∙ total_among
        (λ (s : List ℕ × List ℕ). cond (test μ) (at_only μ (sorted_parts s.0)) (pos 0))
        (λ (s : List ℕ × List ℕ). at_only (sorted_parts s.0) μ *ℤ coefficient right
        (sorted_parts s.1))
        (splits ν)
        (λ s m.
        by s m (same (sorted_parts s.0) μ) refl
        ∙ ap₂ (λ (b : Bool) (z : ℤ). cond b (pos 1) (pos 0) *ℤ z) (same_sym (sorted_parts s.0) μ)
        (sym (h (sorted_parts s.1) (IsPartition-sorted_parts s.1))))
      where
        by : (s : List ℕ × List ℕ) → Among s (splits ν) → (b : Bool) → same (sorted_parts s.0) μ ≡ b
            → cond (test μ) (cond b (pos 1) (pos 0)) (pos 0)
            ≡ cond b (pos 1) (pos 0) *ℤ cond (size (sorted_parts s.1) == k) (pos 1) (pos 0)
        by s m true e =
            let a = sizes-splits ν s m in
            let c = ap size (same_true (sorted_parts s.0) μ e) in
            let d = size-sorted_parts s.0 in
            let f = size-sorted_parts s.1 in
            ap (λ (t : Bool). cond t (pos 1) (pos 0))
            (tests_agree (test μ) (size (sorted_parts s.1) == k)
            (λ t. let u = eqb-true (size μ + k) (size ν) t in eq-eqb (size (sorted_parts s.1)) k
            (omega arith))
            (λ t. let u = eqb-true (size (sorted_parts s.1)) k t in eq-eqb (size μ + k) (size ν)
            (omega arith)))
            ∙ sym (one-product (cond (size (sorted_parts s.1) == k) (pos 1) (pos 0)))
        by s m false e = nothing_either (test μ)
            ∙ sym (zero-*ℤ (cond (size (sorted_parts s.1) == k) (pos 1) (pos 0)))
