-- The coefficient of m_ν in m_μ·e_k: how it changes if a last row is added to μ and to ν.
--     column-raised     the coefficient after a last row is added, of length c in μ and c + 1 in ν
--     column-kept       the coefficient after a last row of length c is added to both μ and ν
--     column-strips     the coefficient is 0 unless ν/μ is a vertical strip
use Rattle.std.proofs.Common.{◌≡◌, ◌⊎◌, ℕ, zero, suc, ◌+◌, ◌-◌, ◌*◌, ◌<◌, ◌≤◌, Bool, true, false, ◌&&◌, ◌||◌, cond, ◌==◌, eqb, leb, List, [], ◌∷◌, ◌++◌, length, sym, ◌∙◌, ap, ap₂, refl, inl, inr, arith, ℤ, pos, ◌+ℤ◌, ◌*ℤ◌, rules}
use Rattle.std.proofs.lemmas.Bool.{cases_eq, cases_lt, le-leb, lt-leb, eq-eqb, ne_eqb, and_parts}
use Rattle.std.proofs.lemmas.Int.{ints}
use Rattle.sym_model.specs.Sum.{total, Among}
use Rattle.sym_model.specs.Polynomial.{same, pair}
use Rattle.sym_model.specs.Partition.{IsPartition, size, insert_part, sorted_parts}
use Rattle.sym_model.specs.Bases.{has}
use Rattle.sym_model.specs.RaisedPart.{without_one, distinct}
use Rattle.sym_model.specs.Schur.{times_in}
use Rattle.sym_model.specs.Strip.{IsVerticalStrip}
use Rattle.sym_model.specs.Conjugate.{count_from}
use Rattle.sym_model.specs.WholeTerms.{WholeTerms}
use Rattle.sym_model.proofs.Parts.{size-ones, ArePositive-ones}
use Rattle.sym_model.proofs.Sums.{total_ext, total_among, total_none, total_scale, length-select}
use Rattle.sym_model.proofs.Exponents.{same_true, same_apart}
use Rattle.sym_model.proofs.Polynomials.{pair_ext}
use Rattle.sym_model.proofs.SortedParts.{insert_part_comm, without_one-insert_part, without_one-zero, times_in-sorted_parts, has-insert_part, has-zero, has_past, has-zero_or, size-sorted_parts, IsPartition-insert_part, rows-sorted_parts, sorted_parts-partition, insert_part-injective, length-insert_part}
use Rattle.monomial_laws.specs.MonomialProduct.{splits, arrangements, product_coefficient}
use Rattle.monomial_laws.proofs.Splits.{length-splits, product_coefficient-arrangements, product_coefficient-sorted, sorted_total}
use Rattle.monomial_laws.proofs.Arrangements.{arrangements-cons, arrangements-comm, sizes-splits}
use Rattle.strip_rules.specs.StripProduct.{column}
use Rattle.strip_rules.proofs.MarkedPlaces.{IsTaken, marked_taken, marked-equal, marking}
use Rattle.strip_rules.proofs.SplitCounts.{some_split, counts-splits, counts-near, count_from-sorted_parts, vertical_from_counts}
use lib.IntN.{+ℤ_idr, *ℤ-zero}
use Rattle.sym_model.proofs.Integers.{pos_equal, single_term}
use Rattle.std.proofs.Math.Nat.{mul_comm}
use Rattle.monomial_laws.proofs.AtomTerms.{Falls-ones}
use Rattle.partitions.proofs.Arrangings.{same-insert_part}

pub column-lists : (k : ℕ) (left : WholeTerms) (ν : List ℕ)
    → product_coefficient left ((column k, pos 1) ∷ []) ν
    ≡ pair left (λ μ. pos (arrangements μ (column k) ν))
column-lists k left ν = search (rules, product_coefficient-arrangements, left, pair_ext, single_term)

pub arrangements-sorted : (l r ν ρ : List ℕ) → sorted_parts ν ≡ sorted_parts ρ → arrangements l r ν
    ≡ arrangements l r ρ
arrangements-sorted l r ν ρ e = pos_equal
    (sym (alone ν) ∙ sym (product_coefficient-sorted L R ν) ∙ ap (product_coefficient L R) e
    ∙ product_coefficient-sorted L R ρ ∙ alone ρ)
  where
    L : WholeTerms
    L = (l, pos 1) ∷ []

    R : WholeTerms
    R = (r, pos 1) ∷ []

    alone : (γ : List ℕ) → product_coefficient L R γ ≡ pos (arrangements l r γ)
    alone γ = product_coefficient-arrangements L R γ
        ∙ single_term (pos 1 *ℤ pos (arrangements l r γ) +ℤ pos 0) ∙ single_term (pos (arrangements l r γ))

pub sorted_parts-last : (c : ℕ) (α : List ℕ) → sorted_parts (α ++ c ∷ [])
    ≡ insert_part c (sorted_parts α)
sorted_parts-last c [] = refl
sorted_parts-last c (a ∷ α) = search (rules, insert_part_comm, (sorted_parts-last c α))

column-first : (k : ℕ) → insert_part 1 (column k) ≡ column (suc k)
column-first zero = refl
column-first (suc k) = refl

column-partition : (k : ℕ) → IsPartition (column k)
column-partition k = record { falls = Falls-ones k; positive = ArePositive-ones k }

column-lacks : (a k : ℕ) → 1 < a → has a (column k) ≡ false
column-lacks a zero h = refl
column-lacks a (suc k) h = has_past a 1 (column k) (λ e. omega arith) ∙ column-lacks a k h

column-few : (k : ℕ) → count_from 2 (column k) ≡ 0
column-few zero = refl
column-few (suc k) = omega
    (arith, column-few k, ap (λ (b : Bool). cond {A = ℕ} b 1 0) (lt-leb 2 1 (omega arith)))

zeros-sorted : (α : List ℕ) → times_in 0 α + length (sorted_parts α) ≡ length α
zeros-sorted [] = omega arith
zeros-sorted (zero ∷ α) = omega (arith, zeros-sorted α)
zeros-sorted (suc a ∷ α) = search (rules, length-insert_part, ne_eqb, (zeros-sorted α))

times_in-sorted : (c : ℕ) (α β : List ℕ) → length α ≡ length β → sorted_parts α ≡ sorted_parts β
    → times_in c α ≡ times_in c β
times_in-sorted zero α β l e = omega (arith, l, zeros-sorted α, zeros-sorted β, ap length e)
times_in-sorted (suc c) α β l e = search (rules, times_in-sorted_parts)

-- ---- the change of the coefficient of m_ν in m_μ·e_k by one more row, of length c in μ and of length c + 1 in ν

-- 1 if x is the label l and y is the label r, else 0
abbrev are_labels : List ℕ → List ℕ → List ℕ → List ℕ → ℤ
are_labels l r x y = cond (same x l && same y r) (pos 1) (pos 0)

arrangements-total : (l r ν : List ℕ) → pos (arrangements l r ν)
    ≡ sorted_total (λ x y. are_labels l r x y) ν
arrangements-total l r ν = search (rules, length-select)

second_unequal : (p q : Bool) → q ≡ false → cond (p && q) (pos 1) (pos 0) ≡ pos 0
second_unequal true q e = ap (λ (b : Bool). cond b (pos 1) (pos 0)) e
second_unequal false q e = refl

module _ (c k : ℕ) (α ν : List ℕ) (long : length α ≡ length ν)
    (above : (d : ℕ) → Among d ν → c < d) where
  left : total (λ (s : List ℕ × List ℕ). pos (times_in c s.0) *ℤ are_labels
      (insert_part c (sorted_parts α)) (column (suc k)) (sorted_parts s.0) (sorted_parts s.1))
      (splits (suc c ∷ ν))
      ≡ pos (suc (times_in c α) * arrangements (insert_part c (sorted_parts α)) (column (suc k))
      (suc c ∷ ν))
  left =
      total_among
      (λ (s : List ℕ × List ℕ). pos (times_in c s.0) *ℤ are_labels (insert_part c (sorted_parts α))
      (column (suc k)) (sorted_parts s.0) (sorted_parts s.1))
      (λ (s : List ℕ × List ℕ). pos (suc (times_in c α)) *ℤ are_labels
      (insert_part c (sorted_parts α)) (column (suc k)) (sorted_parts s.0) (sorted_parts s.1))
      (splits (suc c ∷ ν))
      (λ s m. by s m (same (sorted_parts s.0) (insert_part c (sorted_parts α)))
      (same (sorted_parts s.1) (column (suc k))) refl)
      ∙ total_scale (pos (suc (times_in c α)))
      (λ (s : List ℕ × List ℕ). are_labels (insert_part c (sorted_parts α)) (column (suc k))
      (sorted_parts s.0) (sorted_parts s.1))
      (splits (suc c ∷ ν))
      ∙ ap (λ z. pos (suc (times_in c α)) *ℤ z)
      (sym (arrangements-total (insert_part c (sorted_parts α)) (column (suc k)) (suc c ∷ ν)))
    where
      by : (s : List ℕ × List ℕ) → Among s (splits (suc c ∷ ν)) → (p q : Bool)
          → same (sorted_parts s.0) (insert_part c (sorted_parts α)) ≡ p
          → pos (times_in c s.0) *ℤ cond (p && q) (pos 1) (pos 0)
          ≡ pos (suc (times_in c α)) *ℤ cond (p && q) (pos 1) (pos 0)
      by s m true q e =
          let l = (length-splits (suc c ∷ ν) s m).0 in
          let t = times_in-sorted c s.0 (c ∷ α) (l ∙ ap suc (sym long))
          (same_true (sorted_parts s.0) (insert_part c (sorted_parts α)) e) in
          let u : times_in c (c ∷ α)
          ≡ 1 + times_in c α = ap (λ (b : Bool). cond {A = ℕ} b 1 0 + times_in c α)
          (eq-eqb c c refl) in
          let v : times_in c s.0 ≡ suc (times_in c α) = omega (arith, t, u) in
          ap (λ n. pos n *ℤ cond q (pos 1) (pos 0)) v
      by s m false q e = *ℤ-zero (pos (times_in c s.0)) ∙ sym (*ℤ-zero (pos (suc (times_in c α))))

  place : (d : ℕ) (rest : List ℕ) → IsTaken d rest (suc c ∷ ν)
      → cond (leb c d)
      (sorted_total
      (λ x y. are_labels (insert_part c (sorted_parts α)) (column (suc k)) (insert_part c x)
      (insert_part (d - c) y)) rest) (pos 0)
      ≡ cond (eqb d (suc c)) (pos (arrangements (sorted_parts α) (column k) ν)) (pos 0)
  place d rest t = by (cases_eq d (suc c)) (least t.among)
    where
      least : (d ≡ suc c) ⊎ Among d ν → c < d
      least (inl e) = omega arith
      least (inr m) = above d m

      by : (d ≡ suc c) ⊎ (d ≡ suc c → ⊥) → c < d
          → cond (leb c d)
          (sorted_total
          (λ x y. are_labels (insert_part c (sorted_parts α)) (column (suc k)) (insert_part c x)
          (insert_part (d - c) y)) rest) (pos 0)
          ≡ cond (eqb d (suc c)) (pos (arrangements (sorted_parts α) (column k) ν)) (pos 0)
      by (inl e) l =
          let one : d - c ≡ 1 = omega arith in
          ap₂ (λ (b : Bool) (n : ℕ). cond b
          (sorted_total
          (λ x y. are_labels (insert_part c (sorted_parts α)) (column (suc k)) (insert_part c x)
          (insert_part n y)) rest) (pos 0))
          (le-leb c d (omega arith)) one
          ∙ total_ext
          (λ (s : List ℕ × List ℕ). are_labels (insert_part c (sorted_parts α)) (column (suc k))
          (insert_part c (sorted_parts s.0)) (insert_part 1 (sorted_parts s.1)))
          (λ (s : List ℕ × List ℕ). are_labels (sorted_parts α) (column k) (sorted_parts s.0)
          (sorted_parts s.1))
          (λ s.
          ap₂ (λ (p q : Bool). cond (p && q) (pos 1) (pos 0))
          (same-insert_part c (sorted_parts s.0) (sorted_parts α))
          (ap (same (insert_part 1 (sorted_parts s.1))) (sym (column-first k))
          ∙ same-insert_part 1 (sorted_parts s.1) (column k)))
          (splits rest)
          ∙ sym (arrangements-total (sorted_parts α) (column k) rest)
          ∙ ap pos
          (arrangements-sorted (sorted_parts α) (column k) rest ν
          (insert_part-injective (suc c) (sorted_parts rest) (sorted_parts ν)
          (ap (λ n. insert_part n (sorted_parts rest)) (sym e) ∙ t.parts)))
          ∙ ap (λ (b : Bool). cond b (pos (arrangements (sorted_parts α) (column k) ν)) (pos 0))
          (sym (eq-eqb d (suc c) e))
      by (inr n) l =
          ap (λ (b : Bool). cond b
          (sorted_total
          (λ x y. are_labels (insert_part c (sorted_parts α)) (column (suc k)) (insert_part c x)
          (insert_part (d - c) y)) rest) (pos 0)) (le-leb c d (omega arith))
          ∙ total_none
          (λ (s : List ℕ × List ℕ). are_labels (insert_part c (sorted_parts α)) (column (suc k))
          (insert_part c (sorted_parts s.0)) (insert_part (d - c) (sorted_parts s.1)))
          (splits rest)
          (λ s m. second_unequal (same (insert_part c (sorted_parts s.0)) (insert_part c (sorted_parts α)))
          (same (insert_part (d - c) (sorted_parts s.1)) (column (suc k)))
          (same_apart (insert_part (d - c) (sorted_parts s.1)) (column (suc k))
          (λ e.
          let i : has (d - c) (insert_part (d - c) (sorted_parts s.1))
          ≡ true = has-insert_part (d - c) (sorted_parts s.1) (omega arith) in
          let j : has (d - c) (column (suc k))
          ≡ false = column-lacks (d - c) (suc k) (omega (arith, n)) in
          let f = ap (has (d - c)) e in
          absurd (cc))))
          ∙ ap (λ (b : Bool). cond b (pos (arrangements (sorted_parts α) (column k) ν)) (pos 0))
          (sym (ne_eqb d (suc c) n))

  raised-front : suc (times_in c α) * arrangements (insert_part c (sorted_parts α)) (column (suc k))
      (suc c ∷ ν) ≡ suc (times_in (suc c) ν) * arrangements (sorted_parts α) (column k) ν
  raised-front =
      pos_equal
      (sym left
      ∙ marking (suc c ∷ ν) c
      (λ x y. are_labels (insert_part c (sorted_parts α)) (column (suc k)) x y)
      ∙ marked_taken
      (λ (d : ℕ) (rest : List ℕ). cond (leb c d)
      (sorted_total
      (λ x y. are_labels (insert_part c (sorted_parts α)) (column (suc k)) (insert_part c x)
      (insert_part (d - c) y)) rest) (pos 0))
      (λ (d : ℕ) (rest : List ℕ). cond (eqb d (suc c))
      (pos (arrangements (sorted_parts α) (column k) ν)) (pos 0))
      (suc c ∷ ν) place
      ∙ marked-equal (suc c) (pos (arrangements (sorted_parts α) (column k) ν)) (suc c ∷ ν)
      ∙ ap (λ n. pos (n * arrangements (sorted_parts α) (column k) ν))
      (ap (λ (b : Bool). cond {A = ℕ} b 1 0 + times_in (suc c) ν) (eq-eqb (suc c) (suc c) refl)
      ∙ (let o : 1 + times_in (suc c) ν ≡ suc (times_in (suc c) ν) = omega arith in o)))

  pub column-raised : arrangements (sorted_parts (α ++ c ∷ [])) (column (suc k))
      (ν ++ suc c ∷ []) * suc (times_in c α)
      ≡ arrangements (sorted_parts α) (column k) ν * suc (times_in (suc c) ν)
  column-raised =
      ap₂ (λ (l : List ℕ) (n : ℕ). n * suc (times_in c α)) (sorted_parts-last c α)
      (ap (λ l. arrangements l (column (suc k)) (ν ++ suc c ∷ [])) (sorted_parts-last c α)
      ∙ arrangements-sorted (insert_part c (sorted_parts α)) (column (suc k)) (ν ++ suc c ∷ [])
      (suc c ∷ ν) (sorted_parts-last (suc c) ν))
      ∙ mul_comm (arrangements (insert_part c (sorted_parts α)) (column (suc k)) (suc c ∷ ν)) (suc (times_in c α))
      ∙ raised-front
      ∙ mul_comm (suc (times_in (suc c) ν)) (arrangements (sorted_parts α) (column k) ν)

-- ---- the coefficient of m_ν in m_μ·e_k with one more row of length c in both μ and ν

pub arrangements-long : (l r ν : List ℕ) → length ν < length r → arrangements l r ν ≡ 0
arrangements-long l r ν h = search (rules, pos_equal, arrangements-total, total_none, second_unequal, same_apart, rows-sorted_parts, length-splits)

total-column : (f : ℕ → ℤ) (k : ℕ) → f 1 ≡ pos 0 → total f (distinct (column k)) ≡ pos 0
total-column f zero e = refl
total-column f (suc k) e = search (rules, ints, (total-column f k e))

lacks_less : (c a : ℕ) (μ : List ℕ) → ((b : ℕ) → Among b μ → c ≤ b) → a < c → has a μ ≡ false
lacks_less c a [] h l = refl
lacks_less c a (b ∷ μ) h l = let m = h b (inl refl) in has_past a b μ (λ e. omega arith)
    ∙ lacks_less c a μ (λ d n. h d (inr n)) l

has-other : (a c : ℕ) (parts : List ℕ) → (c ≡ a → ⊥) → has a (insert_part c parts) ≡ has a parts
has-other a zero parts n = refl
has-other a (suc c) [] n = has_past a (suc c) [] n
has-other a (suc c) (d ∷ parts) n = by (leb d (suc c)) (cases_eq d a) (has-other a (suc c) parts n)
  where
    by : (b : Bool) → (d ≡ a) ⊎ (d ≡ a → ⊥) → has a (insert_part (suc c) parts) ≡ has a parts
        → has a (cond b (suc c ∷ d ∷ parts) (d ∷ insert_part (suc c) parts)) ≡ has a (d ∷ parts)
    by true e r = has_past a (suc c) (d ∷ parts) n
    by false e r = ap (λ (b : Bool). (d == a) || b) r

kept-front : (c k : ℕ) (μ ν : List ℕ) → 0 < c → IsPartition μ → length μ ≡ length ν
    → ((b : ℕ) → Among b μ → c ≤ b)
    → arrangements (insert_part c μ) (column k) (c ∷ ν) ≡ arrangements μ (column k) ν
kept-front zero k μ ν h p long above = absurd (omega arith)
kept-front (suc c) k μ ν h p long above =
    arrangements-comm (insert_part (suc c) μ) (column k) (suc c ∷ ν)
    ∙ pos_equal
    (arrangements-cons (suc c) ν (column k) (insert_part (suc c) μ) (column-partition k)
    (IsPartition-insert_part (suc c) μ p)
    ∙ ap (total f)
    (ap (λ (b : Bool). cond b (distinct (column k)) (0 ∷ distinct (column k)))
    (has-zero (column k) (ArePositive-ones k)))
    ∙ ap₂ ◌+ℤ◌ first (total-column f k (second c refl))
    ∙ +ℤ_idr (pos (arrangements (column k) μ ν)))
    ∙ arrangements-comm (column k) μ ν
  where
    g : ℕ → ℕ → ℤ
    g b d = cond (has d (0 ∷ insert_part (suc c) μ))
        (pos (arrangements (without_one b (column k)) (without_one d (insert_part (suc c) μ)) ν))
        (pos 0)

    f : ℕ → ℤ
    f b = cond (leb b (suc c)) (g b (suc c - b)) (pos 0)

    first : f 0 ≡ pos (arrangements (column k) μ ν)
    first =
        let o : suc c - 0 ≡ suc c = omega arith in
        ap₂ (λ (t : Bool) (d : ℕ). cond t (g 0 d) (pos 0)) (le-leb 0 (suc c) (omega arith)) o
        ∙ ap (λ (t : Bool). cond t
        (pos (arrangements (without_one 0 (column k))
        (without_one (suc c) (insert_part (suc c) μ)) ν)) (pos 0))
        (has-zero_or (suc c) (insert_part (suc c) μ)
        (inr (has-insert_part (suc c) μ (omega arith))))
        ∙ ap₂ (λ l r. pos (arrangements l r ν)) (without_one-zero (column k) (ArePositive-ones k))
        (without_one-insert_part (suc c) μ (omega arith))

    second : (d : ℕ) → c ≡ d → f 1 ≡ pos 0
    second zero e =
        let o : suc c - 1 ≡ 0 = omega arith in
        ap₂ (λ (t : Bool) (d : ℕ). cond t (g 1 d) (pos 0)) (le-leb 1 (suc c) (omega arith)) o
        ∙ ap pos
        (arrangements-long (without_one 1 (column k)) (without_one 0 (insert_part (suc c) μ)) ν
        (let a = without_one-zero (insert_part (suc c) μ)
        (IsPartition-insert_part (suc c) μ p).positive in
        omega (arith, ap length a, length-insert_part c μ)))
    second (suc d) e =
        let o : suc c - 1 ≡ suc d = omega arith in
        ap₂ (λ (t : Bool) (d : ℕ). cond t (g 1 d) (pos 0)) (le-leb 1 (suc c) (omega arith)) o
        ∙ ap (λ (t : Bool). cond t
        (pos (arrangements (without_one 1 (column k))
        (without_one (suc d) (insert_part (suc c) μ)) ν)) (pos 0))
        (has_past (suc d) 0 (insert_part (suc c) μ) (λ e. omega arith)
        ∙ has-other (suc d) (suc c) μ (λ e. omega arith)
        ∙ lacks_less (suc c) (suc d) μ above (omega arith))

pub column-kept : (c k : ℕ) (μ ν : List ℕ) → 0 < c → IsPartition μ → length μ ≡ length ν
    → ((b : ℕ) → Among b μ → c ≤ b)
    → arrangements (sorted_parts (μ ++ c ∷ [])) (column k) (ν ++ c ∷ [])
    ≡ arrangements μ (column k) ν
column-kept c k μ ν h p long above =
    ap (λ l. arrangements l (column k) (ν ++ c ∷ []))
    (sorted_parts-last c μ ∙ ap (insert_part c) (sorted_parts-partition μ p))
    ∙ arrangements-sorted (insert_part c μ) (column k) (ν ++ c ∷ []) (c ∷ ν) (sorted_parts-last c ν)
    ∙ kept-front c k μ ν h p long above

among-count : (k a : ℕ) (numbers : List ℕ) → k ≤ a → Among a numbers → 0 < count_from k numbers
among-count k a [] h m = absurd m
among-count k a (b ∷ numbers) h (inl e) = search rules
among-count k a (b ∷ numbers) h (inr m) = omega (arith, among-count k a numbers h m)

pub column-strips : (k : ℕ) (μ ν : List ℕ) → IsPartition μ → IsPartition ν
    → 0 < arrangements μ (column k) ν → IsVerticalStrip ν μ × (size ν ≡ size μ + k)
column-strips k μ ν p q h =
    let s = some_split
    (λ (s : List ℕ × List ℕ). same (sorted_parts s.0) μ && same (sorted_parts s.1)
    (column k)) ν h in
    let t = and_parts (same (sorted_parts s.0.0) μ) (same (sorted_parts s.0.1) (column k)) s.2 in
    let a = same_true (sorted_parts s.0.0) μ t.0 in
    let b = same_true (sorted_parts s.0.1) (column k) t.1 in (
      vertical_from_counts ν μ q p
          (λ j l. omega (
            arith,
            counts-splits ν s.0 j s.1,
            count_from-sorted_parts j s.0.0 l,
            ap
                (count_from j) a,
          ))
          (λ j l. omega (
            arith,
            counts-near ν s.0 j s.1 (few s.0.1 b),
            count_from-sorted_parts j s.0.0 l,
            ap
                (count_from j) a,
          )),
      omega (arith, sizes-splits ν s.0 s.1, size-sorted_parts s.0.0, size-sorted_parts s.0.1, ap size a, ap size b, size-ones k),
    )
  where
    few : (β : List ℕ) → sorted_parts β ≡ column k → (a : ℕ) → Among a β → a ≤ 1
    few β e a m = by (cases_lt 1 a)
      where
        by : (1 < a) ⊎ (a ≤ 1) → a ≤ 1
        by (inl l) = absurd
            (omega (
              arith,
              among-count 2 a β (omega arith) m,
              count_from-sorted_parts 2 β
                  (omega arith),
              ap (count_from 2) e,
              column-few k,
            ))
        by (inr l) = l
