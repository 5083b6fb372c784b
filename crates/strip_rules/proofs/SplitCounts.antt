-- The splits of a list, that is, the pairs of lists that add up to it place by place: the number of entries that are at least k in the first list,
-- compared with that in the whole list.
--     counts-splits     the first list has at most as many numbers ≥ k as the whole list
--     counts-near       if the second list has only 0 and 1, the whole list has at most as many numbers ≥ k + 1
--                       as the first list has numbers ≥ k
--     some_split        if the number of splits that pass a test is not 0, some split passes it
use Rattle.std.proofs.Common.{◌≡◌, ◌⊎◌, ℕ, zero, suc, ◌+◌, ◌-◌, ◌<◌, ◌≤◌, Bool, true, cond, leb, List, [], ◌∷◌, map, length, refl, sym, ap, subst, inl, inr, arith, filter, rules}
use Rattle.std.proofs.lemmas.Bool.{cases_lt, lt-leb}
use Rattle.sym_model.specs.Sum.{Among}
use Rattle.sym_model.specs.Partition.{IsPartition, Holds, part, insert_part, sorted_parts}
use Rattle.sym_model.specs.Conjugate.{count_from}
use Rattle.sym_model.proofs.Sums.{Among_from_each, Among_from_map, Among_from_select, down_from-below}
use Rattle.sym_model.proofs.Conjugates.{count_from-least, count_from-most}
use Rattle.monomial_laws.specs.MonomialProduct.{splits}
use Rattle.sym_model.specs.Bases.{down_from}
use Rattle.sym_model.specs.Strip.{IsVerticalStrip}
use Rattle.strip_laws.proofs.Strips.{vertical_from_rows}
use Rattle.sym_model.proofs.Parts.{positive_within}
use Rattle.std.proofs.Math.Dec.{leb-suc-suc}

-- the pair s of lists is a split of c ∷ ν: the first numbers of the two lists are `first` ≤ c and c - first, and the lists of the numbers after these
-- are a split of ν
pub record IsSplitOf (c : ℕ) (ν : List ℕ) (s : List ℕ × List ℕ) : Type 0 where
  pub first : ℕ
  pub rest : List ℕ × List ℕ
  pub low : first ≤ c
  pub among : Among rest (splits ν)
  pub is : s ≡ (first ∷ rest.0, (c - first) ∷ rest.1)

pub first_place : (c : ℕ) (ν : List ℕ) (s : List ℕ × List ℕ) → Among s (splits (c ∷ ν))
    → IsSplitOf c ν s
first_place c ν s m =
    let r = Among_from_each
    (λ (b : ℕ). map (λ (t : List ℕ × List ℕ). (b ∷ t.0, (c - b) ∷ t.1)) (splits ν)) s
    (down_from c) m in
    let u = Among_from_map (λ (t : List ℕ × List ℕ). (r.0 ∷ t.0, (c - r.0) ∷ t.1)) s
    (splits ν) r.2 in
    record { first = r.0; rest = u.0; low = down_from-below c r.0 r.1; among = u.1; is = u.2 }

reaches : (k a b : ℕ) → a ≤ b → cond (leb k a) 1 0 ≤ cond (leb k b) 1 0
reaches k a b h = search rules

pub counts-splits : (ν : List ℕ) (s : List ℕ × List ℕ) (k : ℕ) → Among s (splits ν)
    → count_from k s.0 ≤ count_from k ν
counts-splits [] s k (inl e) = omega (arith, ap (λ (p : List ℕ × List ℕ). count_from k p.0) e)
counts-splits [] s k (inr m) = absurd m
counts-splits (c ∷ ν) s k m =
    let p = first_place c ν s m in
    omega (
      arith,
      reaches k p.first c p.low,
      ap
          (λ (q : List ℕ × List ℕ). count_from k q.0) p.is,
      counts-splits ν p.rest k p.among,
    )

pub counts-near : (ν : List ℕ) (s : List ℕ × List ℕ) (k : ℕ) → Among s (splits ν)
    → ((a : ℕ) → Among a s.1 → a ≤ 1) → count_from (suc k) ν ≤ count_from k s.0
counts-near [] s k m h = omega arith
counts-near (c ∷ ν) s k m h =
    let p = first_place c ν s m in
    let few : c - p.first ≤ 1 = h (c - p.first)
    (subst (λ (q : List ℕ × List ℕ). Among (c - p.first) q.1) (sym p.is) (inl refl)) in
    omega (
      arith,
      reaches (suc k) c (suc p.first) (omega (arith, few, p.low)),
      ap (λ (b : Bool). cond {A = ℕ} b 1 0) (leb-suc-suc k p.first),
      ap (λ (q : List ℕ × List ℕ). count_from k q.0) p.is,
      counts-near ν p.rest k p.among
          (λ a n. h a (subst (λ (q : List ℕ × List ℕ). Among a q.1) (sym p.is) (inr n))),
    )

count_from-insert_part : (k a : ℕ) (parts : List ℕ) → 0 < k → count_from k (insert_part a parts)
    ≡ cond (leb k a) 1 0 + count_from k parts
count_from-insert_part k zero parts h = rw (lt-leb k 0 h) (omega arith)
count_from-insert_part k (suc a) [] h = refl
count_from-insert_part k (suc a) (c ∷ parts) h = search (rules, (count_from-insert_part k (suc a) parts h))

pub count_from-sorted_parts : (k : ℕ) (α : List ℕ) → 0 < k → count_from k (sorted_parts α)
    ≡ count_from k α
count_from-sorted_parts k [] h = refl
count_from-sorted_parts k (a ∷ α) h = search (rules, count_from-insert_part, (count_from-sorted_parts k α h))

pub holds_from_counts : (outer inner : List ℕ) → IsPartition outer → IsPartition inner
    → ((k : ℕ) → 0 < k → count_from k inner ≤ count_from k outer) → Holds outer inner
holds_from_counts outer inner p q h i = by (cases_lt (part outer i) (part inner i))
  where
    by : (part outer i < part inner i) ⊎ (part inner i ≤ part outer i) → part inner i ≤ part outer i
    by (inl l) =
        let some : 0 < part inner i = omega (arith, l) in
        let a = count_from-least (part inner i) inner (i - 1) q.falls (positive_within inner (i - 1) some)
        (omega arith) in
        let b = count_from-most (part inner i) outer (i - 1) p.falls l in
        absurd (omega (arith, a, b, h (part inner i) some))
    by (inr l) = l

pub vertical_from_counts : (outer inner : List ℕ) → IsPartition outer → IsPartition inner
    → ((k : ℕ) → 0 < k → count_from k inner ≤ count_from k outer)
    → ((k : ℕ) → 0 < k → count_from (suc k) outer ≤ count_from k inner)
    → IsVerticalStrip outer inner
vertical_from_counts outer inner p q h n =
    vertical_from_rows outer inner (holds_from_counts outer inner p q h)
    (λ i l. by i (cases_lt (part inner i + 1) (part outer i)))
  where
    by : (i : ℕ) → (part inner i + 1 < part outer i) ⊎ (part outer i ≤ part inner i + 1)
        → part outer i ≤ part inner i + 1
    by i (inl l) =
        let k = part inner i + 1 in
        let a = count_from-least (suc k) outer (i - 1) p.falls
        (positive_within outer (i - 1) (omega (arith, l))) (omega (arith, l)) in
        let b = count_from-most k inner (i - 1) q.falls (omega arith) in
        absurd (omega (arith, a, b, n k (omega arith)))
    by i (inr l) = l

pub some_split : (test : List ℕ × List ℕ → Bool) (ν : List ℕ) → 0 < length (filter test (splits ν))
    → (s : List ℕ × List ℕ) × Among s (splits ν) × (test s ≡ true)
some_split test ν h = by (filter test (splits ν)) refl h
  where
    by : (found : List (List ℕ × List ℕ)) → filter test (splits ν) ≡ found → 0 < length found
        → (s : List ℕ × List ℕ) × Among s (splits ν) × (test s ≡ true)
    by [] e l = absurd (omega arith)
    by (s ∷ found) e l = let m = Among_from_select test s (splits ν)
        (subst (Among s) (sym e) (inl refl)) in (s, m.0, m.1)
