-- The partitions that contain a partition `inner` and have k more cells, listed by the length of their first row.
--     added-none        for k = 0 only the partition itself
--     rows-none, -next, -all     the partitions whose first row is shorter than a bound, one length after the other
--     all_added         all partitions that contain `inner` and have k more cells
use Rattle.std.proofs.Common.{◌≡◌, ◌⊎◌, ℕ, zero, suc, ◌+◌, ◌-◌, ◌<◌, ◌≤◌, max, min, List, [], ◌∷◌, ◌++◌, map, length, drop, get_or, refl, sym, ◌∙◌, ap, ap₂, subst, inl, inr, arith, append_assoc, append-nil, rules}
use Rattle.std.proofs.lemmas.Bool.{cases_lt}
use Rattle.std.proofs.lemmas.List.{map-append}
use Rattle.sym_model.specs.Sum.{Among}
use Rattle.sym_model.specs.Partition.{IsPartition, Falls, Holds, part, size}
use Rattle.sym_model.proofs.Sums.{Among-append_left, Among-append_right, Among_from_append, Among-map, Among_from_map, Once-append, Once-map}
use Rattle.sym_model.proofs.SortedParts.{IsPartition_tail, Falls_from_size}
use Rattle.sym_model.proofs.Parts.{size-first, first_positive}
use Rattle.partitions.specs.Limits.{IsWithinLimits}
use Rattle.product_laws.specs.StripLists.{ListsEach}
use Rattle.sym_model.proofs.SortedParts.{rows_within_size}
use Rattle.strip_laws.proofs.Containment.{Holds-get_or, Holds_below, Holds-size, Holds-same_size}
use Rattle.strip_rules.specs.Rows.{AddsBelow, AddsCells, HasAdded}

pub fewer_left : (k row : ℕ) (parts : List ℕ) → 0 < k → 1 ≤ row → part parts 1 ≤ row → length (drop 1 parts) + (part parts 1 + k - row) < length parts + k
fewer_left k row [] p some l = omega arith
fewer_left k row (a ∷ parts) p some l = omega arith

pub adds_itself : (most : ℕ) (inner : List ℕ) → IsPartition inner → Falls (most ∷ inner) → AddsBelow most 0 inner inner
adds_itself most inner p f = ((p, omega arith, λ i. omega arith), f)

pub added-none : (most : ℕ) (inner above : List ℕ) (old new : List (List ℕ)) → IsPartition inner → Falls (most ∷ inner) → new ≡ old ++ (above ++ inner) ∷ [] → HasAdded (AddsBelow most 0 inner) above old new
added-none most inner above old new p f e = record {
  added = inner ∷ [];
  listed = e;
  each = record { once = ((λ m. m), tt); members = λ ν. (there ν, back ν) };
}
  where
    there : (ν : List ℕ) → Among ν (inner ∷ []) → AddsBelow most 0 inner ν
    there ν (inl e) = subst (AddsBelow most 0 inner) (sym e) (adds_itself most inner p f)
    there ν (inr m) = absurd m

    back : (ν : List ℕ) → AddsBelow most 0 inner ν → Among ν (inner ∷ [])
    back ν a = inl (Holds-same_size ν inner a.0.0.positive p.positive a.0.2 (let e = a.0.1 in omega arith))

-- ---- the partitions with k more cells whose first row is shorter than a bound

abbrev pub HasRow : ℕ → ℕ → List ℕ → ℕ → List ℕ → Type 0
HasRow most k inner row ν = AddsBelow most k inner ν × (part ν 1 < row)

pub rows-none : (most k : ℕ) (inner above : List ℕ) (row : ℕ) (old : List (List ℕ)) → 0 < k → row ≡ max (part inner 1) 1 → HasAdded (HasRow most k inner row) above old old
rows-none most k inner above row old some e = record {
  added = [];
  listed = sym (append-nil old);
  each = record { once = tt; members = λ ν. ((λ m. absurd m), λ a. absurd (none ν a)) };
}
  where
    none : (ν : List ℕ) → HasRow most k inner row ν → ⊥
    none ν a =
        let s = a.0.0.1 in
        let h = a.0.0.2 1 in
        let l = a.1 in
        let f = first_positive ν a.0.0.0.positive (omega arith) in
        omega arith

module _ (most k row : ℕ) (inner : List ℕ) (p : IsPartition inner) (least : part inner 1 ≤ row) (some : 1 ≤ row) (fits : row ≤ most) (room : row ≤ part inner 1 + k) where
  in_front_of : (ν : List ℕ) → AddsBelow row (part inner 1 + k - row) (drop 1 inner) ν → HasRow most k inner (row + 1) (row ∷ ν)
  in_front_of ν a =
      let s = a.0.1 in
      let t = size-first inner in
      let cells : row + size ν ≡ size inner + k = omega arith in
      let is : IsPartition (row ∷ ν) = record { falls = a.1; positive = (omega arith, a.0.0.positive) } in
      (((is, cells, holds inner least a.0.2), (fits, a.1)), omega arith)
    where
      holds : (inner : List ℕ) → part inner 1 ≤ row → Holds ν (drop 1 inner) → Holds (row ∷ ν) inner
      holds inner l h i = by inner l h (i - 1)
        where
          by : (inner : List ℕ) → part inner 1 ≤ row → Holds ν (drop 1 inner) → (n : ℕ) → get_or inner n 0 ≤ get_or (row ∷ ν) n 0
          by [] l h zero = omega arith
          by [] l h (suc n) = omega arith
          by (v ∷ μ) l h zero = l
          by (v ∷ μ) l h (suc n) = Holds-get_or ν μ h n

  behind_it : (ν : List ℕ) → AddsBelow most k inner ν → part ν 1 ≡ row → (rest : List ℕ) × (ν ≡ row ∷ rest) × AddsBelow row (part inner 1 + k - row) (drop 1 inner) rest
  behind_it [] a e = absurd (omega arith)
  behind_it (x ∷ ν) a e =
      let s = a.0.1 in
      let t = size-first inner in
      let cells : size ν ≡ size (drop 1 inner) + (part inner 1 + k - row) = omega arith in
      let below = Holds_below (x ∷ ν) inner a.0.2 in
      (ν, ap (λ y. y ∷ ν) e, ((IsPartition_tail x ν a.0.0, cells, below), subst (λ (y : ℕ). Falls (y ∷ ν)) e a.0.0.falls))

  pub limits_behind : (above rest : List ℕ) → ((ν : List ℕ) → AddsBelow most k inner ν → IsWithinLimits (above ++ ν)) → AddsBelow row (part inner 1 + k - row) (drop 1 inner) rest → IsWithinLimits ((above ++ row ∷ []) ++ rest)
  limits_behind above rest h a = subst IsWithinLimits (sym (append_assoc above (row ∷ []) rest)) (h (row ∷ rest) (in_front_of rest a).0)

  behind_above : (above : List ℕ) (xs : List (List ℕ)) → map (λ ν. (above ++ row ∷ []) ++ ν) xs ≡ map (λ ν. above ++ ν) (map (λ ν. row ∷ ν) xs)
  behind_above above [] = refl
  behind_above above (ν ∷ xs) = ap₂ ◌∷◌ (append_assoc above (row ∷ []) ν) (behind_above above xs)

  pub rows-next : (above longer : List ℕ) (old cur new : List (List ℕ)) → longer ≡ above ++ row ∷ [] → HasAdded (HasRow most k inner row) above old cur
      → HasAdded (AddsBelow row (part inner 1 + k - row) (drop 1 inner)) longer cur new → HasAdded (HasRow most k inner (row + 1)) above old new
  rows-next above longer old cur new l s t = record {
    added = s.added ++ map (λ ν. row ∷ ν) t.added;
    listed =
        t.listed ∙ ap₂ (λ xs a. xs ++ map (λ ν. a ++ ν) t.added) s.listed l
        ∙ append_assoc old (map (λ ν. above ++ ν) s.added) (map (λ ν. (above ++ row ∷ []) ++ ν) t.added)
        ∙ ap (λ xs. old ++ xs)
        (ap (λ xs. map (λ ν. above ++ ν) s.added ++ xs) (behind_above above t.added)
        ∙ sym (map-append (λ (ν : List ℕ). above ++ ν) s.added (map (λ ν. row ∷ ν) t.added)));
    each = record {
      once =
          Once-append s.added (map (λ ν. row ∷ ν) t.added) s.each.once
          (Once-map (λ (ν : List ℕ). row ∷ ν) t.added (λ x y m n e. ap (drop 1) e) t.each.once)
          (λ x m n. let f = ((s.each.members x).0 m).1 in let g = Among_from_map (λ (ν : List ℕ). row ∷ ν) x t.added n in let e = ap (λ (y : List ℕ). part y 1) g.2 in omega arith);
      members = λ ν. (there ν, back ν);
    };
  }
    where
      there : (ν : List ℕ) → Among ν (s.added ++ map (λ ν. row ∷ ν) t.added) → HasRow most k inner (row + 1) ν
      there ν m = by (Among_from_append ν s.added (map (λ ν. row ∷ ν) t.added) m)
        where
          by : Among ν s.added ⊎ Among ν (map (λ ν. row ∷ ν) t.added) → HasRow most k inner (row + 1) ν
          by (inl n) = let a = (s.each.members ν).0 n in let l = a.1 in (a.0, omega arith)
          by (inr n) =
              let g = Among_from_map (λ (ν : List ℕ). row ∷ ν) ν t.added n in
              subst (HasRow most k inner (row + 1)) (sym g.2) (in_front_of g.0 ((t.each.members g.0).0 g.1))

      back : (ν : List ℕ) → HasRow most k inner (row + 1) ν → Among ν (s.added ++ map (λ ν. row ∷ ν) t.added)
      back ν a = by (cases_lt (part ν 1) row)
        where
          by : (part ν 1 < row) ⊎ (row ≤ part ν 1) → Among ν (s.added ++ map (λ ν. row ∷ ν) t.added)
          by (inl l) = Among-append_left ν s.added (map (λ ν. row ∷ ν) t.added) ((s.each.members ν).1 (a.0, l))
          by (inr l) =
              let m = a.1 in
              let g = behind_it ν a.0 (omega arith) in
              Among-append_right ν s.added (map (λ ν. row ∷ ν) t.added)
              (subst (λ (x : List ℕ). Among x (map (λ ν. row ∷ ν) t.added)) (sym g.1) (Among-map (λ (ν : List ℕ). row ∷ ν) g.0 t.added ((t.each.members g.0).1 g.2)))

pub rows-all : (most k row : ℕ) (inner above : List ℕ) (old new : List (List ℕ)) → row ≡ min most (part inner 1 + k) + 1 → HasAdded (HasRow most k inner row) above old new → HasAdded (AddsBelow most k inner) above old new
rows-all most k row inner above old new e s = record {
  added = s.added;
  listed = s.listed;
  each = record { once = s.each.once; members = λ ν. ((λ m. ((s.each.members ν).0 m).0), λ a. (s.each.members ν).1 (a, within ν a)) };
}
  where
    within : (ν : List ℕ) → AddsBelow most k inner ν → part ν 1 < row
    within [] a = omega arith
    within (x ∷ ν) a =
        let f = a.1.0 in
        let t = a.0.1 in
        let l = Holds-size ν (drop 1 inner) (Holds_below (x ∷ ν) inner a.0.2) in
        let u = size-first inner in
        omega arith

pub limits_all : (most k : ℕ) (inner ν : List ℕ) → size inner + k ≤ 512 → AddsBelow most k inner ν → IsWithinLimits ν
limits_all most k inner ν h a = search (rules, rows_within_size)

pub all_added : (k most : ℕ) (inner above : List ℕ) (old new : List (List ℕ)) → above ≡ [] → old ≡ [] → most ≡ size inner + k → HasAdded (AddsBelow most k inner) above old new → ListsEach (AddsCells k inner) new
all_added k most inner above old new a b e s =
    subst (ListsEach (AddsCells k inner))
    (sym (s.listed ∙ ap₂ (λ xs ys. xs ++ map (λ ν. ys ++ ν) s.added) b a ∙ same s.added))
    (record {
      once = s.each.once;
      members = λ ν. ((λ m. ((s.each.members ν).0 m).0), λ h. (s.each.members ν).1 (h, Falls_from_size most ν h.0 (let t = h.1 in omega arith)));
    })
  where
    same : (xs : List (List ℕ)) → map (λ (ν : List ℕ). ν) xs ≡ xs
    same [] = refl
    same (x ∷ xs) = ap (λ l. x ∷ l) (same xs)
