-- The partitions that cover the remaining shape of a special rim hook (`covers`, a test of interlacing rows) are those that add a horizontal strip
-- to it.
use Rattle.std.proofs.Common.{◌≡◌, ℕ, zero, suc, ◌+◌, ◌-◌, ◌≤◌, true, ◌&&◌, nat_le, List, [], ◌∷◌, length, get_or, refl, sym, ◌∙◌, ap, inl, inr, arith, filter}
use Rattle.std.proofs.lemmas.Bool.{and_parts, and_from, le-leb, leb-true, cases_lt}
use Rattle.sym_model.specs.Sum.{Among}
use Rattle.sym_model.specs.Partition.{Falls, IsPartition, part, size, rows}
use Rattle.sym_model.specs.PartitionList.{partitions_of}
use Rattle.sym_model.specs.Polynomial.{resize}
use Rattle.sym_model.specs.Strip.{IsHorizontalStrip}
use Rattle.sym_model.proofs.Sums.{Among-select, Among_from_select, Once-select}
use Rattle.sym_model.proofs.Exponents.{length-resize}
use Rattle.sym_model.proofs.Parts.{positive-at}
use Rattle.sym_model.proofs.PartitionLists.{partitions_of-tells, Among-partitions_of, Once-partitions_of}
use Rattle.strip_laws.proofs.Strips.{horizontal_from_rows, horizontal_rows}
use Rattle.strip_laws.proofs.Containment.{Holds-get_or}
use Rattle.product_laws.specs.StripLists.{ListsEach, AddsHorizontalStrip}
use Rattle.expand_in_families.specs.SpecialHooks.{SpecialHook, special_hooks}
use Rattle.expand_in_families.proofs.HookShapes.{hook_rest}
use Rattle.expand_in_families.proofs.HookSigns.{between, interlaces, covers}
use Rattle.std.proofs.lemmas.List.{get_or_past}
use Rattle.product_laws.proofs.StripShapes.{get-padded}

-- for each i, row i of inner is at most row i of outer, and at least row i + 1 of outer
abbrev IsInterlaced : List ℕ → List ℕ → Type 0
IsInterlaced outer inner = (k : ℕ) → (get_or inner k 0 ≤ get_or outer k 0) × (get_or outer (suc k) 0 ≤ get_or inner k 0)

between_tells : (x : ℕ) (ys κ : List ℕ) → length ys ≡ length κ → between x ys κ ≡ true → IsInterlaced (x ∷ ys) κ
between_tells x [] [] e t k = (omega arith, omega arith)
between_tells x [] (c ∷ κ) e t k = absurd (omega arith)
between_tells x (y ∷ ys) [] e t k = absurd (omega arith)
between_tells x (y ∷ ys) (c ∷ κ) e t zero =
    let p = and_parts (nat_le c x) (nat_le y c && between y ys κ) t in
    (leb-true c x p.0, leb-true y c (and_parts (nat_le y c) (between y ys κ) p.1).0)
between_tells x (y ∷ ys) (c ∷ κ) e t (suc k) =
    let p = and_parts (nat_le c x) (nat_le y c && between y ys κ) t in
    between_tells y ys κ (omega arith) (and_parts (nat_le y c) (between y ys κ) p.1).1 k

between_from : (x : ℕ) (ys κ : List ℕ) → IsInterlaced (x ∷ ys) κ → between x ys κ ≡ true
between_from x [] κ h = refl
between_from x (y ∷ ys) [] h = refl
between_from x (y ∷ ys) (c ∷ κ) h =
    and_from (nat_le c x) (nat_le y c && between y ys κ) (le-leb c x (h 0).0)
    (and_from (nat_le y c) (between y ys κ) (le-leb y c (h 0).1) (between_from y ys κ (λ k. h (suc k))))

interlaces_tells : (r κ : List ℕ) → length r ≡ suc (length κ) → interlaces r κ ≡ true → IsInterlaced r κ
interlaces_tells [] κ e t = absurd (omega arith)
interlaces_tells (x ∷ xs) κ e t = between_tells x xs κ (omega arith) t

interlaces_from : (r κ : List ℕ) → IsInterlaced r κ → interlaces r κ ≡ true
interlaces_from [] κ h = refl
interlaces_from (x ∷ xs) κ h = between_from x xs κ h

-- ---- outer/inner is a horizontal strip if and only if the rows of outer and inner interlace

strip_tells : (outer inner : List ℕ) → Falls outer → Falls inner → IsHorizontalStrip outer inner → IsInterlaced outer inner
strip_tells outer inner f g s k =
    let d : suc k + 1 - 1 ≡ suc k = omega arith in
    let e : suc k - 1 ≡ k = omega arith in
    let u = ap (λ j. get_or outer j 0) d in
    let v = ap (λ j. get_or inner j 0) e in
    let r = horizontal_rows outer inner f g s (suc k) (omega arith) in
    (Holds-get_or outer inner s.holds k, omega (arith, u, v, r))

strip_from : (outer inner : List ℕ) → Falls outer → IsInterlaced outer inner → IsHorizontalStrip outer inner
strip_from outer inner f h = horizontal_from_rows outer inner f (λ i. (h (i - 1)).0) below
  where
    below : (i : ℕ) → 1 ≤ i → part outer (i + 1) ≤ part inner i
    below zero o = absurd (omega arith)
    below (suc k) o =
        let d : suc k + 1 - 1 ≡ suc k = omega arith in
        let e : suc k - 1 ≡ k = omega arith in
        let u = ap (λ j. get_or outer j 0) d in
        let v = ap (λ j. get_or inner j 0) e in
        omega (arith, u, v, (h k).1)

covers_tells : (m : ℕ) (outer inner : List ℕ) → IsPartition outer → IsPartition inner → rows inner ≤ m → covers m outer inner ≡ true
    → IsHorizontalStrip outer inner
covers_tells m outer inner p q few t =
    let b = and_parts (nat_le (rows outer) (suc m)) (interlaces (resize (suc m) outer) (resize m inner)) t in
    let l = leb-true (rows outer) (suc m) b.0 in
    let long : length (resize (suc m) outer) ≡ suc (length (resize m inner)) = length-resize (suc m) outer ∙ ap suc (sym (length-resize m inner)) in
    let h = interlaces_tells (resize (suc m) outer) (resize m inner) long b.1 in
    strip_from outer inner p.falls
    (λ k.
    let u = get-padded (suc m) outer k l in
    let v = get-padded (suc m) outer (suc k) l in
    let w = get-padded m inner k few in
    (omega (arith, u, w, (h k).0), omega (arith, v, w, (h k).1)))

covers_from : (m : ℕ) (outer inner : List ℕ) → IsPartition outer → IsPartition inner → rows inner ≤ m → IsHorizontalStrip outer inner
    → covers m outer inner ≡ true
covers_from m outer inner p q few s =
    and_from (nat_le (rows outer) (suc m)) (interlaces (resize (suc m) outer) (resize m inner)) (le-leb (rows outer) (suc m) short)
    (interlaces_from (resize (suc m) outer) (resize m inner)
    (λ k.
    let u = get-padded (suc m) outer k short in
    let v = get-padded (suc m) outer (suc k) short in
    let w = get-padded m inner k few in
    (omega (arith, u, w, (h k).0), omega (arith, v, w, (h k).1))))
  where
    h : IsInterlaced outer inner
    h = strip_tells outer inner p.falls q.falls s

    short : rows outer ≤ suc m
    short = elim (cases_lt (suc m) (rows outer)) [
      | inl l ↦
          let a = positive-at outer (suc m) p.positive l in
          let b = get_or_past inner m 0 few in
          absurd (omega (arith, a, b, (h m).1))
      | inr l ↦ l
    ]

-- the partitions of the size of a ∷ bs that cover the remaining shape of the special rim hook h of a ∷ bs (`covers`)
abbrev pub covering : ℕ → List ℕ → SpecialHook → List (List ℕ)
covering a bs h = filter (λ ν. covers (length bs) ν h.rest) (partitions_of (size (a ∷ bs)))

pub covering_listed : (a : ℕ) (bs : List ℕ) (h : SpecialHook) → IsPartition (a ∷ bs) → Among h (special_hooks (a ∷ bs))
    → ListsEach (AddsHorizontalStrip h.cells h.rest) (covering a bs h)
covering_listed a bs h p m =
    record { once = Once-select (λ ν. covers (length bs) ν h.rest) (partitions_of d) (Once-partitions_of d); members = λ ν. (tells ν, lists ν) }
  where
    d : ℕ
    d = size (a ∷ bs)

    few : rows h.rest ≤ length bs
    few = let r = (hook_rest (a ∷ bs) h p m).fewer in omega arith

    tells : (ν : List ℕ) → Among ν (covering a bs h) → AddsHorizontalStrip h.cells h.rest ν
    tells ν i =
        let s = Among_from_select (λ ν. covers (length bs) ν h.rest) ν (partitions_of d) i in
        let q = partitions_of-tells d ν s.0 in
        let r = hook_rest (a ∷ bs) h p m in
        (q.0, q.1 ∙ sym r.sized, covers_tells (length bs) ν h.rest q.0 r.partition few s.1)

    lists : (ν : List ℕ) → AddsHorizontalStrip h.cells h.rest ν → Among ν (covering a bs h)
    lists ν q =
        let r = hook_rest (a ∷ bs) h p m in
        Among-select (λ ν. covers (length bs) ν h.rest) ν (partitions_of d) (Among-partitions_of d ν q.0 (q.1 ∙ r.sized))
        (covers_from (length bs) ν h.rest q.0 r.partition few q.2)
