-- Conjugate shapes: the conjugate of the conjugate, and the conjugates of horizontal strips, which are vertical strips.
use Rattle.std.proofs.Common.{◌≡◌, ℕ, zero, suc, ◌+◌, ◌-◌, ◌<◌, ◌≤◌, List, map, get_or, refl, sym, ◌∙◌, ap, subst, inl, inr, arith}
use Rattle.std.proofs.lemmas.Bool.{cases_lt}
use Rattle.sym_model.specs.Sum.{Among}
use Rattle.sym_model.specs.Partition.{Falls, IsPartition, IsCell, Holds, part, columns}
use Rattle.sym_model.specs.Conjugate.{count_from, conjugate}
use Rattle.sym_model.specs.Strip.{IsHorizontalStrip, IsVerticalStrip}
use Rattle.sym_model.proofs.Sums.{Among-map, Among_from_map, Once-map}
use Rattle.sym_model.proofs.Parts.{positive_within, rows_held}
use Rattle.strip_laws.proofs.Containment.{Holds-get_or}
use Rattle.alternant_laws.proofs.FailingColumns.{at_letter}
use Rattle.alternant_laws.proofs.StraightShapes.{same_places}
use Rattle.product_laws.specs.StripLists.{ListsEach, AddsHorizontalStrip, AddsVerticalStrip}
use Rattle.sym_model.proofs.Conjugates.{count_from-most, count_from-least, IsPartition-conjugate, rows-conjugate, size-conjugate}
use Rattle.std.proofs.lemmas.List.{get_or_past}

column_at : (parts : List ℕ) (k : ℕ) → Falls parts → get_or (conjugate parts) k 0 ≡ count_from (suc k) parts
column_at parts k f = elim (cases_lt k (columns parts)) [
  | inl l ↦ at_letter (λ j. count_from j parts) 0 (columns parts) k l ∙ ap (λ j. count_from j parts) (let e : 0 + suc k ≡ suc k = omega arith in e)
  | inr l ↦
      let r = rows-conjugate parts in
      let past = get_or_past (conjugate parts) k 0 (omega arith) in
      let none = count_from-most (suc k) parts 0 f (omega arith) in
      omega arith
]

part-conjugate : (parts : List ℕ) (j : ℕ) → Falls parts → 1 ≤ j → part (conjugate parts) j ≡ count_from j parts
part-conjugate parts zero f h = absurd (omega arith)
part-conjugate parts (suc k) f h = let d : suc k - 1 ≡ k = omega arith in ap (λ n. get_or (conjugate parts) n 0) d ∙ column_at parts k f

row_reaches : (j : ℕ) (parts : List ℕ) (r : ℕ) → Falls parts → 0 < j → j ≤ get_or parts r 0 → suc r ≤ count_from j parts
row_reaches j parts r f h l = count_from-least j parts r f (positive_within parts r (omega arith)) l

twice_at : (parts : List ℕ) (k : ℕ) → Falls parts → get_or (conjugate (conjugate parts)) k 0 ≡ get_or parts k 0
twice_at parts k f =
    let at = column_at (conjugate parts) k g in
    let most = at_most (get_or parts k 0) refl in
    let least = at_least (get_or parts k 0) refl in
    omega arith
  where
    g : Falls (conjugate parts)
    g = (IsPartition-conjugate parts f).falls

    at_most : (n : ℕ) → get_or parts k 0 ≡ n → count_from (suc k) (conjugate parts) ≤ n
    at_most n e =
        let c = column_at parts n f in
        let d = count_from-most (suc n) parts k f (omega arith) in
        count_from-most (suc k) (conjugate parts) n g (omega arith)

    at_least : (n : ℕ) → get_or parts k 0 ≡ n → n ≤ count_from (suc k) (conjugate parts)
    at_least zero e = omega arith
    at_least (suc n) e =
        let c = column_at parts n f in
        let d = row_reaches (suc n) parts k f (omega arith) (omega arith) in
        row_reaches (suc k) (conjugate parts) n g (omega arith) (omega arith)

pub conjugate_twice : (parts : List ℕ) → IsPartition parts → conjugate (conjugate parts) ≡ parts
conjugate_twice parts p =
    let q = IsPartition-conjugate (conjugate parts) (IsPartition-conjugate parts p.falls).falls in
    let a = rows_held (conjugate (conjugate parts)) parts q.positive (λ k. omega (arith, twice_at parts k p.falls)) in
    let b = rows_held parts (conjugate (conjugate parts)) p.positive (λ k. omega (arith, twice_at parts k p.falls)) in
    same_places (conjugate (conjugate parts)) parts (omega arith) (λ k l. twice_at parts k p.falls)

-- ---- the conjugate of a horizontal strip is a vertical one

conjugate_cell : (outer inner : List ℕ) (i j : ℕ) → Falls outer → Falls inner → IsCell outer inner i j → IsCell (conjugate outer) (conjugate inner) j i
conjugate_cell outer inner i j f g c =
    let a = c.row_counts in
    let b = c.outside in
    let d = c.within in
    let u = part-conjugate outer j f (omega arith) in
    let v = part-conjugate inner j g (omega arith) in
    let most = count_from-most j inner (i - 1) g b in
    let least = row_reaches j outer (i - 1) f (omega arith) d in
    record { row_counts = omega arith; outside = omega arith; within = omega arith }

cell_back : (outer inner : List ℕ) (i j : ℕ) → IsPartition outer → IsPartition inner → IsCell (conjugate outer) (conjugate inner) j i → IsCell outer inner i j
cell_back outer inner i j p q c =
    let d = conjugate_cell (conjugate outer) (conjugate inner) j i (IsPartition-conjugate outer p.falls).falls (IsPartition-conjugate inner q.falls).falls c in
    subst (λ l. IsCell l inner i j) (conjugate_twice outer p) (subst (λ l. IsCell (conjugate (conjugate outer)) l i j) (conjugate_twice inner q) d)

conjugate_holds : (outer inner : List ℕ) → Falls outer → Falls inner → Holds outer inner → Holds (conjugate outer) (conjugate inner)
conjugate_holds outer inner f g h i = at (i - 1)
  where
    at : (k : ℕ) → get_or (conjugate inner) k 0 ≤ get_or (conjugate outer) k 0
    at k =
        let u = column_at outer k f in
        let v = column_at inner k g in
        let r = count_from (suc k) outer in
        elim (cases_lt (get_or inner (count_from (suc k) outer) 0) (suc k)) [
          | inl l ↦ let most = count_from-most (suc k) inner (count_from (suc k) outer) g l in omega arith
          | inr l ↦
              let held = Holds-get_or outer inner h (count_from (suc k) outer) in
              let reached = row_reaches (suc k) outer (count_from (suc k) outer) f (omega arith) (omega arith) in
              absurd (omega arith)
        ]

pub conjugate_of_horizontal : (outer inner : List ℕ) → IsPartition outer → IsPartition inner → IsHorizontalStrip outer inner → IsVerticalStrip (conjugate outer) (conjugate inner)
conjugate_of_horizontal outer inner p q s = record {
  holds = conjugate_holds outer inner p.falls q.falls s.holds;
  once = λ row j k c d. s.once j k row (cell_back outer inner j row p q c) (cell_back outer inner k row p q d);
}

pub conjugate_of_vertical : (outer inner : List ℕ) → IsPartition outer → IsPartition inner → IsVerticalStrip outer inner → IsHorizontalStrip (conjugate outer) (conjugate inner)
conjugate_of_vertical outer inner p q s = record {
  holds = conjugate_holds outer inner p.falls q.falls s.holds;
  once = λ i k column c d. s.once column i k (cell_back outer inner column i p q c) (cell_back outer inner column k p q d);
}

-- if a list has exactly the partitions that add a horizontal strip of k cells to `inner`, their conjugates are exactly the partitions that add a
-- vertical strip of k cells to the conjugate of `inner`
pub conjugate_listed : (k : ℕ) (inner : List ℕ) (list : List (List ℕ)) → IsPartition inner → ListsEach (AddsHorizontalStrip k inner) list
    → ListsEach (AddsVerticalStrip k (conjugate inner)) (map conjugate list)
conjugate_listed k inner list p l = record { once = Once-map conjugate list apart l.once; members = λ ν. (tells ν, lists ν) }
  where
    whole : (x : List ℕ) → Among x list → IsPartition x
    whole x m = ((l.members x).0 m).0

    apart : (x y : List ℕ) → Among x list → Among y list → conjugate x ≡ conjugate y → x ≡ y
    apart x y m n e = sym (conjugate_twice x (whole x m)) ∙ ap conjugate e ∙ conjugate_twice y (whole y n)

    tells : (ν : List ℕ) → Among ν (map conjugate list) → AddsVerticalStrip k (conjugate inner) ν
    tells ν m =
        let found = Among_from_map conjugate ν list m in
        let x : List ℕ = found.0 in
        let q = (l.members x).0 found.1 in
        subst (AddsVerticalStrip k (conjugate inner)) (sym found.2)
        (IsPartition-conjugate x q.0.falls, size-conjugate x q.0.falls ∙ q.1 ∙ ap (λ n. n + k) (sym (size-conjugate inner p.falls)), conjugate_of_horizontal x inner q.0 p q.2)

    lists : (ν : List ℕ) → AddsVerticalStrip k (conjugate inner) ν → Among ν (map conjugate list)
    lists ν q =
        let c = IsPartition-conjugate ν q.0.falls in
        let s = conjugate_of_vertical ν (conjugate inner) q.0 (IsPartition-conjugate inner p.falls) q.2 in
        let m = (l.members (conjugate ν)).1 (
          c,
          size-conjugate ν q.0.falls ∙ q.1 ∙ ap (λ n. n + k) (size-conjugate inner p.falls),
          subst (IsHorizontalStrip (conjugate ν)) (conjugate_twice inner p) s,
        ) in
        subst (λ μ. Among μ (map conjugate list)) (conjugate_twice ν q.0) (Among-map conjugate (conjugate ν) list m)
