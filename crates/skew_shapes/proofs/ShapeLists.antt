-- The partitions made by adding a vertical strip to a partition (specs/VerticalStrips).
--     `vertical_on-tell`, `Among-vertical_on`  the list `vertical_on` has exactly the partitions that have `left` cells more than inner, at most one
--                                              more in each row, and a first row of at most `most` cells (`IsWidened`)
--     `vertical_on-fall`                       the list is in decreasing lexicographic order
--     `vertical_strips`                        the list has exactly the partitions ν such that ν/inner is a vertical strip of k cells
use Rattle.std.proofs.Common.{◌≡◌, ℕ, zero, suc, ◌+◌, ◌-◌, ◌<◌, ◌≤◌, min, List, [], ◌∷◌, ◌++◌, map, get_or, refl, sym, ap, ap₂, ◌∙◌, subst, inl, inr, arith, flat_map, rules}
use Rattle.std.specs.Prelude.{replicate}
use Rattle.std.proofs.lemmas.List.{length-replicate}
use Rattle.sym_model.specs.Sum.{Among}
use Rattle.sym_model.specs.Partition.{IsPartition, Falls, ArePositive, part, size, rows}
use Rattle.sym_model.specs.PartitionList.{FallsLexicographically}
use Rattle.sym_model.proofs.Sums.{Among-map, Among_from_map, Among-each, Among_from_each}
use Rattle.sym_model.proofs.Parts.{part-get_or, Falls-front, size-ones, falls_more}
use Rattle.strip_laws.proofs.Strips.{vertical_from_rows, vertical_rows}
use Rattle.partitions.specs.Limits.{IsWithinLimits}
use Rattle.skew_shapes.specs.HorizontalStrips.{counting_down}
use Rattle.skew_shapes.proofs.StripLists.{down-tells, among-down, fall-each}
use Rattle.skew_shapes.specs.VerticalStrips.{vertical_on, AreVerticalStrips}

-- ---- partitions whose rows have at most one cell more than those of inner, and their list `vertical_on`

-- each row of outer is as long as that of inner or one cell longer, outer is weakly decreasing, and its first row is at most `most`
abbrev IsBeside : ℕ → List ℕ → List ℕ → Type 0
IsBeside most [] [] = Unit {0}
IsBeside most [] (b ∷ outer) = (b ≡ 1) × (b ≤ most) × IsBeside b [] outer
IsBeside most (a ∷ inner) [] = ⊥
IsBeside most (a ∷ inner) (b ∷ outer) = (a ≤ b) × (b ≤ a + 1) × (b ≤ most) × IsBeside b inner outer

beside_size : (most : ℕ) (inner outer : List ℕ) → IsBeside most inner outer → size inner ≤ size outer
beside_size most [] outer o = omega arith
beside_size most (a ∷ inner) [] o = absurd o
beside_size most (a ∷ inner) (b ∷ outer) o = let r = beside_size b inner outer o.3 in let l = o.0 in omega arith

-- `IsBeside most inner outer` holds, and outer has exactly `left` cells more than inner and at most `left` rows more
pub record IsWidened (most left : ℕ) (inner outer : List ℕ) : Type 0 where
  pub beside : IsBeside most inner outer
  pub cells : size outer ≡ size inner + left
  pub few : rows outer ≤ rows inner + left

ones_beside : (most left : ℕ) → 1 ≤ most → IsBeside most [] (replicate left 1)
ones_beside most zero h = tt
ones_beside most (suc left) h = (refl, h, ones_beside 1 left (omega arith))

beside_ones : (most : ℕ) (outer : List ℕ) → IsBeside most [] outer → outer ≡ replicate (size outer) 1
beside_ones most [] o = refl
beside_ones most (b ∷ outer) o =
    let r = beside_ones b outer o.2 in
    ap₂ ◌∷◌ o.0 r ∙ ap (λ n. replicate n 1) (let e : suc (size outer) ≡ b + size outer = (let q = o.0 in omega arith) in e)

pub vertical_on-tell : (most left : ℕ) (inner outer : List ℕ) → Falls (most ∷ inner) → 1 ≤ most → ArePositive inner → Among outer (vertical_on most left inner) → IsWidened most left inner outer
vertical_on-tell most left [] outer f h p (inl e) = search (rules, size-ones, length-replicate, ones_beside)
vertical_on-tell most left [] outer f h p (inr m) = absurd m
vertical_on-tell most left (a ∷ inner) outer f h p m =
    let fall = f.0 in
    let positive = p.0 in
    let found = Among_from_each (λ row. map (λ rest. row ∷ rest) (vertical_on row (left + a - row) inner)) outer (counting_down (min most (a + min left 1)) (min most (a + min left 1) + 1 - a)) m in
    let range = down-tells (min most (a + min left 1)) (min most (a + min left 1) + 1 - a) found.0 (omega arith) found.1 in
    let low = range.0 in
    let top = range.1 in
    let tail = Among_from_map (λ rest. found.0 ∷ rest) outer (vertical_on found.0 (left + a - found.0) inner) found.2 in
    let r = vertical_on-tell found.0 (left + a - found.0) inner tail.0 (falls_more a found.0 inner (omega arith) f.1) (omega arith) p.1 tail.1 in
    let s = r.cells in
    let t = r.few in
    subst (IsWidened most left (a ∷ inner)) (sym tail.2)
    (record { beside = (omega arith, omega arith, omega arith, r.beside); cells = omega arith; few = omega arith })

pub Among-vertical_on : (most left : ℕ) (inner outer : List ℕ) → Falls (most ∷ inner) → IsBeside most inner outer → size outer ≡ size inner + left → Among outer (vertical_on most left inner)
Among-vertical_on most left [] outer f o s = inl (beside_ones most outer o ∙ ap (λ n. replicate n 1) (let e : size outer ≡ left = omega arith in e))
Among-vertical_on most left (a ∷ inner) [] f o s = absurd o
Among-vertical_on most left (a ∷ inner) (b ∷ outer) f o s =
    let fall = f.0 in
    let l = o.0 in
    let m = o.1 in
    let n = o.2 in
    let z = beside_size b inner outer o.3 in
    Among-each (λ row. map (λ rest. row ∷ rest) (vertical_on row (left + a - row) inner)) b (b ∷ outer) (counting_down (min most (a + min left 1)) (min most (a + min left 1) + 1 - a))
    (among-down (min most (a + min left 1)) (min most (a + min left 1) + 1 - a) b (omega arith) (omega arith))
    (Among-map (λ rest. b ∷ rest) outer (vertical_on b (left + a - b) inner) (Among-vertical_on b (left + a - b) inner outer (falls_more a b inner (omega arith) f.1) o.3 (omega arith)))

pub vertical_on-fall : (most left : ℕ) (inner : List ℕ) → FallsLexicographically (vertical_on most left inner)
vertical_on-fall most left [] = (λ y m. absurd m, tt)
vertical_on-fall most left (a ∷ inner) =
    fall-each (λ row. vertical_on row (left + a - row) inner) (min most (a + min left 1)) (min most (a + min left 1) + 1 - a) (omega arith)
    (λ row m. vertical_on-fall row (left + a - row) inner)

beside-first : (most : ℕ) (inner outer : List ℕ) → IsBeside most inner outer → get_or outer 0 0 ≤ most
beside-first most [] [] o = omega arith
beside-first most [] (b ∷ outer) o = o.1
beside-first most (a ∷ inner) [] o = absurd o
beside-first most (a ∷ inner) (b ∷ outer) o = o.2

beside-falls : (most : ℕ) (inner outer : List ℕ) → ArePositive inner → IsBeside most inner outer → IsPartition outer
beside-falls most [] [] p o = record { falls = tt; positive = tt }
beside-falls most [] (b ∷ outer) p o =
    let r = beside-falls b [] outer tt o.2 in
    record { falls = Falls-front b outer (beside-first b [] outer o.2) r.falls; positive = (let q = o.0 in omega arith, r.positive) }
beside-falls most (a ∷ inner) [] p o = absurd o
beside-falls most (a ∷ inner) (b ∷ outer) p o = search (rules, Falls-front, beside-first, (beside-falls b inner outer p.1 o.3))

beside-holds : (most : ℕ) (inner outer : List ℕ) → IsBeside most inner outer → (j : ℕ) → get_or inner j 0 ≤ get_or outer j 0
beside-holds most [] outer o j = omega arith
beside-holds most (a ∷ inner) [] o j = absurd o
beside-holds most (a ∷ inner) (b ∷ outer) o zero = o.0
beside-holds most (a ∷ inner) (b ∷ outer) o (suc j) = beside-holds b inner outer o.3 j

beside-within : (most : ℕ) (inner outer : List ℕ) → IsBeside most inner outer → (j : ℕ) → get_or outer j 0 ≤ get_or inner j 0 + 1
beside-within most [] [] o j = omega arith
beside-within most [] (b ∷ outer) o zero = let e = o.0 in omega arith
beside-within most [] (b ∷ outer) o (suc j) = beside-within b [] outer o.2 j
beside-within most (a ∷ inner) [] o j = absurd o
beside-within most (a ∷ inner) (b ∷ outer) o zero = o.1
beside-within most (a ∷ inner) (b ∷ outer) o (suc j) = beside-within b inner outer o.3 j

falls-first : (b : ℕ) (outer : List ℕ) → Falls (b ∷ outer) → (get_or outer 0 0 ≤ b) × Falls outer
falls-first b [] f = (omega arith, tt)
falls-first b (c ∷ outer) f = (f.0, f.1)

rows-beside : (most : ℕ) (inner outer : List ℕ) → Falls outer → ArePositive outer → ArePositive inner → ((j : ℕ) → get_or inner j 0 ≤ get_or outer j 0) → ((j : ℕ) → get_or outer j 0 ≤ get_or inner j 0 + 1)
    → get_or outer 0 0 ≤ most → IsBeside most inner outer
rows-beside most [] [] f p q holds within l = tt
rows-beside most [] (b ∷ outer) f p q holds within l =
    let g = falls-first b outer f in
    (let x = within 0 in let y = p.0 in omega arith, l, rows-beside b [] outer g.1 p.1 tt (λ j. holds (suc j)) (λ j. within (suc j)) g.0)
rows-beside most (a ∷ inner) [] f p q holds within l = absurd (let x = holds 0 in let y = q.0 in omega arith)
rows-beside most (a ∷ inner) (b ∷ outer) f p q holds within l =
    let g = falls-first b outer f in
    (holds 0, within 0, l, rows-beside b inner outer g.1 p.1 q.1 (λ j. holds (suc j)) (λ j. within (suc j)) g.0)

pub first_falls : (inner : List ℕ) → IsPartition inner → Falls ((part inner 1 + 1) ∷ inner)
first_falls [] p = tt
first_falls (a ∷ inner) p = (omega arith, p.falls)

pub vertical_strips : (inner : List ℕ) (k : ℕ) → IsPartition inner → AreVerticalStrips inner k (vertical_on (part inner 1 + 1) k inner)
vertical_strips inner k p = record {
  falls = vertical_on-fall (part inner 1 + 1) k inner;
  members = λ ν. (
    λ m.
        let g = vertical_on-tell (part inner 1 + 1) k inner ν (first_falls inner p) (omega arith) p.positive m in
        let is = beside-falls (part inner 1 + 1) inner ν p.positive g.beside in (
          is,
          g.cells,
          vertical_from_rows ν inner (λ i. beside-holds (part inner 1 + 1) inner ν g.beside (i - 1)) (λ i h. beside-within (part inner 1 + 1) inner ν g.beside (i - 1)),
        ),
    λ is.
        let holds = λ (j : ℕ). (let h = is.2.holds (j + 1) in let a = part-get_or inner j in let b = part-get_or ν j in let l : get_or inner j 0 ≤ get_or ν j 0 = omega arith in l) in
        let within = λ (j : ℕ). (let h = vertical_rows ν inner is.2 (j + 1) (omega arith) in let a = part-get_or inner j in let b = part-get_or ν j in let l : get_or ν j 0 ≤ get_or inner j 0 + 1 = omega arith in l) in
        Among-vertical_on (part inner 1 + 1) k inner ν (first_falls inner p)
        (rows-beside (part inner 1 + 1) inner ν is.0.falls is.0.positive p.positive holds within (within 0)) is.1,
  );
}

-- if |inner| + k ≤ 4096 and inner has at most 512 - k rows, each partition made by adding a vertical strip of k cells to inner is within the limits
pub widened_limits : (inner : List ℕ) (k : ℕ) → IsPartition inner → size inner + k ≤ 4096 → rows inner + k ≤ 512
    → (rest : List ℕ) → Among rest (vertical_on (part inner 1 + 1) k inner) → IsWithinLimits rest
widened_limits inner k p cells few rest m =
    let g = vertical_on-tell (part inner 1 + 1) k inner rest (first_falls inner p) (omega arith) p.positive m in
    let a = g.cells in
    let b = g.few in
    record { partition = beside-falls (part inner 1 + 1) inner rest p.positive g.beside; few = omega arith; small = omega arith }

-- let `row` be a length that the first row can have in the list `vertical_on most left (a ∷ inner)`. If `rest` is in the list of partitions made from
-- inner by adding a vertical strip of left + a - row cells, with a first row of at most `row` cells, then row ∷ rest is in the list for a ∷ inner
pub listed_further : (most left a row n : ℕ) (inner rest : List ℕ) → n < min most (a + min left 1) + 1 - a → row ≡ min most (a + min left 1) - n → Among rest (vertical_on row (left + a - row) inner)
    → Among (row ∷ rest) (vertical_on most left (a ∷ inner))
listed_further most left a row n inner rest h e m =
    Among-each (λ r. map (λ rest. r ∷ rest) (vertical_on r (left + a - r) inner)) row (row ∷ rest) (counting_down (min most (a + min left 1)) (min most (a + min left 1) + 1 - a))
    (among-down (min most (a + min left 1)) (min most (a + min left 1) + 1 - a) row (omega arith) (omega arith))
    (Among-map (λ rest. row ∷ rest) rest (vertical_on row (left + a - row) inner) m)

-- the end of a loop over the possible lengths of the first row: let n be the number of these lengths. If `cur` is `before`, followed by rows ++ ν for
-- the partitions ν of `vertical_on` with the n greatest first rows, then `cur` is `before`, followed by rows ++ ν for all ν in `vertical_on`
pub widened_all : (most left a n : ℕ) (below rows inner : List ℕ) (before cur : List (List ℕ)) → a ∷ below ≡ inner → n ≡ min most (a + min left 1) + 1 - a
    → cur ≡ before ++ map (λ rest. rows ++ rest) (flat_map (λ row. map (λ rest. row ∷ rest) (vertical_on row (left + a - row) below)) (counting_down (min most (a + min left 1)) n))
    → cur ≡ before ++ map (λ rest. rows ++ rest) (vertical_on most left inner)
widened_all most left a n below rows inner before cur split e c = search rules
