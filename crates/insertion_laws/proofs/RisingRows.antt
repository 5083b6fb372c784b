-- Weakly increasing rows and strictly increasing columns, as conditions on the letters at each place.
use Rattle.std.proofs.lemmas.Grind.{common_steps}
use Rattle.std.proofs.Common.{◌≡◌, ℕ, zero, suc, ◌+◌, ◌-◌, ◌<◌, ◌≤◌, true, nat_le, nat_lt, List, [], ◌∷◌, ◌++◌, length, drop, get_or, ◌∙◌, ap, refl, inl, inr, arith, length-append, rules}
use Rattle.std.proofs.lemmas.Bool.{cases_lt, leb-true, ltb-true, le-leb, lt-ltb, and_parts, and_from}
use Rattle.std.proofs.lemmas.List.{get_or_append_left, get_or-append-add, get_or-drop, length-drop}
use Rattle.sym_model.specs.Partition.{Falls, part}
use Rattle.sym_model.specs.Schur.{row_rises, columns_rise, semistandard}
use Rattle.sym_model.specs.Slide.{outer_parts}
use Rattle.sym_model.proofs.Parts.{Falls-front}

-- ---- the two cases for places k and p: k is before p, or k = p + j for some j

pub data Side (p k : ℕ) : Type 0 where
  before : k < p → Side p k
  from : (j : ℕ) → k ≡ p + j → Side p k

pub side_of : (p k : ℕ) → Side p k
side_of p k = elim (cases_lt k p) [ inl h ↦ before h | inr h ↦ from (k - p) (omega arith) ]

-- no letter of the word is smaller than the letter before it
abbrev pub Rises : List ℕ → Type 0
Rises w = (k : ℕ) → k + 1 < length w → get_or w k 0 ≤ get_or w (k + 1) 0

pub rises-tells : (w : List ℕ) → row_rises w ≡ true → Rises w
rises-tells [] h k l = absurd (omega arith)
rises-tells (a ∷ []) h k l = absurd (omega arith)
rises-tells (a ∷ b ∷ w) h zero l = leb-true a b (and_parts (nat_le a b) (row_rises (b ∷ w)) h).0
rises-tells (a ∷ b ∷ w) h (suc k) l =
    let e : suc k + 1 ≡ suc (k + 1) = omega arith in
    omega (arith, rises-tells (b ∷ w) (and_parts (nat_le a b) (row_rises (b ∷ w)) h).1 k (omega arith), ap (λ n. get_or (a ∷ b ∷ w) n 0) e)

pub rises-next : (a : ℕ) (w : List ℕ) → Rises (a ∷ w) → Rises w
rises-next a w h k l =
    let e : suc k + 1 ≡ suc (k + 1) = omega arith in
    omega (arith, h (suc k) (omega arith), ap (λ n. get_or (a ∷ w) n 0) e)

pub rises-from : (w : List ℕ) → Rises w → row_rises w ≡ true
rises-from [] h = refl
rises-from (a ∷ []) h = refl
rises-from (a ∷ b ∷ w) h =
    and_from (nat_le a b) (row_rises (b ∷ w)) (le-leb a b (h 0 (omega arith))) (rises-from (b ∷ w) (rises-next a (b ∷ w) h))

pub rises_left : (v w : List ℕ) → Rises (v ++ w) → Rises v
rises_left v w h k l = search (rules, length-append, get_or_append_left)

pub rises_right : (v w : List ℕ) → Rises (v ++ w) → Rises w
rises_right v w h k l = search (rules, length-append, get_or-append-add)

pub rises_front : (a : ℕ) (w : List ℕ) → (0 < length w → a ≤ get_or w 0 0) → Rises w → Rises (a ∷ w)
rises_front a w h r zero l = h (omega arith)
rises_front a w h r (suc k) l = grind (arith, common_steps)

pub rises_append :
    (v w : List ℕ) → Rises v → Rises w → (0 < length v → 0 < length w → get_or v (length v - 1) 0 ≤ get_or w 0 0) → Rises (v ++ w)
rises_append v w r s h k l = elim (side_of (length v) (k + 1)) [
  | before m ↦
      omega (arith, r k m, get_or_append_left v w 0 k (omega arith), get_or_append_left v w 0 (k + 1) m)
  | from zero e ↦
      let last : k ≡ length v - 1 = omega arith in
      let next : k + 1 ≡ length v + 0 = omega arith in
      omega (
        arith,
        h (omega arith) (omega (arith, length-append v w)),
        get_or_append_left v w 0 k (omega arith),
        ap (λ n. get_or v n 0) last,
        get_or-append-add v w 0 0,
        ap (λ n. get_or (v ++ w) n 0) next,
      )
  | from (suc j) e ↦
      let this : k ≡ length v + j = omega arith in
      let next : k + 1 ≡ length v + (j + 1) = omega arith in
      omega (
        arith,
        s j (omega (arith, length-append v w)),
        get_or-append-add v w j 0,
        get_or-append-add v w (j + 1) 0,
        ap (λ n. get_or (v ++ w) n 0) this,
        ap (λ n. get_or (v ++ w) n 0) next,
      )
]

-- each letter of the row `lower` that is below a letter of the row `upper` is greater than that letter; the letter of `upper` at place k is above
-- place s + k of `lower`
abbrev pub StandsUnder : ℕ → List ℕ → List ℕ → Type 0
StandsUnder s upper lower = (k : ℕ) → k < length upper → s + k < length lower → get_or upper k 0 < get_or lower (s + k) 0

columns-tell : (upper lower : List ℕ) → columns_rise upper lower ≡ true → StandsUnder 0 upper lower
columns-tell [] lower h k l m = absurd (omega arith)
columns-tell (a ∷ upper) [] h k l m = absurd (omega arith)
columns-tell (a ∷ upper) (b ∷ lower) h zero l m = ltb-true a b (and_parts (nat_lt a b) (columns_rise upper lower) h).0
columns-tell (a ∷ upper) (b ∷ lower) h (suc k) l m = search (rules, and_parts, (columns-tell upper lower))

columns-from : (upper lower : List ℕ) → StandsUnder 0 upper lower → columns_rise upper lower ≡ true
columns-from [] lower h = refl
columns-from (a ∷ upper) [] h = refl
columns-from (a ∷ upper) (b ∷ lower) h =
    and_from (nat_lt a b) (columns_rise upper lower) (lt-ltb a b (h 0 (omega arith) (omega arith)))
    (columns-from upper lower
    (λ k l m.
    let e : 0 + suc k ≡ suc (0 + k) = omega arith in
    omega (arith, h (suc k) (omega arith) (omega arith), ap (λ n. get_or (b ∷ lower) n 0) e)))

pub stands-tells : (s : ℕ) (upper lower : List ℕ) → columns_rise upper (drop s lower) ≡ true → StandsUnder s upper lower
stands-tells s upper lower h k l m =
    let e : 0 + k ≡ k = omega arith in
    omega (
      arith,
      columns-tell upper (drop s lower) h k l (omega (arith, length-drop s lower)),
      get_or-drop s lower k 0,
      ap (λ n. get_or (drop s lower) n 0) e,
    )

pub stands-from : (s : ℕ) (upper lower : List ℕ) → StandsUnder s upper lower → columns_rise upper (drop s lower) ≡ true
stands-from s upper lower h = search (rules, columns-from, length-drop, get_or-drop)

-- the first row of a filling; the empty row if the filling has no row
abbrev pub first_row : List (List ℕ) → List ℕ
first_row rows = get_or rows 0 []

-- the row is weakly increasing, each letter of the next row is greater than the letter of the row directly above it, and the rows below are
-- semistandard
pub record IsOrdered (inner row : List ℕ) (below : List (List ℕ)) : Type 0 where
  pub rises : Rises row
  pub stands : StandsUnder (part inner 1 - part inner 2) row (first_row below)
  pub later : semistandard (drop 1 inner) below ≡ true

pub order-tells : (inner row : List ℕ) (below : List (List ℕ)) → semistandard inner (row ∷ below) ≡ true → IsOrdered inner row below
order-tells inner row [] h = search (rules, rises-tells)
order-tells inner row (lower ∷ rest) h = search (rules, and_parts, rises-tells, stands-tells)

pub order-from : (inner row : List ℕ) (below : List (List ℕ)) → IsOrdered inner row below → semistandard inner (row ∷ below) ≡ true
order-from inner row [] h = rises-from row h.rises
order-from inner row (lower ∷ rest) h = search (rules, and_from, rises-from, stands-from)

-- the rows have a skew shape: the inner parts are weakly decreasing, and so are the inner parts plus the lengths of the rows
abbrev pub HasShape : List ℕ → List (List ℕ) → Type 0
HasShape inner [] = Unit {0}
HasShape inner (row ∷ below) =
    (part inner 2 ≤ part inner 1) × (part inner 2 + length (first_row below) ≤ part inner 1 + length row) × HasShape (drop 1 inner) below

pub part_next : (inner : List ℕ) (k : ℕ) → get_or (drop 1 inner) k 0 ≡ get_or inner (k + 1) 0
part_next inner k = let e : 1 + k ≡ k + 1 = omega arith in get_or-drop 1 inner k 0 ∙ ap (λ n. get_or inner n 0) e

-- ---- the outer parts of rows: the inner part of each row plus its length

pub ends-first : (inner : List ℕ) (rows : List (List ℕ)) → get_or (outer_parts inner rows) 0 0 ≤ part inner 1 + length (first_row rows)
ends-first inner [] = omega arith
ends-first inner (row ∷ rows) = omega arith

pub ends-fall : (rows : List (List ℕ)) (inner : List ℕ) → HasShape inner rows → Falls (outer_parts inner rows)
ends-fall [] inner h = tt
ends-fall (row ∷ below) inner h = search (rules, Falls-front, ends-first, part_next, (ends-fall below (drop 1 inner) h.2))

pub ends-at :
    (rows : List (List ℕ)) (inner : List ℕ) (k : ℕ) → k < length rows
    → get_or (outer_parts inner rows) k 0 ≡ get_or inner k 0 + length (get_or rows k [])
ends-at [] inner k h = absurd (omega arith)
ends-at (row ∷ rows) inner zero h = refl
ends-at (row ∷ rows) inner (suc k) h = search (rules, part_next, (ends-at rows (drop 1 inner) k (omega arith)))

pub length-ends : (inner : List ℕ) (rows : List (List ℕ)) → length (outer_parts inner rows) ≡ length rows
length-ends inner [] = refl
length-ends inner (row ∷ rows) = ap suc (length-ends (drop 1 inner) rows)
