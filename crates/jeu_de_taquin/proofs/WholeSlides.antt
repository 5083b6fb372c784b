-- A whole slide as computed by `slide`, equal to the slide of the definition; sequences of slides.
use Rattle.std.proofs.Common.{◌≡◌, ℕ, zero, suc, ◌+◌, ◌-◌, ◌<◌, true, ◌&&◌, nat_le, List, [], ◌∷◌, ◌++◌, map, length, take, drop, get_or, ◌∙◌, ap, ap₂, sym, refl, subst, inl, inr, arith, append-nil}
use Rattle.std.proofs.Math.ListN.{set}
use Rattle.std.proofs.lemmas.Bool.{and_parts, cases_lt, leb-true}
use Rattle.std.proofs.lemmas.List.{take-set, drop-set-lt, get_or-set_same, get_or_past, drop_more, length-take-le}
use Rattle.strip_laws.proofs.Containment.{contains-tells}
use Rattle.sym_model.specs.Partition.{IsCell, IsPartition, part, without_last_zeros}
use Rattle.sym_model.specs.Schur.{row_lengths, contains, letters_of}
use Rattle.sym_model.specs.Slide.{HasInnerCorner, IsReached, lowered_at, outer_parts, slide, slid_rows}
use Rattle.sym_model.specs.Tableau.{SkewFilling}
use Rattle.sym_model.proofs.Parts.{positive-at}
use Rattle.skew_shapes.specs.CellFillings.{IsFilling, IsTableauWithin, is_tableau, place_in_row, row_of, with_inner_cell, without_outer_cell}
use Rattle.insertion_laws.proofs.KeptOrder.{rows_from}
use Rattle.insertion_laws.proofs.SlideKeeps.{corner-lowered, corner_row, slide-keeps}
use Rattle.jeu_de_taquin.specs.EmptyCell.{slid_from}
use Rattle.jeu_de_taquin.proofs.Neighbours.{count-row, count-rows}

pub IsFilling-tableau : (t : SkewFilling) → IsTableauWithin t → IsFilling t
IsFilling-tableau t h = record { shape = h.shape; cells = h.tableau.cells }

pub corner_cell :
    (t : SkewFilling) (row : ℕ) → IsTableauWithin t → HasInnerCorner row t.inner
    → IsCell t.outer (without_last_zeros (lowered_at row t.inner)) row (part t.inner row)
corner_cell t row h c =
    let less = corner-lowered row t.inner c in
    record {
      row_counts = c.0;
      outside = omega (arith, less.here);
      within = contains-tells t.outer t.inner h.shape.holds row;
    }

pub slid_from-corner :
    (t : SkewFilling) (row : ℕ) → IsTableauWithin t → HasInnerCorner row t.inner
    → slid_from (with_inner_cell t row) row (part t.inner row) ≡ rows_from (row - 1) (without_last_zeros (lowered_at row t.inner)) t.rows
slid_from-corner t row h c =
    let n = row - 1 in
    let new = without_last_zeros (lowered_at row t.inner) in
    let R = get_or t.rows (row - 1) [] in
    let less = corner-lowered row t.inner c in
    let some : row - 1 < length t.rows = corner_row row t h.tableau c in
    let place : place_in_row (without_last_zeros (lowered_at row t.inner)) row (part t.inner row) ≡ 0 = omega (arith, less.here) in
    let counts = c.0 in
    let row_is : row ≡ row - 1 + 1 = omega (arith, c.0) in
    let here : row_of (set t.rows (row - 1) (0 ∷ get_or t.rows (row - 1) [])) row ≡ 0 ∷ get_or t.rows (row - 1) [] =
    get_or-set_same t.rows n (0 ∷ R) [] some in
    let below : drop row (set t.rows (row - 1) (0 ∷ get_or t.rows (row - 1) [])) ≡ drop (row - 1 + 1) t.rows =
    drop-set-lt row t.rows n (0 ∷ R) (omega arith) ∙ ap (λ k. drop k t.rows) row_is in
    let one : 0 + 1 ≡ 1 = refl in
    let rest : drop (row - 1) t.rows ≡ get_or t.rows (row - 1) [] ∷ drop (row - 1 + 1) t.rows = drop_more t.rows n [] some in
    ap₂ (λ p (w : List ℕ). take n (set t.rows n (0 ∷ R)) ++ slid_rows (drop n new) (take p w) (drop (p + 1) w) (drop row (set t.rows n (0 ∷ R)))) place here
    ∙ ap₂ (λ (v w : List (List ℕ)). v ++ slid_rows (drop n new) [] R w) (take-set t.rows n (0 ∷ R)) below
    ∙ ap (λ (w : List ℕ). take n t.rows ++ slid_rows (drop n new) [] w (drop (row - 1 + 1) t.rows)) (sym (append-nil R))
    ∙ ap (λ (v : List (List ℕ)). take n t.rows ++ slid_rows (drop n new) [] (letters_of (take 1 v)) (drop 1 v)) (sym rest)

ends-kept :
    (rows : List (List ℕ)) (outer inner : List ℕ) → map length rows ≡ row_lengths outer inner → contains outer inner ≡ true
    → outer_parts inner rows ≡ outer
ends-kept [] [] inner e h = refl
ends-kept [] (a ∷ outer) [] e h = absurd (cc e)
ends-kept [] (a ∷ outer) (b ∷ inner) e h = absurd (cc e)
ends-kept (row ∷ rows) [] inner e h = absurd (cc e)
ends-kept (row ∷ rows) (a ∷ outer) [] e h =
    let same : length row ≡ a = cc e in
    let rest : map length rows ≡ row_lengths outer [] = cc e in
    ap₂ ◌∷◌ (omega arith) (ends-kept rows outer [] rest refl)
ends-kept (row ∷ rows) (a ∷ outer) (b ∷ inner) e h =
    let same : length row ≡ a - b = cc e in
    let rest : map length rows ≡ row_lengths outer inner = cc e in
    let p = and_parts (nat_le b a) (contains outer inner) h in
    ap₂ ◌∷◌ (omega (arith, leb-true b a p.0)) (ends-kept rows outer inner rest p.1)

ends-lowered :
    (n : ℕ) (rows : List (List ℕ)) (outer inner : List ℕ) → map length rows ≡ row_lengths outer inner → contains outer inner ≡ true
    → 0 < length (get_or rows n [])
    → outer_parts inner (set rows n (take (length (get_or rows n []) - 1) (get_or rows n []))) ≡ lowered_at (suc n) outer
ends-lowered n [] outer inner e h l = absurd (omega arith)
ends-lowered n (row ∷ rows) [] inner e h l = absurd (cc e)
ends-lowered zero (row ∷ rows) (a ∷ outer) [] e h l =
    let same : length row ≡ a = cc e in
    let rest : map length rows ≡ row_lengths outer [] = cc e in
    ap₂ ◌∷◌ (omega (arith, length-take-le (length row - 1) row (omega arith))) (ends-kept rows outer [] rest refl)
ends-lowered zero (row ∷ rows) (a ∷ outer) (b ∷ inner) e h l =
    let same : length row ≡ a - b = cc e in
    let rest : map length rows ≡ row_lengths outer inner = cc e in
    let p = and_parts (nat_le b a) (contains outer inner) h in
    ap₂ ◌∷◌ (omega (arith, leb-true b a p.0, length-take-le (length row - 1) row (omega arith))) (ends-kept rows outer inner rest p.1)
ends-lowered (suc n) (row ∷ rows) (a ∷ outer) [] e h l =
    let same : length row ≡ a = cc e in
    let rest : map length rows ≡ row_lengths outer [] = cc e in
    ap₂ ◌∷◌ (omega arith) (ends-lowered n rows outer [] rest refl l)
ends-lowered (suc n) (row ∷ rows) (a ∷ outer) (b ∷ inner) e h l =
    let same : length row ≡ a - b = cc e in
    let rest : map length rows ≡ row_lengths outer inner = cc e in
    let p = and_parts (nat_le b a) (contains outer inner) h in
    ap₂ ◌∷◌ (omega (arith, leb-true b a p.0)) (ends-lowered n rows outer inner rest p.1 l)

-- ---- the computed slide is the slide of the definition

-- `built outer inner rows`: the filling with these two partitions and these rows; the zeros at the end of `outer`, and the (empty) rows that belong
-- to them, are dropped
abbrev built : List ℕ → List ℕ → List (List ℕ) → SkewFilling
built outer inner rows =
    record {
      outer = without_last_zeros outer;
      inner = inner;
      rows = take (length (without_last_zeros outer)) rows;
    }

some_letter : (n : ℕ) (s : SkewFilling) → IsFilling s → get_or s.inner n 0 < get_or s.outer n 0 → 0 < length (get_or s.rows n [])
some_letter n s f h = elim (cases_lt n (length s.rows)) [
  | inl l ↦ omega (arith, count-row s n f l)
  | inr l ↦ absurd (omega (arith, count-rows s f, get_or_past s.outer n 0 (omega (arith, count-rows s f))))
]

pub slide-is :
    (t s : SkewFilling) (row last : ℕ) → IsTableauWithin t → HasInnerCorner row t.inner → IsFilling s
    → s.outer ≡ t.outer → s.inner ≡ without_last_zeros (lowered_at row t.inner)
    → HasInnerCorner last s.outer → part s.inner last < part s.outer last
    → slid_from (with_inner_cell t row) row (part t.inner row) ≡ set s.rows (last - 1) (take (length (row_of s.rows last) - 1) (row_of s.rows last))
    → without_outer_cell s last ≡ slide row t
slide-is t s row last h c f o i corner cell r =
    let new = without_last_zeros (lowered_at row t.inner) in
    let target = rows_from (row - 1) new t.rows in
    let left = set s.rows (last - 1) (take (length (row_of s.rows last) - 1) (row_of s.rows last)) in
    let same : left ≡ target = sym r ∙ slid_from-corner t row h c in
    let last_is : last ≡ suc (last - 1) = omega (arith, corner.0) in
    let parts : lowered_at last s.outer ≡ outer_parts s.inner left =
    ap (λ k. lowered_at k s.outer) last_is
    ∙ sym (ends-lowered (last - 1) s.rows s.outer s.inner f.cells f.shape.holds (some_letter (last - 1) s f cell)) in
    ap (λ (w : List ℕ). built w s.inner left) parts
    ∙ ap₂ (λ (w : List ℕ) (v : List (List ℕ)). built (outer_parts w v) w v) i same

pub whole :
    (t first s end : SkewFilling) (row column last : ℕ) → IsTableauWithin t → HasInnerCorner row t.inner
    → first ≡ with_inner_cell t row → column ≡ part t.inner row
    → s.outer ≡ first.outer → s.inner ≡ first.inner → IsFilling s → HasInnerCorner last first.outer
    → part first.inner last < part first.outer last
    → slid_from first row column ≡ set s.rows (last - 1) (take (length (row_of s.rows last) - 1) (row_of s.rows last))
    → end ≡ without_outer_cell s last → end ≡ slide row t
whole t first s end row column last h c e f o i filling corner cell r d =
    d
    ∙ slide-is t s row last h c filling (o ∙ ap (λ (s : SkewFilling). s.outer) e) (i ∙ ap (λ (s : SkewFilling). s.inner) e)
    (subst (HasInnerCorner last) (sym o) corner)
    (omega (arith, cell, ap (λ w. part w last) o, ap (λ w. part w last) i))
    (sym (ap₂ (λ (s : SkewFilling) k. slid_from s row k) e f) ∙ r)

pub is_tableau-slide : (row : ℕ) (t : SkewFilling) → IsTableauWithin t → HasInnerCorner row t.inner → is_tableau (slide row t) ≡ true
is_tableau-slide row t h c =
    let k = slide-keeps row t h.tableau c in
    ap₂ (λ a b. a && b) k.letters k.order

pub reached-next : (t s : SkewFilling) (row : ℕ) → HasInnerCorner row t.inner → IsReached (slide row t) s → IsReached t s
reached-next t s row c r = record { chosen = row ∷ r.chosen; slides = (c, r.slides); straight = r.straight }

pub last_corner : (parts : List ℕ) → IsPartition parts → 0 < length parts → HasInnerCorner (length parts) parts
last_corner parts h l =
    (omega arith, omega (arith, positive-at parts (length parts - 1) h.positive (omega arith), get_or_past parts (length parts + 1 - 1) 0 (omega arith)))

pub last_corner_at :
    (t : SkewFilling) {tested inner : List ℕ} {count row : ℕ} → IsTableauWithin t → tested ≡ t.inner → inner ≡ t.inner
    → count ≡ length tested → row ≡ length inner → 0 < count → HasInnerCorner row t.inner
last_corner_at t h e f c r l =
    subst (λ n. HasInnerCorner n t.inner) (sym (r ∙ ap length f))
    (last_corner t.inner h.tableau.inside (omega (arith, c, ap length e, l)))
