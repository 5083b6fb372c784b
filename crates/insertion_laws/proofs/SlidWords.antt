-- The reading words of a tableau before and after a slide are in the same Knuth class.
use Rattle.std.proofs.Common.{◌≡◌, ℕ, zero, suc, ◌+◌, ◌-◌, ◌<◌, ◌≤◌, true, List, [], ◌∷◌, ◌++◌, length, take, drop, get_or, ◌∙◌, ap, sym, refl, subst, inl, inr, arith, append_assoc, append-nil, rules}
use Rattle.std.proofs.lemmas.Bool.{cases_Bool}
use Rattle.std.proofs.lemmas.List.{take-append-drop, drop-drop, get_or-take, get_or-drop, length-take-le, length-drop, nil_from_length}
use Rattle.sym_model.specs.Insertion.{reading_word}
use Rattle.sym_model.specs.Knuth.{AreKnuthEquivalent, IsOnlyTableauOf}
use Rattle.sym_model.specs.Partition.{part, without_last_zeros}
use Rattle.sym_model.specs.Schur.{semistandard, letters_of}
use Rattle.sym_model.specs.Slide.{HasInnerCorner, IsReached, SlidesTo, moves_up, outer_parts, slid_rows, slide}
use Rattle.sym_model.specs.Tableau.{IsTableau, IsStraightTableau, SkewFilling}
use Rattle.sym_model.proofs.Tableaux.{row_lengths-none}
use Rattle.insertion_laws.specs.Rows.{StandsOn}
use Rattle.insertion_laws.proofs.RisingRows.{Rises, rises-next, rises_right, HasShape, order-tells}
use Rattle.insertion_laws.proofs.SlideSteps.{place_below, slid-moves_left, slid-moves_up, slid-stops}
use Rattle.insertion_laws.proofs.SlidOrder.{HasHole, IsAtMost, hole_below, hole_right, least_moves, nothing, letter, shown}
use Rattle.insertion_laws.proofs.KeptOrder.{IsLowered, first_hole, lowered_next, rows_from, shape-from}
use Rattle.insertion_laws.proofs.SlideKeeps.{corner-lowered, corner_row, slide-keeps}
use Rattle.insertion_laws.proofs.Classes.{◌⨾◌, one_word, same_word, behind, before}
use Rattle.insertion_laws.proofs.ReadingWords.{reading-more, only_tableau_from}
use Rattle.insertion_laws.proofs.MovedUp.{IsOver, moves_between}
use Rattle.tableau_laws.specs.Rows.{RisesFrom}

rises_to_from : (c : ℕ) (w : List ℕ) → IsAtMost c w → Rises w → RisesFrom c w
rises_to_from c [] h r = tt
rises_to_from c (a ∷ w) h r = (h (omega arith), rises_to_from a w (λ l. r 0 (omega arith)) (rises-next a w r))

over_from : (left v : List ℕ) → length left ≡ length v → ((k : ℕ) → k < length left → get_or left k 0 < get_or v k 0) → IsOver left v
over_from [] [] e h = tt
over_from [] (b ∷ v) e h = absurd (omega arith)
over_from (a ∷ left) [] e h = absurd (omega arith)
over_from (a ∷ left) (b ∷ v) e h = (h 0 (omega arith), over_from left v (omega arith) (λ k l. h (suc k) (omega arith)))

stands_from :
    (lower right : List ℕ) → length lower ≤ length right → ((k : ℕ) → k < length lower → get_or right k 0 < get_or lower k 0)
    → StandsOn lower right
stands_from [] right l h = tt
stands_from (b ∷ lower) [] l h = absurd (omega arith)
stands_from (b ∷ lower) (a ∷ right) l h =
    (h 0 (omega arith), stands_from lower right (omega arith) (λ k m. h (suc k) (omega arith)))

row_split : (inner left row lower : List ℕ) (b : ℕ) → drop (place_below inner left) row ≡ b ∷ lower
    → row ≡ take (place_below inner left) row ++ b ∷ lower
row_split inner left row lower b e =
    sym (take-append-drop (place_below inner left) row) ∙ ap (λ (w : List ℕ). take (place_below inner left) row ++ w) e

rows_exchange :
    (inner left right row lower : List ℕ) (b : ℕ) (below : List (List ℕ)) → HasHole inner left right (row ∷ below)
    → drop (place_below inner left) row ≡ b ∷ lower → IsAtMost b right
    → AreKnuthEquivalent (row ++ (left ++ right))
    ((take (place_below inner left) row ++ drop (place_below inner left + 1) row) ++ (left ++ b ∷ right))
rows_exchange inner left right row lower b below h e m =
    let p = place_below inner left in
    let d = part inner 1 - part inner 2 in
    let front = take p row in
    let v₀ = take d front in
    let v = drop d front in
    let falls = h.falls in
    let long : place_below inner left < length row = omega (arith, length-drop p row, ap (λ (w : List ℕ). length w) e) in
    let count : length (take p row) ≡ p = length-take-le p row (omega arith) in
    let parts : v₀ ++ v ≡ front = take-append-drop d front in
    let rest : drop (p + 1) row ≡ lower = sym (drop-drop 1 p row) ∙ ap (λ (w : List ℕ). drop 1 w) e in
    let whole : row ≡ v₀ ++ (v ++ b ∷ lower) =
    row_split inner left row lower b e ∙ ap (λ (w : List ℕ). w ++ b ∷ lower) (sym parts) ∙ append_assoc v₀ v (b ∷ lower) in
    let t = order-tells (drop 1 inner) row below h.order in
    let rising : RisesFrom 0 (v ++ b ∷ lower) =
    rises_to_from 0 (v ++ b ∷ lower) (λ l. omega arith) (rises_right v₀ (v ++ b ∷ lower) (subst Rises whole t.rises)) in
    let over : IsOver left v = over_from left v (omega (arith, length-drop d front))
    (λ k l. omega (arith, h.before k l (omega arith), get_or-drop d front k 0, get_or-take p row (d + k) 0 (omega arith))) in
    let stands : StandsOn lower right = stands_from lower right (omega (arith, h.ends, length-drop p row, ap (λ (w : List ℕ). length w) e))
    (λ k l.
    let some : k < length right = omega (arith, h.ends, length-drop p row, ap (λ (w : List ℕ). length w) e) in
    omega (
      arith,
      h.behind k some (omega (arith, length-drop p row, ap (λ (w : List ℕ). length w) e)),
      get_or-drop (p + 1) row k 0,
      ap (λ (w : List ℕ). get_or w k 0) rest,
    )) in
    same_word (ap (λ (w : List ℕ). w ++ (left ++ right)) whole ∙ append_assoc v₀ (v ++ b ∷ lower) (left ++ right)
    ∙ ap (λ (w : List ℕ). v₀ ++ w) (append_assoc v (b ∷ lower) (left ++ right)))
    ⨾ behind v₀ (moves_between 0 b left v lower right over rising (rises_to_from b right m (rises_right left right h.rises)) stands)
    ⨾ same_word (sym (append_assoc v₀ v (lower ++ (left ++ b ∷ right))) ∙ ap (λ (w : List ℕ). w ++ (lower ++ (left ++ b ∷ right))) parts
    ∙ sym (append_assoc front lower (left ++ b ∷ right)) ∙ ap (λ (w : List ℕ). (front ++ w) ++ (left ++ b ∷ right)) (sym rest))

class_up :
    (inner left right row lower : List ℕ) (b : ℕ) (below : List (List ℕ))
    → ((inner left right : List ℕ) → HasHole inner left right below
    → AreKnuthEquivalent (reading_word ((left ++ right) ∷ below)) (reading_word (slid_rows inner left right below)))
    → HasHole inner left right (row ∷ below) → drop (place_below inner left) row ≡ b ∷ lower → moves_up right (b ∷ lower) ≡ true
    → AreKnuthEquivalent (reading_word ((left ++ right) ∷ row ∷ below)) (reading_word (slid_rows inner left right (row ∷ below)))
class_up inner left right row lower b below ih h e m =
    let p = place_below inner left in
    let l : place_below inner left < length row = omega (arith, length-drop p row, ap (λ (w : List ℕ). length w) e) in
    let up = left ++ b ∷ right in
    let short = take p row ++ drop (p + 1) row in
    let slid = slid_rows (drop 1 inner) (take p row) (drop (p + 1) row) below in
    same_word (reading-more (left ++ right) (row ∷ below) ∙ ap (λ (w : List ℕ). w ++ (left ++ right)) (reading-more row below)
    ∙ append_assoc (reading_word below) row (left ++ right))
    ⨾ behind (reading_word below) (rows_exchange inner left right row lower b below h e (least_moves right lower b m))
    ⨾ same_word (sym (append_assoc (reading_word below) short up) ∙ ap (λ (w : List ℕ). w ++ up) (sym (reading-more short below)))
    ⨾ before up (ih (drop 1 inner) (take p row) (drop (p + 1) row) (hole_below (drop 1 inner) row p below l h.shape h.order))
    ⨾ same_word (sym (reading-more up slid) ∙ ap reading_word (sym (slid-moves_up inner left right row lower b below e m)))

class_row :
    (right inner left row : List ℕ) (below : List (List ℕ))
    → ((inner left right : List ℕ) → HasHole inner left right below
    → AreKnuthEquivalent (reading_word ((left ++ right) ∷ below)) (reading_word (slid_rows inner left right below)))
    → HasHole inner left right (row ∷ below)
    → AreKnuthEquivalent (reading_word ((left ++ right) ∷ row ∷ below)) (reading_word (slid_rows inner left right (row ∷ below)))
class_row [] inner left row below ih h = elim (shown (drop (place_below inner left) row)) [
  | nothing e ↦
      same_word (ap (λ (w : List ℕ). reading_word (w ∷ row ∷ below)) (append-nil left) ∙ ap reading_word (sym (slid-stops inner left row below e)))
  | letter b lower e ↦ class_up inner left [] row lower b below ih h e refl
]
class_row (a ∷ right) inner left row below ih h = elim (cases_Bool (moves_up (a ∷ right) (drop (place_below inner left) row))) [
  | inl m ↦ elim (shown (drop (place_below inner left) row)) [
    | nothing e ↦ absurd (cc (ap (moves_up (a ∷ right)) e))
    | letter b lower e ↦ class_up inner left (a ∷ right) row lower b below ih h e (sym (ap (moves_up (a ∷ right)) e) ∙ m)
  ]
  | inr m ↦
      same_word (ap (λ (w : List ℕ). reading_word (w ∷ row ∷ below)) (sym (append_assoc left (a ∷ []) right)))
      ⨾ class_row right inner (left ++ a ∷ []) row below ih (hole_right inner left right row a below h m)
      ⨾ same_word (ap reading_word (sym (slid-moves_left inner left right row a below h.falls m)))
]

pub slid_class :
    (below : List (List ℕ)) (inner left right : List ℕ) → HasHole inner left right below
    → AreKnuthEquivalent (reading_word ((left ++ right) ∷ below)) (reading_word (slid_rows inner left right below))
slid_class [] inner left right h = one_word (reading_word ((left ++ right) ∷ []))
slid_class (row ∷ below) inner left right h = class_row right inner left row below (slid_class below) h

-- ---- a slide keeps the Knuth class of the reading word of all rows, including the rows above the row of the empty cell

rows_class :
    (i : ℕ) (inner new : List ℕ) (rows : List (List ℕ)) → i < length rows → HasShape inner rows → semistandard inner rows ≡ true
    → IsLowered i inner new → AreKnuthEquivalent (reading_word rows) (reading_word (rows_from i new rows))
rows_class i inner new [] m s o l = absurd (omega arith)
rows_class zero inner new (row ∷ below) m s o l = search (rules, append-nil, slid_class, first_hole)
rows_class (suc i) inner new (row ∷ rest) m s o l =
    let t = order-tells inner row rest o in
    let count : 1 + i ≡ suc i = omega arith in
    let e : drop i (drop 1 new) ≡ drop (suc i) new = drop-drop i 1 new ∙ ap (λ n. drop n new) count in
    let rows = λ (w : List ℕ). take i rest ++ slid_rows w [] (letters_of (take 1 (drop i rest))) (drop 1 (drop i rest)) in
    subst (λ w. AreKnuthEquivalent (reading_word (row ∷ rest)) (reading_word (row ∷ rows w))) e
    (same_word (reading-more row rest)
    ⨾ before row (rows_class i (drop 1 inner) (drop 1 new) rest (omega arith) s.2 t.later (lowered_next i inner new l))
    ⨾ same_word (sym (reading-more row (rows (drop i (drop 1 new))))))

reading-taken : (rows : List (List ℕ)) (inner : List ℕ)
    → reading_word (take (length (without_last_zeros (outer_parts inner rows))) rows) ≡ reading_word rows
reading-taken [] inner = refl
reading-taken (row ∷ rows) inner = search (rules, reading-more, nil_from_length, (reading-taken rows (drop 1 inner)))

pub slide_class :
    (row : ℕ) (t : SkewFilling) → IsTableau t.outer t.inner t.rows → HasInnerCorner row t.inner
    → AreKnuthEquivalent (reading_word t.rows) (reading_word (slide row t).rows)
slide_class row t h c = search (rules, rows_class, corner_row, shape-from, corner-lowered, same_word, reading-taken, rows_from)

pub slides_class :
    (chosen : List ℕ) (t s : SkewFilling) → IsTableau t.outer t.inner t.rows → SlidesTo t chosen s
    → AreKnuthEquivalent (reading_word t.rows) (reading_word s.rows) × IsTableau s.outer s.inner s.rows
slides_class [] t s h e =
    (same_word (ap (λ (x : SkewFilling). reading_word x.rows) e), subst (λ (x : SkewFilling). IsTableau x.outer x.inner x.rows) e h)
slides_class (row ∷ chosen) t s h g =
    let r = slides_class chosen (slide row t) s (slide-keeps row t h g.0) g.1 in
    (slide_class row t h g.0 ⨾ r.0, r.1)

straight_from : (s : SkewFilling) → IsTableau s.outer s.inner s.rows → s.inner ≡ [] → IsStraightTableau s.rows
straight_from s h e = search (rules, row_lengths-none)

-- if slides lead from t to a straight tableau s, the rows of s are the only straight tableau whose reading word is in the Knuth class of the reading
-- word of t
pub reached_only : (t s : SkewFilling) → IsTableau t.outer t.inner t.rows → IsReached t s → IsOnlyTableauOf (reading_word t.rows) s.rows
reached_only t s h r = search (rules, slides_class, only_tableau_from, straight_from)

-- if s is a straight tableau, and its reading word is in the Knuth class of w, then the rows of s are the only straight tableau whose reading word is
-- in this class
pub straight_only :
    (w : List ℕ) (s : SkewFilling) → IsTableau s.outer s.inner s.rows → length s.inner ≤ 0 → AreKnuthEquivalent w (reading_word s.rows)
    → IsOnlyTableauOf w s.rows
straight_only w s h e k = only_tableau_from w s.rows (straight_from s h (nil_from_length s.inner (let few = e in omega arith))) k
