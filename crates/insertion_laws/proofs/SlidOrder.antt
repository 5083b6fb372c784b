-- After a slide, the row of the empty cell and the rows below it are semistandard.
use Rattle.std.proofs.lemmas.Grind.{common_steps}
use Rattle.std.proofs.Common.{◌≡◌, ℕ, zero, suc, ◌+◌, ◌-◌, ◌<◌, ◌≤◌, true, false, List, [], ◌∷◌, ◌++◌, length, take, drop, get_or, ◌∙◌, ap, sym, refl, subst, inl, inr, arith, append_assoc, length-append, rules}
use Rattle.std.proofs.lemmas.Bool.{cases_Bool, leb-true, leb-false}
use Rattle.std.proofs.lemmas.List.{get_or_append_left, get_or-append-add, get_or-drop, get_or-take, length-drop, length-take-le, length_push, get_or_push, drop_all}
use Rattle.sym_model.specs.Partition.{Falls, part}
use Rattle.sym_model.specs.Schur.{semistandard}
use Rattle.sym_model.specs.Slide.{moves_up, outer_parts, slid_rows}
use Rattle.sym_model.proofs.Parts.{Falls-front}
use Rattle.insertion_laws.proofs.RisingRows.{before, from, side_of, Rises, rises_left, rises_right, rises_front, rises_append, rises-from, StandsUnder, first_row, order-tells, order-from, HasShape, ends-first, ends-fall, part_next}
use Rattle.insertion_laws.proofs.SlideSteps.{place_below, slid-moves_left, slid-moves_up, slid-stops}

-- a first row with an empty cell between the words `left` and `right`, and the rows `below` this row, are semistandard and have a skew shape, except
-- for the empty cell
pub record HasHole (inner left right : List ℕ) (below : List (List ℕ)) : Type 0 where
  pub falls : part inner 2 ≤ part inner 1
  pub rises : Rises (left ++ right)
  pub before : StandsUnder (part inner 1 - part inner 2) left (first_row below)
  pub behind : StandsUnder (place_below inner left + 1) right (first_row below)
  pub ends : part inner 2 + length (first_row below) ≤ part inner 1 + length left + 1 + length right
  pub shape : HasShape (drop 1 inner) below
  pub order : semistandard (drop 1 inner) below ≡ true

-- `IsAtMost x w`: x is at most the first letter of the word w, if w has a letter
abbrev pub IsAtMost : ℕ → List ℕ → Type 0
IsAtMost x w = 0 < length w → x ≤ get_or w 0 0

-- `first` is the first row after a slide from an empty cell between the words `left` and `right`; `lower` is the next row from the column of the
-- empty cell on. The letters in the cells of `left` are unchanged, and those in the cells of `right` are not smaller than before. If a letter has
-- moved into the empty cell, each x with `IsAtMost x right` and `IsAtMost x lower` is at most this letter
pub record IsSlid (left right lower first : List ℕ) : Type 0 where
  pub long : length first ≤ length left + 1 + length right
  pub before : (k : ℕ) → k < length left → get_or first k 0 ≡ get_or left k 0
  pub here : (x : ℕ) → IsAtMost x right → IsAtMost x lower → length left < length first → x ≤ get_or first (length left) 0
  pub behind : (k : ℕ) → k < length right → length left + 1 + k < length first → get_or right k 0 ≤ get_or first (length left + 1 + k) 0

pub record Slides (inner left right : List ℕ) (below : List (List ℕ)) : Type 0 where
  pub order : semistandard inner (slid_rows inner left right below) ≡ true
  pub first : IsSlid left right (drop (place_below inner left) (first_row below)) (first_row (slid_rows inner left right below))
  pub falls : Falls (outer_parts inner (slid_rows inner left right below))

last_slid : (left right : List ℕ) → Rises (left ++ right) → IsSlid left right [] (left ++ right)
last_slid left right r = search (rules, length-append, before, get_or_append_left, get_or-append-add, rises_right)

slides_last : (inner left right : List ℕ) → HasHole inner left right [] → Slides inner left right []
slides_last inner left right h = search (rules, rises-from, drop_all, place_below, last_slid)

-- ---- the letter below the empty cell moves up, and the empty cell is then in the next row

pub hole_below :
    (inner row : List ℕ) (place : ℕ) (below : List (List ℕ)) → place < length row → HasShape inner (row ∷ below)
    → semistandard inner (row ∷ below) ≡ true → HasHole inner (take place row) (drop (place + 1) row) below
hole_below inner row place below l s o =
    search (rules, order-tells, length-take-le, length-drop, rises_append, get_or-take, get_or-drop, before, place_below, first_row)

risen_order :
    (inner left right row : List ℕ) (b : ℕ) (below rows : List (List ℕ)) → HasHole inner left right (row ∷ below)
    → place_below inner left < length row → b ≡ get_or row (place_below inner left) 0 → IsAtMost b right
    → IsSlid (take (place_below inner left) row) (drop (place_below inner left + 1) row)
    (drop (place_below (drop 1 inner) (take (place_below inner left) row)) (first_row below)) (first_row rows)
    → semistandard (drop 1 inner) rows ≡ true
    → semistandard inner ((left ++ b ∷ right) ∷ rows) ≡ true
risen_order inner left right row b below rows h l e m n o =
    let p = place_below inner left in
    let t = order-tells (drop 1 inner) row below h.order in
    let falls = h.falls in
    let next = h.shape.0 in
    let count : length (take (place_below inner left) row) ≡ place_below inner left = length-take-le p row (omega arith) in
    let long = length-drop (place_below inner left + 1) row in
    let here : part inner 1 - part inner 2 + length left ≡ place_below inner left = omega arith in
    order-from inner (left ++ b ∷ right) rows
    (record {
      rises = rises_append left (b ∷ right) (rises_left left right h.rises) (rises_front b right m (rises_right left right h.rises))
          (λ v w.
          let e' : part inner 1 - part inner 2 + (length left - 1) + 1 ≡ place_below inner left = omega arith in
          omega (
            arith,
            h.before (length left - 1) (omega arith) (omega arith),
            t.rises (part inner 1 - part inner 2 + (length left - 1)) (omega arith),
            ap (λ n. get_or row n 0) e',
          ));
      stands = λ k u v. elim (side_of (length left) k) [
        | before z ↦
            omega (
              arith,
              get_or_append_left left (b ∷ right) 0 k z,
              h.before k z (omega arith),
              n.before (part inner 1 - part inner 2 + k) (omega arith),
              get_or-take (place_below inner left) row (part inner 1 - part inner 2 + k) 0 (omega arith),
            )
        | from zero z ↦
            let at : part inner 1 - part inner 2 + k ≡ length (take (place_below inner left) row) = omega arith in
            omega (
              arith,
              get_or-append-add left (b ∷ right) 0 0,
              ap (λ i. get_or (left ++ b ∷ right) i 0) z,
              n.here (b + 1)
                  (λ y.
                  let f : place_below inner left + 1 + 0 ≡ place_below inner left + 1 = omega arith in
                  omega (
                    arith,
                    m (omega arith),
                    h.behind 0 (omega arith) (omega arith),
                    get_or-drop (place_below inner left + 1) row 0 0,
                  ))
                  (λ y.
                  let below_here : place_below (drop 1 inner) (take (place_below inner left) row) + 0
                  ≡ part (drop 1 inner) 1 - part (drop 1 inner) 2 + place_below inner left = omega arith in
                  let some = length-drop (place_below (drop 1 inner) (take (place_below inner left) row)) (first_row below) in
                  omega (
                    arith,
                    e,
                    t.stands (place_below inner left) l (omega arith),
                    get_or-drop (place_below (drop 1 inner) (take (place_below inner left) row)) (first_row below) 0 0,
                    ap (λ i. get_or (first_row below) i 0) below_here,
                  ))
                  (omega arith),
              ap (λ i. get_or (first_row rows) i 0) at,
            )
        | from (suc j) z ↦
            let at : part inner 1 - part inner 2 + k ≡ length (take (place_below inner left) row) + 1 + j = omega arith in
            let within : place_below inner left + 1 + j < length row = omega (arith, n.long) in
            omega (
              arith,
              get_or-append-add left (b ∷ right) (suc j) 0,
              ap (λ i. get_or (left ++ b ∷ right) i 0) z,
              h.behind j (omega (arith, length-append left (b ∷ right))) within,
              n.behind j (omega arith) (omega arith),
              get_or-drop (place_below inner left + 1) row j 0,
              ap (λ i. get_or (first_row rows) i 0) at,
            )
      ];
      later = o;
    })

risen_slid : (left right lower : List ℕ) (b : ℕ) → IsSlid left right (b ∷ lower) (left ++ b ∷ right)
risen_slid left right lower b = grind (arith, common_steps)

pub least_moves : (right lower : List ℕ) (b : ℕ) → moves_up right (b ∷ lower) ≡ true → IsAtMost b right
least_moves [] lower b h l = absurd (omega arith)
least_moves (a ∷ right) lower b h l = leb-true b a h

slides_up :
    (inner left right row lower : List ℕ) (b : ℕ) (below : List (List ℕ))
    → ((inner left right : List ℕ) → HasHole inner left right below → Slides inner left right below)
    → HasHole inner left right (row ∷ below) → drop (place_below inner left) row ≡ b ∷ lower → moves_up right (b ∷ lower) ≡ true
    → Slides inner left right (row ∷ below)
slides_up inner left right row lower b below ih h e m =
    let p = place_below inner left in
    let l : place_below inner left < length row = omega (arith, length-drop (place_below inner left) row, ap length e) in
    let here : place_below inner left + 0 ≡ place_below inner left = omega arith in
    let letter : b ≡ get_or row (place_below inner left) 0 =
    sym (ap (λ (w : List ℕ). get_or w 0 0) e) ∙ get_or-drop (place_below inner left) row 0 0 ∙ ap (λ n. get_or row n 0) here in
    let n = ih (drop 1 inner) (take p row) (drop (p + 1) row) (hole_below (drop 1 inner) row p below l h.shape h.order) in
    let is = slid-moves_up inner left right row lower b below e m in
    record {
      order = subst (λ rows. semistandard inner rows ≡ true) (sym is)
          (risen_order inner left right row b below (slid_rows (drop 1 inner) (take p row) (drop (p + 1) row) below) h l letter
          (least_moves right lower b m) n.first n.order);
      first = subst (λ rows. IsSlid left right (drop p row) (first_row rows)) (sym is)
          (subst (λ w. IsSlid left right w (left ++ b ∷ right)) (sym e) (risen_slid left right lower b));
      falls = subst (λ rows. Falls (outer_parts inner rows)) (sym is)
          (Falls-front (part inner 1 + length (left ++ b ∷ right))
          (outer_parts (drop 1 inner) (slid_rows (drop 1 inner) (take p row) (drop (p + 1) row) below))
          (omega (
            arith,
            ends-first (drop 1 inner) (slid_rows (drop 1 inner) (take p row) (drop (p + 1) row) below),
            part_next inner 0,
            n.first.long,
            length-take-le (place_below inner left) row (omega arith),
            length-drop (place_below inner left + 1) row,
            h.ends,
            length-append left (b ∷ right),
          )) n.falls);
    }

slides_end : (inner left row : List ℕ) (below : List (List ℕ)) → HasHole inner left [] (row ∷ below) → drop (place_below inner left) row ≡ [] → Slides inner left [] (row ∷ below)
slides_end inner left row below h e =
    let p = place_below inner left in
    let is = slid-stops inner left row below e in
    record {
      order = subst (λ rows. semistandard inner rows ≡ true) (sym is)
          (order-from inner left (row ∷ below) (record { rises = rises_left left [] h.rises; stands = h.before; later = h.order }));
      first = subst (λ rows. IsSlid left [] (drop p row) (first_row rows)) (sym is)
          (record {
            long = omega arith;
            before = λ k l. refl;
            here = λ x a b l. absurd (omega arith);
            behind = λ k l m. absurd (omega arith);
          });
      falls = subst (λ rows. Falls (outer_parts inner rows)) (sym is)
          (Falls-front (part inner 1 + length left) (outer_parts (drop 1 inner) (row ∷ below))
          (omega (
            arith,
            ends-first (drop 1 inner) (row ∷ below),
            part_next inner 0,
            h.falls,
            length-drop (place_below inner left) row,
            ap (λ (w : List ℕ). length w) e,
          )) (ends-fall (row ∷ below) (drop 1 inner) h.shape));
    }

-- ---- the letter to the right of the empty cell moves left, and the empty cell moves to the right

smaller_moves : (a : ℕ) (right lower : List ℕ) → moves_up (a ∷ right) lower ≡ false → 0 < length lower → a < get_or lower 0 0
smaller_moves a right [] h l = absurd (omega arith)
smaller_moves a right (b ∷ lower) h l = leb-false b a h

pub hole_right :
    (inner left right row : List ℕ) (a : ℕ) (below : List (List ℕ)) → HasHole inner left (a ∷ right) (row ∷ below)
    → moves_up (a ∷ right) (drop (place_below inner left) row) ≡ false → HasHole inner (left ++ a ∷ []) right (row ∷ below)
hole_right inner left right row a below h m =
    let falls = h.falls in
    let count = length_push left a in
    record {
      falls = h.falls;
      rises = subst Rises (sym (append_assoc left (a ∷ []) right)) h.rises;
      before = λ k u v. elim (side_of (length left) k) [
        | before z ↦ omega (arith, get_or_append_left left (a ∷ []) 0 k z, h.before k z v)
        | from zero z ↦
            let at : place_below inner left + 0 ≡ part inner 1 - part inner 2 + k = omega arith in
            omega (
              arith,
              get_or-append-add left (a ∷ []) 0 0,
              ap (λ n. get_or (left ++ a ∷ []) n 0) z,
              smaller_moves a right (drop (place_below inner left) row) m (omega (arith, length-drop (place_below inner left) row)),
              get_or-drop (place_below inner left) row 0 0,
              ap (λ n. get_or row n 0) at,
            )
        | from (suc j) z ↦ absurd (omega arith)
      ];
      behind = λ k u v.
          let at : place_below inner (left ++ a ∷ []) + 1 + k ≡ place_below inner left + 1 + suc k = omega arith in
          omega (arith, h.behind (suc k) (omega arith) (omega arith), ap (λ n. get_or row n 0) at);
      ends = omega (arith, h.ends);
      shape = h.shape;
      order = h.order;
    }

slid_right :
    (inner left right row first : List ℕ) (a : ℕ) (below : List (List ℕ)) → HasHole inner left (a ∷ right) (row ∷ below)
    → moves_up (a ∷ right) (drop (place_below inner left) row) ≡ false
    → IsSlid (left ++ a ∷ []) right (drop (place_below inner (left ++ a ∷ [])) row) first
    → IsSlid left (a ∷ right) (drop (place_below inner left) row) first
slid_right inner left right row first a below h m n =
    let falls = h.falls in
    let count = length_push left a in
    let t = order-tells (drop 1 inner) row below h.order in
    record {
      long = omega (arith, n.long);
      before = λ k l. n.before k (omega arith) ∙ get_or_append_left left (a ∷ []) 0 k l;
      here = λ x u v l.
          omega (arith, u (omega arith), n.before (length left) (omega arith), get_or_push left a 0 (length left) refl);
      behind = λ k. elim k as (λ k. k < length (a ∷ right) → length left + 1 + k < length first → get_or (a ∷ right) k 0 ≤ get_or first (length left + 1 + k) 0) [
        | zero ↦ λ u v.
            let at : length left + 1 + 0 ≡ length (left ++ a ∷ []) = omega arith in
            omega (
              arith,
              n.here a (λ z. rises_right left (a ∷ right) h.rises 0 (omega arith))
                  (λ z.
                  let p' : place_below inner (left ++ a ∷ []) + 0 ≡ place_below inner left + 1 = omega arith in
                  let p : place_below inner left + 0 ≡ place_below inner left = omega arith in
                  let long = length-drop (place_below inner (left ++ a ∷ [])) row in
                  let long' = length-drop (place_below inner left) row in
                  omega (
                    arith,
                    smaller_moves a right (drop (place_below inner left) row) m (omega arith),
                    get_or-drop (place_below inner left) row 0 0,
                    ap (λ n. get_or row n 0) p,
                    t.rises (place_below inner left) (omega arith),
                    get_or-drop (place_below inner (left ++ a ∷ [])) row 0 0,
                    ap (λ n. get_or row n 0) p',
                  ))
                  (omega arith),
              ap (λ n. get_or first n 0) at,
            )
        | suc k ↦ λ u v.
            let at : length left + 1 + suc k ≡ length (left ++ a ∷ []) + 1 + k = omega arith in
            omega (arith, n.behind k (omega arith) (omega arith), ap (λ n. get_or first n 0) at)
      ];
    }

pub data Shown (w : List ℕ) : Type 0 where
  nothing : w ≡ [] → Shown w
  letter : (b : ℕ) (v : List ℕ) → w ≡ b ∷ v → Shown w

pub shown : (w : List ℕ) → Shown w
shown [] = nothing refl
shown (b ∷ v) = letter b v refl

slides_row :
    (right inner left row : List ℕ) (below : List (List ℕ))
    → ((inner left right : List ℕ) → HasHole inner left right below → Slides inner left right below)
    → HasHole inner left right (row ∷ below) → Slides inner left right (row ∷ below)
slides_row [] inner left row below ih h = elim (shown (drop (place_below inner left) row)) [
  | nothing e ↦ slides_end inner left row below h e
  | letter b lower e ↦ slides_up inner left [] row lower b below ih h e refl
]
slides_row (a ∷ right) inner left row below ih h = elim (cases_Bool (moves_up (a ∷ right) (drop (place_below inner left) row))) [
  | inl m ↦ elim (shown (drop (place_below inner left) row)) [
    | nothing e ↦ absurd (cc (ap (moves_up (a ∷ right)) e))
    | letter b lower e ↦ slides_up inner left (a ∷ right) row lower b below ih h e (sym (ap (moves_up (a ∷ right)) e) ∙ m)
  ]
  | inr m ↦
      let n = slides_row right inner (left ++ a ∷ []) row below ih (hole_right inner left right row a below h m) in
      let is = slid-moves_left inner left right row a below h.falls m in
      record {
        order = subst (λ rows. semistandard inner rows ≡ true) (sym is) n.order;
        first = subst (λ rows. IsSlid left (a ∷ right) (drop (place_below inner left) row) (first_row rows)) (sym is)
            (slid_right inner left right row (first_row (slid_rows inner (left ++ a ∷ []) right (row ∷ below))) a below h m n.first);
        falls = subst (λ rows. Falls (outer_parts inner rows)) (sym is) n.falls;
      }
]

pub slides : (below : List (List ℕ)) (inner left right : List ℕ) → HasHole inner left right below → Slides inner left right below
slides [] inner left right h = slides_last inner left right h
slides (row ∷ below) inner left right h = slides_row right inner left row below (slides below) h
