-- A slide as a sequence of moves of the empty cell: to the right or down, until the slide ends.
use Rattle.std.proofs.lemmas.Grind.{common_steps}
use Rattle.std.proofs.Common.{◌≡◌, ℕ, suc, ◌+◌, ◌-◌, ◌≤◌, Bool, true, false, cond, nat_le, List, [], ◌∷◌, ◌++◌, length, take, drop, ◌∙◌, ap, ap₂, sym, arith, append_assoc, append-nil, rules}
use Rattle.std.proofs.lemmas.Bool.{le-leb}
use Rattle.std.proofs.lemmas.List.{drop-drop, length_push, length-drop}
use Rattle.sym_model.specs.Partition.{part}
use Rattle.sym_model.specs.Slide.{moves_up, moves_left, slid_rows}

-- the place in the next row, counted from 0, of the letter below the empty cell; `left` are the letters to the left of the empty cell
abbrev pub place_below : List ℕ → List ℕ → ℕ
place_below inner left = part inner 1 + length left - part inner 2

-- `rows_at inner n m left right row below`: the rows after a slide in which m letters of `right` move left, and then the letter at the place n of the
-- next row, `row`, moves up; no letter moves up if `row` has no place n
abbrev pub rows_at : List ℕ → ℕ → ℕ → List ℕ → List ℕ → List ℕ → List (List ℕ) → List (List ℕ)
rows_at inner n m left right row below =
    (left ++ (take m right ++ (take 1 (drop n row) ++ drop m right)))
    ∷ cond (nat_le (length row) n) (row ∷ below) (slid_rows (drop 1 inner) (take n row) (drop (n + 1) row) below)

abbrev pub moved : List ℕ → List ℕ → List ℕ → List ℕ → ℕ
moved inner left right row = moves_left right (drop (place_below inner left) row)

rows_at-next :
    (inner : List ℕ) (n k m a : ℕ) (left right row : List ℕ) (below : List (List ℕ)) → n ≡ k
    → rows_at inner n (suc m) left (a ∷ right) row below ≡ rows_at inner k m (left ++ a ∷ []) right row below
rows_at-next inner n k m a left right row below e = search (rules, append_assoc)

-- if the letter a to the right of the empty cell moves left, the slide continues with a as the last letter to the left of the empty cell
pub slid-moves_left :
    (inner left right row : List ℕ) (a : ℕ) (below : List (List ℕ)) → part inner 2 ≤ part inner 1
    → moves_up (a ∷ right) (drop (place_below inner left) row) ≡ false
    → slid_rows inner left (a ∷ right) (row ∷ below) ≡ slid_rows inner (left ++ a ∷ []) right (row ∷ below)
slid-moves_left inner left right row a below f h =
    let p = place_below inner left in
    let q = place_below inner (left ++ a ∷ []) in
    let m = moves_left right (drop 1 (drop p row)) in
    let next : place_below inner left + 1 ≡ place_below inner (left ++ a ∷ []) = omega (arith, length_push left a) in
    let count : moved inner left (a ∷ right) row ≡ suc m = ap (λ b. cond b 0 (suc m)) h in
    let same : m ≡ moved inner (left ++ a ∷ []) right row =
    ap (moves_left right) (drop-drop 1 p row ∙ ap (λ n. drop n row) next) in
    let places : p + suc m ≡ q + m = omega arith in
    ap (λ n. rows_at inner (p + n) n left (a ∷ right) row below) count
    ∙ rows_at-next inner (p + suc m) (q + m) m a left right row below places
    ∙ ap (λ n. rows_at inner (q + n) n (left ++ a ∷ []) right row below) same

pub slid-moves_left_last :
    (inner left right : List ℕ) (a : ℕ) → slid_rows inner left (a ∷ right) [] ≡ slid_rows inner (left ++ a ∷ []) right []
slid-moves_left_last inner left right a = ap (λ (w : List ℕ). w ∷ []) (sym (append_assoc left (a ∷ []) right))

-- if the letter b below the empty cell moves up, the slide continues with the empty cell at the former place of b, in the next row
pub slid-moves_up :
    (inner left right row lower : List ℕ) (b : ℕ) (below : List (List ℕ))
    → drop (place_below inner left) row ≡ b ∷ lower → moves_up right (b ∷ lower) ≡ true
    → slid_rows inner left right (row ∷ below)
    ≡ (left ++ b ∷ right)
    ∷ slid_rows (drop 1 inner) (take (place_below inner left) row) (drop (place_below inner left + 1) row) below
slid-moves_up inner left right row lower b below e h = grind (arith, common_steps)

-- if the empty cell has no letter to its right and none below, the slide ends: the rows are unchanged
pub slid-stops :
    (inner left row : List ℕ) (below : List (List ℕ)) → drop (place_below inner left) row ≡ []
    → slid_rows inner left [] (row ∷ below) ≡ left ∷ row ∷ below
slid-stops inner left row below e =
    let p = place_below inner left in
    let here : p + 0 ≡ p = omega arith in
    let short : length row ≤ p = omega (arith, length-drop p row, ap length e) in
    ap (λ n. rows_at inner n 0 left [] row below) here
    ∙ ap₂ (λ (w : List ℕ) (t : Bool). (left ++ (take 1 w ++ [])) ∷ cond t (row ∷ below) (slid_rows (drop 1 inner) (take p row) (drop (p + 1) row) below))
    e (le-leb (length row) p short)
    ∙ ap (λ (w : List ℕ). w ∷ row ∷ below) (append-nil left)
