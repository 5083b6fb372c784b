-- One move of a letter into the empty cell of a slide (jeu de taquin): continuing the slide after the move and continuing it before the move give the
-- same rows at the end. Rows are lists, and places are counted from 0.
use Rattle.std.proofs.Common.{◌≡◌, ℕ, suc, ◌+◌, ◌-◌, ◌<◌, ◌≤◌, true, false, List, [], ◌∷◌, ◌++◌, length, take, drop, get_or, ◌∙◌, ap, ap₂, sym, arith, append_assoc, append-nil}
use Rattle.std.proofs.Math.ListN.{set}
use Rattle.std.proofs.lemmas.List.{take-set, take_more_set, drop-set-lt, set_split, get_or-set_same, get_or-set_other, drop-drop, drop_more, length-take-le, get_or-drop, drop_all}
use Rattle.sym_model.specs.Partition.{part}
use Rattle.sym_model.specs.Slide.{moves_up, slid_rows}
use Rattle.insertion_laws.proofs.RisingRows.{first_row}
use Rattle.insertion_laws.proofs.SlideSteps.{place_below, slid-moves_left, slid-moves_left_last, slid-moves_up, slid-stops}

-- the rows at the end of a slide that continues with the empty cell at the place p of row n, both counted from 0
abbrev pub slid_at : ℕ → ℕ → List ℕ → List (List ℕ) → List (List ℕ)
slid_at n p inner rows =
    take n rows ++ slid_rows (drop n inner) (take p (get_or rows n [])) (drop (p + 1) (get_or rows n [])) (drop (n + 1) rows)

-- the letters of row n + 1, beginning in the column of the cell at the place p of row n
abbrev pub lower_at : ℕ → ℕ → List ℕ → List (List ℕ) → List ℕ
lower_at n p inner rows = drop (get_or inner n 0 + p - get_or inner (n + 1) 0) (get_or rows (n + 1) [])

this_part : (inner : List ℕ) (n : ℕ) → part (drop n inner) 1 ≡ get_or inner n 0
this_part inner n = let e : n + 0 ≡ n = omega arith in get_or-drop n inner 0 0 ∙ ap (λ k. get_or inner k 0) e

next_part : (inner : List ℕ) (n : ℕ) → part (drop n inner) 2 ≡ get_or inner (n + 1) 0
next_part inner n = get_or-drop n inner 1 0

place-is : (inner left : List ℕ) (n p : ℕ) → length left ≡ p → place_below (drop n inner) left ≡ get_or inner n 0 + p - get_or inner (n + 1) 0
place-is inner left n p e = ap₂ (λ x y. x - y) (ap₂ (λ x y. x + y) (this_part inner n) e) (next_part inner n)

slid-left_at :
    (inner left right : List ℕ) (a : ℕ) (below : List (List ℕ)) → part inner 2 ≤ part inner 1
    → moves_up (a ∷ right) (drop (place_below inner left) (first_row below)) ≡ false
    → slid_rows inner (left ++ a ∷ []) right below ≡ slid_rows inner left (a ∷ right) below
slid-left_at inner left right a [] f h = sym (slid-moves_left_last inner left right a)
slid-left_at inner left right a (row ∷ below) f h = sym (slid-moves_left inner left right row a below f h)

pub moved_left :
    (n p a : ℕ) (inner right : List ℕ) (rows : List (List ℕ)) → n < length rows → p < length (get_or rows n [])
    → get_or inner (n + 1) 0 ≤ get_or inner n 0 → drop (p + 1) (get_or rows n []) ≡ a ∷ right
    → moves_up (a ∷ right) (lower_at n p inner rows) ≡ false
    → slid_at n (p + 1) inner (set rows n (set (get_or rows n []) p a)) ≡ slid_at n p inner rows
moved_left n p a inner right rows h k f e m =
    let R = get_or rows n [] in
    let S = set rows n (set R p a) in
    let count : length (take p (get_or rows n [])) ≡ p = length-take-le p R (omega arith) in
    let here : get_or (set rows n (set (get_or rows n []) p a)) n [] ≡ set (get_or rows n []) p a = get_or-set_same rows n (set R p a) [] h in
    let behind : drop (p + 1 + 1) (set (get_or rows n []) p a) ≡ right =
    drop-set-lt (p + 1 + 1) R p a (omega arith) ∙ sym (drop-drop 1 (p + 1) R) ∙ ap (drop 1) e in
    let below : drop (n + 1) (set rows n (set (get_or rows n []) p a)) ≡ drop (n + 1) rows = drop-set-lt (n + 1) rows n (set R p a) (omega arith) in
    let first : first_row (drop (n + 1) rows) ≡ get_or rows (n + 1) [] =
    get_or-drop (n + 1) rows 0 [] ∙ ap (λ k. get_or rows k []) (let z : n + 1 + 0 ≡ n + 1 = omega arith in z) in
    let falls : part (drop n inner) 2 ≤ part (drop n inner) 1 = omega (arith, this_part inner n, next_part inner n) in
    let lower : drop (place_below (drop n inner) (take p R)) (first_row (drop (n + 1) rows)) ≡ lower_at n p inner rows =
    ap₂ (λ k (w : List ℕ). drop k w) (place-is inner (take p R) n p count) first in
    ap₂ (λ x y. x ++ y) (take-set rows n (set R p a))
    (ap₂ (λ (w : List ℕ) (v : List (List ℕ)). slid_rows (drop n inner) (take (p + 1) w) (drop (p + 1 + 1) w) v) here below
    ∙ ap₂ (λ (x y : List ℕ). slid_rows (drop n inner) x y (drop (n + 1) rows)) (take_more_set R p a k) behind
    ∙ slid-left_at (drop n inner) (take p R) right a (drop (n + 1) rows) falls (ap (moves_up (a ∷ right)) lower ∙ m)
    ∙ ap (λ (w : List ℕ). slid_rows (drop n inner) (take p R) w (drop (n + 1) rows)) (sym e))

pub moved_up :
    (n p q b : ℕ) (inner lower : List ℕ) (rows : List (List ℕ)) → n + 1 < length rows → p < length (get_or rows n [])
    → q ≡ get_or inner n 0 + p - get_or inner (n + 1) 0 → lower_at n p inner rows ≡ b ∷ lower
    → moves_up (drop (p + 1) (get_or rows n [])) (b ∷ lower) ≡ true
    → slid_at (n + 1) q inner (set rows n (set (get_or rows n []) p b)) ≡ slid_at n p inner rows
moved_up n p q b inner lower rows h k at e m =
    let R = get_or rows n [] in
    let T = get_or rows (n + 1) [] in
    let inner' = drop n inner in
    let place = place_below (drop n inner) (take p R) in
    let count : length (take p (get_or rows n [])) ≡ p = length-take-le p R (omega arith) in
    let place_is : place_below (drop n inner) (take p (get_or rows n [])) ≡ q = place-is inner (take p R) n p count ∙ sym at in
    let next : get_or (set rows n (set (get_or rows n []) p b)) (n + 1) [] ≡ get_or rows (n + 1) [] =
    get_or-set_other rows n (n + 1) (set R p b) [] (λ z. omega arith) in
    let below : drop (n + 1 + 1) (set rows n (set (get_or rows n []) p b)) ≡ drop (n + 1 + 1) rows = drop-set-lt (n + 1 + 1) rows n (set R p b) (omega arith) in
    let row_is : set (get_or rows n []) p b ≡ take p (get_or rows n []) ++ b ∷ drop (p + 1) (get_or rows n []) =
    set_split R p b k ∙ ap (λ i. take p R ++ b ∷ drop i R) (let z : suc p ≡ p + 1 = omega arith in z) in
    let rest : drop (n + 1) rows ≡ get_or rows (n + 1) [] ∷ drop (n + 1 + 1) rows = drop_more rows (n + 1) [] h in
    let inner_next : drop 1 (drop n inner) ≡ drop (n + 1) inner = drop-drop 1 n inner in
    let lower_is : drop (place_below (drop n inner) (take p (get_or rows n []))) (get_or rows (n + 1) []) ≡ b ∷ lower =
    ap (λ i. drop i T) (place-is inner (take p R) n p count) ∙ e in
    let step = slid-moves_up (drop n inner) (take p R) (drop (p + 1) R) T lower b (drop (n + 1 + 1) rows) lower_is m in
    ap₂ (λ x y. x ++ y) (take_more_set rows n (set R p b) (omega arith))
    (ap₂ (λ (w : List ℕ) (v : List (List ℕ)). slid_rows (drop (n + 1) inner) (take q w) (drop (q + 1) w) v) next below)
    ∙ append_assoc (take n rows) (set R p b ∷ []) (slid_rows (drop (n + 1) inner) (take q T) (drop (q + 1) T) (drop (n + 1 + 1) rows))
    ∙ ap (λ (w : List ℕ). take n rows ++ (w ∷ slid_rows (drop (n + 1) inner) (take q T) (drop (q + 1) T) (drop (n + 1 + 1) rows))) row_is
    ∙ ap₂ (λ i (w : List ℕ). take n rows ++ ((take p R ++ b ∷ drop (p + 1) R) ∷ slid_rows w (take i T) (drop (i + 1) T) (drop (n + 1 + 1) rows)))
    (sym place_is) (sym inner_next)
    ∙ ap (λ (v : List (List ℕ)). take n rows ++ v) (sym step)
    ∙ ap (λ (v : List (List ℕ)). take n rows ++ slid_rows (drop n inner) (take p R) (drop (p + 1) R) v) (sym rest)

pub stopped :
    (n p : ℕ) (inner : List ℕ) (rows : List (List ℕ)) → n < length rows → length (get_or rows n []) ≡ p + 1 → lower_at n p inner rows ≡ []
    → slid_at n p inner rows ≡ set rows n (take (length (get_or rows n []) - 1) (get_or rows n []))
stopped n p inner rows h k e =
    let R = get_or rows n [] in
    let count : length (take p (get_or rows n [])) ≡ p = length-take-le p R (omega arith) in
    let first : first_row (drop (n + 1) rows) ≡ get_or rows (n + 1) [] =
    get_or-drop (n + 1) rows 0 [] ∙ ap (λ k. get_or rows k []) (let z : n + 1 + 0 ≡ n + 1 = omega arith in z) in
    let lower : drop (place_below (drop n inner) (take p R)) (first_row (drop (n + 1) rows)) ≡ [] =
    ap₂ (λ k (w : List ℕ). drop k w) (place-is inner (take p R) n p count) first ∙ e in
    let last : p ≡ length (get_or rows n []) - 1 = omega arith in
    let next : n + 1 ≡ suc n = omega arith in
    ap (λ (w : List ℕ). take n rows ++ slid_rows (drop n inner) (take p R) w (drop (n + 1) rows)) (drop_all (p + 1) R (omega arith))
    ∙ ap (λ (v : List (List ℕ)). take n rows ++ v) (ends (drop n inner) (take p R) (drop (n + 1) rows) lower)
    ∙ ap₂ (λ i j. take n rows ++ (take i R ∷ drop j rows)) last next
    ∙ sym (set_split rows n (take (length R - 1) R) h)
  where
    ends : (inner left : List ℕ) (below : List (List ℕ)) → drop (place_below inner left) (first_row below) ≡ [] → slid_rows inner left [] below ≡ left ∷ below
    ends inner left [] e = ap (λ (w : List ℕ). w ∷ []) (append-nil left)
    ends inner left (row ∷ below) e = slid-stops inner left row below e
