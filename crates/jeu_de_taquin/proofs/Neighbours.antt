-- The right and the lower neighbour of a cell of a filling, as letters of its rows.
use Rattle.std.proofs.Common.{◌≡◌, ℕ, ◌+◌, ◌-◌, ◌<◌, ◌≤◌, true, false, ◌&&◌, cond, nat_le, nat_lt, List, [], ◌∷◌, map, length, drop, get_or, slice_index, ◌∙◌, ap, sym, refl, arith, Some, None, Option, inl, inr}
use Rattle.std.proofs.Math.ListN.{set}
use Rattle.std.proofs.lemmas.Bool.{cases_lt, cases_eq, cases_Bool, lt-leb, le-leb, ltb-true, ltb-false, and_right}
use Rattle.std.proofs.lemmas.List.{length-map, length-set, map-set, set-get_or, get_or-map, get_or-set_same, get_or-set_other, ext_get_or, drop_more, drop_all, get_or_past}
use Rattle.strip_laws.proofs.Containment.{contains-tells}
use Rattle.sym_model.specs.Partition.{IsCell, part, without_last_zeros}
use Rattle.sym_model.specs.Schur.{row_lengths}
use Rattle.sym_model.specs.Slide.{HasInnerCorner, lowered_at, moves_up}
use Rattle.sym_model.specs.Tableau.{SkewFilling}
use Rattle.sym_model.proofs.Tableaux.{length-row_lengths, get_or-row_lengths}
use Rattle.sym_model.proofs.Parts.{get_or-le-size}
use Rattle.skew_shapes.specs.CellFillings.{IsFilling, entry_at, is_cell, place_in_row, row_of, with_entry, with_inner_cell}
use Rattle.skew_shapes.proofs.CellRows.{cell_row, is_cell-from}
use Rattle.skew_shapes.proofs.KeptRows.{IsSkew-inner_lowered}
use Rattle.insertion_laws.proofs.SlideKeeps.{corner-lowered}
use Rattle.jeu_de_taquin.specs.declared.empty_cell.Neighbour.{Neighbour}
use Rattle.jeu_de_taquin.specs.declared.empty_cell.Neighbour.TheVariants.{Right, Below, Nobody}
use Rattle.jeu_de_taquin.specs.EmptyCell.{next_of}
use Rattle.jeu_de_taquin.proofs.Moves.{lower_at}
use Rattle.strip_laws.proofs.Strips.{falls_at}

pub count-rows : (t : SkewFilling) → IsFilling t → length t.rows ≡ length t.outer
count-rows t f =
    sym (length-map t.rows (λ (w : List ℕ). length w)) ∙ ap length f.cells ∙ length-row_lengths t.outer t.inner

pub count-row : (t : SkewFilling) (k : ℕ) → IsFilling t → k < length t.rows → length (get_or t.rows k []) ≡ get_or t.outer k 0 - get_or t.inner k 0
count-row t k f h =
    sym (get_or-map (λ (w : List ℕ). length w) t.rows k [] 0 h) ∙ ap (λ (w : List ℕ). get_or w k 0) f.cells ∙ get_or-row_lengths t.outer t.inner k

pub IsFilling-with_entry : (t : SkewFilling) (row column a : ℕ) → IsFilling t → IsFilling (with_entry t row column a)
IsFilling-with_entry t row column a f =
    let n = row - 1 in
    let p = place_in_row t.inner row column in
    let here = row_of t.rows row in
    record {
      shape = f.shape;
      cells = map-set (λ (w : List ℕ). length w) t.rows n (set here p a)
          ∙ ap (set (map length t.rows) n) (length-set here p a)
          ∙ sym (map-set (λ (w : List ℕ). length w) t.rows n here)
          ∙ ap (map length) (set-get_or t.rows n [])
          ∙ f.cells;
    }

pub IsFilling-with_inner_cell : (t : SkewFilling) (row : ℕ) → IsFilling t → HasInnerCorner row t.inner → IsFilling (with_inner_cell t row)
IsFilling-with_inner_cell t row f c =
    let n = row - 1 in
    let new = without_last_zeros (lowered_at row t.inner) in
    let less = corner-lowered row t.inner c in
    let rows = set t.rows n (0 ∷ row_of t.rows row) in
    let many : length (set t.rows (row - 1) (0 ∷ row_of t.rows row)) ≡ length t.rows = length-set t.rows n (0 ∷ row_of t.rows row) in
    let count = count-rows t f in
    let lengths : length (map length rows) ≡ length (row_lengths t.outer new) =
    length-map rows (λ (w : List ℕ). length w) ∙ many ∙ count ∙ sym (length-row_lengths t.outer new) in
    record {
      shape = IsSkew-inner_lowered t.outer t.inner new row f.shape c refl;
      cells = ext_get_or 0 (map length rows) (row_lengths t.outer new) lengths
          (λ i h.
          let within : i < length (set t.rows (row - 1) (0 ∷ row_of t.rows row)) = omega (arith, length-map rows (λ (w : List ℕ). length w)) in
          get_or-map (λ (w : List ℕ). length w) rows i [] 0 within
          ∙ at i (omega arith) ∙ sym (get_or-row_lengths t.outer new i));
    }
  where
    at : (i : ℕ) → i < length t.rows
        → length (get_or (set t.rows (row - 1) (0 ∷ row_of t.rows row)) i []) ≡ get_or t.outer i 0 - get_or (without_last_zeros (lowered_at row t.inner)) i 0
    at i h =
        let less = corner-lowered row t.inner c in
        elim (cases_eq i (row - 1)) [
          | inl e ↦
              let same : i + 1 - 1 ≡ i = omega arith in
              omega (
                arith,
                ap (λ (w : List ℕ). length w) (ap (λ k. get_or (set t.rows (row - 1) (0 ∷ row_of t.rows row)) k []) e
                    ∙ get_or-set_same t.rows (row - 1) (0 ∷ row_of t.rows row) [] (omega arith)),
                count-row t i f h,
                ap (λ k. length (get_or t.rows k [])) e,
                less.here,
                ap (λ k. get_or t.inner k 0) e,
                ap (λ k. get_or (without_last_zeros (lowered_at row t.inner)) k 0) e,
                contains-tells t.outer t.inner f.shape.holds (i + 1),
                ap (λ k. get_or t.inner k 0) same,
                ap (λ k. get_or t.outer k 0) same,
              )
          | inr d ↦
              ap (λ (w : List ℕ). length w) (get_or-set_other t.rows (row - 1) i (0 ∷ row_of t.rows row) [] d)
              ∙ count-row t i f h ∙ ap (λ x. get_or t.outer i 0 - x) (sym (less.others i d))
        ]

pub record IsAt (t : SkewFilling) (row column : ℕ) : Type 0 where
  pub row_counts : 1 ≤ row
  pub row_is : row - 1 < length t.rows
  pub place_is : place_in_row t.inner row column < length (get_or t.rows (row - 1) [])
  pub ends : part t.outer row ≡ part t.inner row + length (get_or t.rows (row - 1) [])
  pub starts : column ≡ part t.inner row + place_in_row t.inner row column + 1
  pub falls : get_or t.inner (row - 1 + 1) 0 ≤ get_or t.inner (row - 1) 0
  pub outer_falls : get_or t.outer (row - 1 + 1) 0 ≤ get_or t.outer (row - 1) 0
  pub few : row ≤ 512
  pub small : column ≤ 4096

pub is_at : (t : SkewFilling) (row column : ℕ) → IsFilling t → IsCell t.outer t.inner row column → IsAt t row column
is_at t row column f c =
    let counts = c.row_counts in
    let outside = c.outside in
    let within = c.within in
    let few = cell_row t.outer t.inner row column c in
    let count = count-rows t f in
    let here = count-row t (row - 1) f (omega arith) in
    let rows = f.shape.outside.few in
    let holds = contains-tells t.outer t.inner f.shape.holds row in
    let size = get_or-le-size t.outer (row - 1) in
    let small = f.shape.outside.small in
    record {
      row_counts = c.row_counts;
      row_is = omega arith;
      place_is = omega arith;
      ends = omega arith;
      starts = omega arith;
      falls = falls_at t.inner f.shape.inside.partition.falls (row - 1);
      outer_falls = falls_at t.outer f.shape.outside.partition.falls (row - 1);
      few = omega arith;
      small = omega arith;
    }

-- ---- the right and the lower neighbour of a cell

-- the first letter of a word; None if it is empty
abbrev pub head_of : List ℕ → Option ℕ
head_of [] = None
head_of (a ∷ w) = Some a

head-some : (w : List ℕ) (k : ℕ) → k < length w → head_of (drop k w) ≡ Some (get_or w k 0)
head-some w k h = ap head_of (drop_more w k 0 h)

head-none : (w : List ℕ) (k : ℕ) → length w ≤ k → head_of (drop k w) ≡ None
head-none w k h = ap head_of (drop_all k w h)

not_cell : (outer inner : List ℕ) (row column : ℕ) → part outer row < column → is_cell outer inner row column ≡ false
not_cell outer inner row column h =
    and_right (nat_le 1 row) (nat_lt (part inner row) column && nat_le column (part outer row))
    (and_right (nat_lt (part inner row) column) (nat_le column (part outer row)) (lt-leb column (part outer row) h))

entry-some :
    (t : SkewFilling) (row column k : ℕ) → IsCell t.outer t.inner row column → place_in_row t.inner row column ≡ k
    → entry_at t row column ≡ Some (get_or (row_of t.rows row) k 0)
entry-some t row column k c e =
    ap (λ b. cond b (Some (slice_index (row_of t.rows row) (place_in_row t.inner row column))) None) (is_cell-from t.outer t.inner row column c)
    ∙ ap (λ k. Some (get_or (row_of t.rows row) k 0)) e

entry-none : (t : SkewFilling) (row column : ℕ) → part t.outer row < column → entry_at t row column ≡ None
entry-none t row column h =
    ap (λ b. cond b (Some (slice_index (row_of t.rows row) (place_in_row t.inner row column))) None) (not_cell t.outer t.inner row column h)

pub right-is :
    (t : SkewFilling) (row column : ℕ) → IsAt t row column
    → entry_at t row (column + 1) ≡ head_of (drop (place_in_row t.inner row column + 1) (get_or t.rows (row - 1) []))
right-is t row column a =
    let p = place_in_row t.inner row column in
    let R = get_or t.rows (row - 1) [] in
    let ends = a.ends in
    let starts = a.starts in
    elim (cases_lt (p + 1) (length R)) [
      | inl h ↦
          entry-some t row (column + 1) (p + 1)
          (record { row_counts = a.row_counts; outside = omega arith; within = omega arith }) (omega arith)
          ∙ sym (head-some R (p + 1) h)
      | inr h ↦ entry-none t row (column + 1) (omega arith) ∙ sym (head-none R (p + 1) h)
    ]

pub below-is :
    (t : SkewFilling) (row column : ℕ) → IsFilling t → IsAt t row column
    → entry_at t (row + 1) column ≡ head_of (lower_at (row - 1) (place_in_row t.inner row column) t.inner t.rows)
below-is t row column f a =
    let p = place_in_row t.inner row column in
    let n = row - 1 in
    let k = get_or t.inner n 0 + p - get_or t.inner (n + 1) 0 in
    let T = get_or t.rows (n + 1) [] in
    let counts = a.row_counts in
    let starts = a.starts in
    let falls = a.falls in
    let next : row + 1 - 1 ≡ row - 1 + 1 = omega arith in
    let inner_next : part t.inner (row + 1) ≡ get_or t.inner (row - 1 + 1) 0 = ap (λ n. get_or t.inner n 0) next in
    let outer_next : part t.outer (row + 1) ≡ get_or t.outer (row - 1 + 1) 0 = ap (λ n. get_or t.outer n 0) next in
    let row_next : row_of t.rows (row + 1) ≡ get_or t.rows (row - 1 + 1) [] = ap (λ n. get_or t.rows n []) next in
    let holds = contains-tells t.outer t.inner f.shape.holds (row + 1) in
    let count = count-rows t f in
    elim (cases_lt (n + 1) (length t.rows)) [
      | inl h ↦
          let long = count-row t (n + 1) f h in
          elim (cases_lt k (length T)) [
            | inl l ↦
                entry-some t (row + 1) column k (record { row_counts = omega arith; outside = omega arith; within = omega arith }) (omega arith)
                ∙ ap (λ (w : List ℕ). Some (get_or w k 0)) row_next
                ∙ sym (head-some T k l)
            | inr l ↦ entry-none t (row + 1) column (omega arith) ∙ sym (head-none T k l)
          ]
      | inr h ↦
          let none : get_or t.rows (row - 1 + 1) [] ≡ [] = get_or_past t.rows (n + 1) [] h in
          entry-none t (row + 1) column (omega (arith, get_or_past t.outer (row - 1 + 1) 0 (omega arith)))
          ∙ sym (head-none T k (omega (arith, ap (λ (w : List ℕ). length w) none)))
    ]

-- ---- the neighbour that moves into the empty cell (`next_of`): the first letter on the right, or the first one below

pub record MovesLeft (right lower : List ℕ) (a : ℕ) : Type 0 where
  pub rest : List ℕ
  pub is : right ≡ a ∷ rest
  pub smaller : moves_up (a ∷ rest) lower ≡ false

pub record MovesUp (right lower : List ℕ) (b : ℕ) : Type 0 where
  pub rest : List ℕ
  pub is : lower ≡ b ∷ rest
  pub least : moves_up right (b ∷ rest) ≡ true

pub left-moves : (right lower : List ℕ) (a : ℕ) → Right a ≡ next_of (head_of right) (head_of lower) → MovesLeft right lower a
left-moves [] [] a h = absurd (cc h)
left-moves [] (b ∷ lower) a h = absurd (cc h)
left-moves (c ∷ right) [] a h = let e : c ≡ a = cc h in record { rest = right; is = ap (λ x. x ∷ right) e; smaller = refl }
left-moves (c ∷ right) (b ∷ lower) a h = elim (cases_Bool (nat_lt c b)) [
  | inl t ↦
      let e : c ≡ a = cc (h, ap (λ s. cond {A = Neighbour} s (Right c) (Below b)) t) in
      record { rest = right; is = ap (λ x. x ∷ right) e; smaller = lt-leb b a (omega (arith, ltb-true c b t)) }
  | inr t ↦ absurd (cc (h, ap (λ s. cond {A = Neighbour} s (Right c) (Below b)) t))
]

pub up-moves : (right lower : List ℕ) (b : ℕ) → Below b ≡ next_of (head_of right) (head_of lower) → MovesUp right lower b
up-moves [] [] b h = absurd (cc h)
up-moves [] (c ∷ lower) b h = let e : c ≡ b = cc h in record { rest = lower; is = ap (λ x. x ∷ lower) e; least = refl }
up-moves (a ∷ right) [] b h = absurd (cc h)
up-moves (a ∷ right) (c ∷ lower) b h = elim (cases_Bool (nat_lt a c)) [
  | inl t ↦ absurd (cc (h, ap (λ s. cond {A = Neighbour} s (Right a) (Below c)) t))
  | inr t ↦
      let e : c ≡ b = cc (h, ap (λ s. cond {A = Neighbour} s (Right a) (Below c)) t) in
      record { rest = lower; is = ap (λ x. x ∷ lower) e; least = le-leb b a (omega (arith, ltb-false a c t)) }
]

pub none-moves : (right lower : List ℕ) → Nobody ≡ next_of (head_of right) (head_of lower) → (right ≡ []) × (lower ≡ [])
none-moves [] [] h = (refl, refl)
none-moves [] (b ∷ lower) h = absurd (cc h)
none-moves (a ∷ right) [] h = absurd (cc h)
none-moves (a ∷ right) (c ∷ lower) h = elim (cases_Bool (nat_lt a c)) [
  | inl t ↦ absurd (cc (h, ap (λ s. cond {A = Neighbour} s (Right a) (Below c)) t))
  | inr t ↦ absurd (cc (h, ap (λ s. cond {A = Neighbour} s (Right a) (Below c)) t))
]
