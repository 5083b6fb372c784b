-- Fillings given by a function of the cells (`rows_by`): the number in a cell, and fillings with one number changed. Then shapes with one row
-- shortened by one cell.
use Rattle.std.proofs.Common.{◌≡◌, ℕ, zero, suc, ◌+◌, ◌-◌, ◌<◌, ◌≤◌, true, List, [], ◌∷◌, map, length, take, get_or, slice_index, ◌∙◌, ap, ap₂, sym, refl, arith, rules}
use Rattle.std.proofs.Math.ListN.{set}
use Rattle.std.proofs.lemmas.List.{length-map}
use Rattle.sym_model.specs.Partition.{IsCell, part, after, without_last_zeros}
use Rattle.sym_model.specs.Schur.{row_lengths}
use Rattle.sym_model.specs.Slide.{lowered_at}
use Rattle.sym_model.proofs.AfterLists.{length_after}
use Rattle.sym_model.proofs.Parts.{get_or-without_last_zeros, get_or-lowered, get_or-not_lowered, positive_within}
use Rattle.skew_shapes.specs.CellFillings.{is_cell, row_of, place_in_row, rows_with_entry}
use Rattle.skew_shapes.specs.Rows.{row_by, rows_by}

-- ---- lists f(a + 1), .., f(a + k) of the values of a function

pub map_after-at : {B : Type 0} (g : ℕ → B) (a k n : ℕ) (d : B) → n < k → get_or (map g (after a k)) n d ≡ g (a + n + 1)
map_after-at g a zero n d h = absurd (omega arith)
map_after-at g a (suc k) zero d h = ap g (omega arith)
map_after-at g a (suc k) (suc n) d h = map_after-at g (a + 1) k n d (omega arith) ∙ ap g (omega arith)

pub map_after-ext : {B : Type 0} (f g : ℕ → B) (a k : ℕ) → ((i : ℕ) → a < i → i ≤ a + k → f i ≡ g i) → map f (after a k) ≡ map g (after a k)
map_after-ext f g a zero e = refl
map_after-ext f g a (suc k) e =
    ap₂ ◌∷◌ (e (a + 1) (omega arith) (omega arith)) (map_after-ext f g (a + 1) k (λ i h l. e i (omega arith) (omega arith)))

-- if g agrees with f except at a + n + 1, at which it has the value x, the list f(a + 1), .., f(a + k), with x written at the index n, is the list
-- g(a + 1), .., g(a + k)
pub map_after-set :
    {B : Type 0} (f g : ℕ → B) (a k n : ℕ) (x : B) → n < k → g (a + n + 1) ≡ x
    → ((i : ℕ) → a < i → i ≤ a + k → (i ≡ a + n + 1 → ⊥) → g i ≡ f i)
    → set (map f (after a k)) n x ≡ map g (after a k)
map_after-set f g a zero n x h e o = absurd (omega arith)
map_after-set f g a (suc k) zero x h e o = search (rules, map_after-ext)
map_after-set f g a (suc k) (suc n) x h e o = search (rules, (map_after-set f g (a + 1) k n x (omega arith)))

pub take-map_after : {B : Type 0} (f : ℕ → B) (a k m : ℕ) → m ≤ k → take m (map f (after a k)) ≡ map f (after a m)
take-map_after f a k zero h = refl
take-map_after f a zero (suc m) h = absurd (omega arith)
take-map_after f a (suc k) (suc m) h = ap (λ l. f (a + 1) ∷ l) (take-map_after f (a + 1) k m (omega arith))

pub cell_row : (outer inner : List ℕ) (row column : ℕ) → IsCell outer inner row column → row ≤ length outer
cell_row outer inner row column c =
    omega (arith, positive_within outer (row - 1) (omega (arith, c.outside, c.within)), c.row_counts)

pub is_cell-from : (outer inner : List ℕ) (row column : ℕ) → IsCell outer inner row column → is_cell outer inner row column ≡ true
is_cell-from outer inner row column c = search rules

-- ---- rows and numbers of the filling `rows_by f outer inner`

pub row_of-rows_by :
    (f : ℕ → ℕ → ℕ) (outer inner : List ℕ) (row : ℕ) → 1 ≤ row → row ≤ length outer
    → row_of (rows_by f outer inner) row ≡ row_by f outer inner row
row_of-rows_by f outer inner row h l = search (rules, map_after-at)

pub letter-rows_by :
    (f : ℕ → ℕ → ℕ) (outer inner : List ℕ) (row column : ℕ) → IsCell outer inner row column
    → slice_index (row_of (rows_by f outer inner) row) (place_in_row inner row column) ≡ f row column
letter-rows_by f outer inner row column c =
    let p = part inner row in
    let n = place_in_row inner row column in
    let outside = c.outside in
    let within = c.within in
    let e : p + (column - (p + 1)) + 1 ≡ column = omega arith in
    ap (λ l. get_or l n 0) (row_of-rows_by f outer inner row c.row_counts (cell_row outer inner row column c))
    ∙ map_after-at (f row) p (part outer row - p) n 0 (omega arith) ∙ ap (f row) e

pub rows_by-ext :
    (f g : ℕ → ℕ → ℕ) (outer inner : List ℕ) → ((row column : ℕ) → IsCell outer inner row column → f row column ≡ g row column)
    → rows_by f outer inner ≡ rows_by g outer inner
rows_by-ext f g outer inner h = search (rules, map_after-ext)

lengths_after :
    (f : ℕ → ℕ → ℕ) (outer inner : List ℕ) (a k : ℕ)
    → map length (map (row_by f outer inner) (after a k)) ≡ map (λ row. part outer row - part inner row) (after a k)
lengths_after f outer inner a zero = refl
lengths_after f outer inner a (suc k) = search (rules, length-map, length_after, (lengths_after f outer inner (a + 1) k))

map_after-shift : (f g : ℕ → ℕ) (a k : ℕ) → ((i : ℕ) → a < i → f (i + 1) ≡ g i) → map f (after (a + 1) k) ≡ map g (after a k)
map_after-shift f g a zero h = refl
map_after-shift f g a (suc k) h = ap₂ ◌∷◌ (h (a + 1) (omega arith)) (map_after-shift f g (a + 1) k (λ i l. h i (omega arith)))

part-next : (x : ℕ) (xs : List ℕ) (i : ℕ) → 0 < i → part (x ∷ xs) (i + 1) ≡ part xs i
part-next x xs i h = search rules

row_lengths-by_places : (outer inner : List ℕ) → row_lengths outer inner ≡ map (λ row. part outer row - part inner row) (after 0 (length outer))
row_lengths-by_places [] inner = refl
row_lengths-by_places (a ∷ outer) [] = search (rules, map_after-shift, part-next, (row_lengths-by_places outer))
row_lengths-by_places (a ∷ outer) (b ∷ inner) = search (rules, map_after-shift, part-next, (row_lengths-by_places outer inner))

pub lengths-rows_by : (f : ℕ → ℕ → ℕ) (outer inner : List ℕ) → map length (rows_by f outer inner) ≡ row_lengths outer inner
lengths-rows_by f outer inner = lengths_after f outer inner 0 (length outer) ∙ sym (row_lengths-by_places outer inner)

pub rows_by-set :
    (f g : ℕ → ℕ → ℕ) (outer inner : List ℕ) (row column a : ℕ) → IsCell outer inner row column → g row column ≡ a
    → ((i j : ℕ) → IsCell outer inner i j → ((i ≡ row) × (j ≡ column) → ⊥) → g i j ≡ f i j)
    → rows_by g outer inner ≡ rows_with_entry inner (rows_by f outer inner) row column a
rows_by-set f g outer inner row column a c e o =
    let p = part inner row in
    let k = part outer row - part inner row in
    let n = place_in_row inner row column in
    let outside = c.outside in
    let within = c.within in
    let counts = c.row_counts in
    let few = cell_row outer inner row column c in
    let here : p + (column - (p + 1)) + 1 ≡ column = omega arith in
    let this : 0 + (row - 1) + 1 ≡ row = omega arith in
    let new_row : set (row_of (rows_by f outer inner) row) (place_in_row inner row column) a ≡ row_by g outer inner row =
    ap (λ l. set l n a) (row_of-rows_by f outer inner row counts few)
    ∙ map_after-set (f row) (g row) p k n a (omega arith) (ap (g row) here ∙ e)
    (λ j l m d. o row j (record { row_counts = counts; outside = l; within = omega arith }) (λ q. d (q.1 ∙ sym here))) in
    sym (ap (λ l. set (rows_by f outer inner) (row - 1) l) new_row
    ∙ map_after-set (row_by f outer inner) (row_by g outer inner) 0 (length outer) (row - 1) (row_by g outer inner row) (omega arith)
    (ap (row_by g outer inner) this)
    (λ i l m d.
    map_after-ext (g i) (f i) (part inner i) (part outer i - part inner i)
    (λ j q r. o i j (record { row_counts = omega arith; outside = q; within = omega arith }) (λ s. d (s.0 ∙ sym this)))))

pub part-lowered_here : (xs : List ℕ) (row : ℕ) → 1 ≤ row → part (without_last_zeros (lowered_at row xs)) row ≡ part xs row - 1
part-lowered_here xs zero h = absurd (omega arith)
part-lowered_here xs (suc i) h = search (rules, get_or-without_last_zeros, get_or-lowered)

pub part-lowered_there :
    (xs : List ℕ) (row k : ℕ) → 1 ≤ row → 1 ≤ k → (k ≡ row → ⊥) → part (without_last_zeros (lowered_at row xs)) k ≡ part xs k
part-lowered_there xs zero k h l d = absurd (omega arith)
part-lowered_there xs (suc i) k h l d = search (rules, get_or-without_last_zeros, get_or-not_lowered)
