-- Rows are added to a *sum*, a list of n numbers. If the places of a row are filled in all ways with letters up to t, `filled` is the sum of f over
-- the results. Here are rows after which some number of the sum is too small to become as great as the number of a bound (a list of numbers) at the
-- same index, whatever rows follow. Also the number of cells of the rows below.
use Rattle.std.proofs.Common.{◌≡◌, ℕ, zero, suc, ◌+◌, ◌-◌, ◌<◌, ◌≤◌, ◌⊎◌, inl, inr, nat_le, nat_lt, min, Bool, cond, List, [], ◌∷◌, ◌++◌, length, take, drop, get_or, refl, sym, ap, ◌∙◌, arith, rules}
use Rattle.std.proofs.lemmas.Bool.{cases_lt, lt-ltb, le-ltb}
use Rattle.sym_model.specs.Sum.{sum_by}
use Rattle.sym_model.specs.Partition.{part}
use Rattle.tableau_laws.specs.Grid.{may_precede}
use Rattle.lr_product.specs.Extension.{numbers_from, mark}
use Rattle.lr_product.specs.RowExtension.{added, filled, next_row, over_rows, least_left, most_left, cell_count, VanishesBelow}
use Rattle.lr_product.proofs.Pruned.{numbers-zero}
use Rattle.lr_product.proofs.RowFilling.{length_put, most_within}
use Rattle.std.proofs.lemmas.List.{get_or_append_left, get_or-take, length-take-le}
use Rattle.sym_model.proofs.Lists.{drop-none}
use Rattle.sym_model.proofs.Numbers.{zero_either}

pub get-added_other : (t i j : ℕ) (s w : List ℕ) → t < j → j < length s → get_or (added t i s ++ w) j 0 ≡ get_or s j 0
get-added_other t i j [] w h l = absurd (omega arith)
get-added_other zero i zero (a ∷ s) w h l = absurd (omega arith)
get-added_other zero i (suc j) (a ∷ s) w h l = get_or_append_left s w 0 j (omega arith)
get-added_other (suc t) i zero (a ∷ s) w h l = absurd (omega arith)
get-added_other (suc t) i (suc j) (a ∷ s) w h l = get-added_other t i j s w (omega arith) (omega arith)

pub get-added_at : (t i : ℕ) (s w : List ℕ) → t < length s → get_or (added t i s ++ w) t 0 ≡ get_or s t 0 + i
get-added_at t i [] w l = absurd (omega arith)
get-added_at zero i (a ∷ s) w l = refl
get-added_at (suc t) i (a ∷ s) w l = get-added_at t i s w (omega arith)

get-added_most : (t i j : ℕ) (s w : List ℕ) → j < length s → get_or (added t i s ++ w) j 0 ≤ get_or s j 0 + i
get-added_most t i j [] w l = absurd (omega arith)
get-added_most zero i zero (a ∷ s) w l = omega arith
get-added_most zero i (suc j) (a ∷ s) w l = let e = get_or_append_left s w 0 j (omega arith) in omega arith
get-added_most (suc t) i zero (a ∷ s) w l = omega arith
get-added_most (suc t) i (suc j) (a ∷ s) w l = get-added_most t i j s w (omega arith)

-- let f be 0 at each sum in which some number, plus m, is less than the number of the bound at the same index (`VanishesBelow`). If t ≤ j, and the
-- number at the index j, plus m, is less than that of the bound, then `filled` for letters up to t is 0, since these letters do not change this
-- number
pub below_fixed : (kept : Bool) (n out t k m j : ℕ) (above bound : List ℕ) (f : List ℕ → List ℕ → ℕ) (s : List ℕ) → VanishesBelow n m bound f → t ≤ j → j < n → n ≤ length s
    → j < length bound → get_or s j 0 + m < get_or bound j 0 → filled kept n out t k above f s ≡ 0
below_fixed kept n out zero k m j above bound f s v h l g b q = v (take n s) (drop n s) j (length-take-le n s g) b (let e = get_or-take n s j 0 l in omega arith)
below_fixed kept n out (suc t) k m j above bound f s v h l g b q =
    numbers-zero (λ left. filled kept n out t left (drop 1 above) f (added t (k - left) s ++ mark kept left)) (least_left out t k s) (most_left out t k above + 1 - least_left out t k s)
    (λ left low high.
    let e = length_put kept t (k - left) left s in
    let d = get-added_other t (k - left) j s (mark kept left) (omega arith) (omega arith) in
    below_fixed kept n out t left m j (drop 1 above) bound f (added t (k - left) s ++ mark kept left) v (omega arith) l (omega arith) b (omega arith))

below_filled : (kept : Bool) (n out t k m j : ℕ) (above bound : List ℕ) (f : List ℕ → List ℕ → ℕ) (s : List ℕ) → VanishesBelow n m bound f → j < n → n ≤ length s → j < length bound
    → get_or s j 0 + (m + (k - out)) < get_or bound j 0 → filled kept n out t k above f s ≡ 0
below_filled kept n out zero k m j above bound f s v l g b q = v (take n s) (drop n s) j (length-take-le n s g) b (let e = get_or-take n s j 0 l in omega arith)
below_filled kept n out (suc t) k m j above bound f s v l g b q =
    numbers-zero (λ left. filled kept n out t left (drop 1 above) f (added t (k - left) s ++ mark kept left)) (least_left out t k s) (most_left out t k above + 1 - least_left out t k s)
    (λ left low high.
    let e = length_put kept t (k - left) left s in
    let d = get-added_most t (k - left) j s (mark kept left) (omega arith) in
    let h = together t above left low high in
    below_filled kept n out t left m j (drop 1 above) bound f (added t (k - left) s ++ mark kept left) v l (omega arith) b (omega arith))
  where
    together : (t' : ℕ) (a : List ℕ) (left : ℕ) → least_left out t' k s ≤ left → left < least_left out t' k s + (most_left out t' k a + 1 - least_left out t' k s) → (k - left) + (left - out) ≤ k - out
    together zero a left low high = omega arith
    together (suc t') [] left low high = omega arith
    together (suc t') (x ∷ a) left low high = omega arith

below_row : (n : ℕ) (kept : Bool) (out k m : ℕ) (bound : List ℕ) (f : List ℕ → List ℕ → ℕ) → length bound ≤ n → VanishesBelow n m bound f → VanishesBelow n (m + (k - out)) bound (next_row n kept out k f)
below_row n kept out k m bound f l v ν above j e b h =
    zero_either (may_precede nat_le k above) (below_filled kept n out n k m j (drop 1 above) bound f ν v (omega arith) (omega arith) b h)

pub below_rows : (n : ℕ) (outer inner bound : List ℕ) (F : List ℕ → List ℕ → ℕ) → length bound ≤ n → VanishesBelow n 0 bound F → VanishesBelow n (cell_count outer inner) bound (over_rows n outer inner F)
below_rows n [] inner bound F l v = v
below_rows n (a ∷ outer) inner bound F l v =
    below_row n (nat_lt 0 (length outer)) (part inner 1) a (cell_count outer (drop 1 inner)) bound (over_rows n outer (drop 1 inner) F) l (below_rows n outer (drop 1 inner) bound F l v)

pub none_below : (n m : ℕ) (f : List ℕ → List ℕ → ℕ) → VanishesBelow n m [] f
none_below n m f ν right j e b h = absurd (omega arith)

pub numbers-cut : (X : ℕ → ℕ) (low a d : ℕ) → ((x : ℕ) → low + a ≤ x → x < low + a + d → X x ≡ 0) → sum_by X (numbers_from low (a + d)) ≡ sum_by X (numbers_from low a)
numbers-cut X low zero d none = numbers-zero X low (0 + d) (λ x g h. none x (omega arith) (omega arith))
numbers-cut X low (suc a) d none =
    let e : suc a + d ≡ suc (a + d) = omega arith in
    ap (λ k. sum_by X (numbers_from low k)) e
    ∙ ap (λ y. X low + y) (numbers-cut X (low + 1) a d (λ x g h. none x (omega arith) (omega arith)))

-- let f be 0 at each sum in which some number, plus m, is less than the number of the bound at the same index (`VanishesBelow`). In the recursion of
-- `filled`, the number x of places that are left for letters up to t may be restricted to x < end: for x ≥ end the number at the index t stays too
-- small
pub bounded_end : (kept : Bool) (n out t k m : ℕ) (above bound : List ℕ) (f : List ℕ → List ℕ → ℕ) (s : List ℕ) (low most end : ℕ) → VanishesBelow n m bound f → out ≤ k → t < n → n ≤ length s
    → most ≡ most_left out t k above
    → end ≡ min (cond (nat_lt t (length bound)) ((k + 1) - ((get_or bound t 0 - get_or s t 0) - m)) (k + 1)) (most + 1)
    → sum_by (λ x. filled kept n out t x (drop 1 above) f (added t (k - x) s ++ mark kept x)) (numbers_from low (end - low))
    ≡ sum_by (λ x. filled kept n out t x (drop 1 above) f (added t (k - x) s ++ mark kept x)) (numbers_from low (most_left out t k above + 1 - low))
bounded_end kept n out t k m above bound f s low most end v o l g is e =
    let a : most_left out t k above + 1 - low ≡ (end - low) + (most_left out t k above + 1 - low - (end - low)) = omega arith in
    sym (ap (λ d. sum_by X (numbers_from low d)) a
    ∙ numbers-cut X low (end - low) (most_left out t k above + 1 - low - (end - low)) (λ x h q. by x (cases_lt t (length bound)) (omega arith) (omega arith)))
  where
    X : ℕ → ℕ
    X x = filled kept n out t x (drop 1 above) f (added t (k - x) s ++ mark kept x)

    by : (x : ℕ) → (t < length bound) ⊎ (length bound ≤ t) → end ≤ x → x ≤ most_left out t k above → X x ≡ 0
    by x (inl b) h q =
        let w = most_within out t k above o in
        let c = ap (λ u. cond {A = ℕ} u ((k + 1) - ((get_or bound t 0 - get_or s t 0) - m)) (k + 1)) (lt-ltb t (length bound) b) in
        let p = length_put kept t (k - x) x s in
        let d = get-added_at t (k - x) s (mark kept x) (omega arith) in
        below_fixed kept n out t x m t (drop 1 above) bound f (added t (k - x) s ++ mark kept x) v (omega arith) l (omega arith) b (omega arith)
    by x (inr b) h q =
        let w = most_within out t k above o in
        let c = ap (λ u. cond {A = ℕ} u ((k + 1) - ((get_or bound t 0 - get_or s t 0) - m)) (k + 1)) (le-ltb t (length bound) b) in
        absurd (omega arith)

pub cells_front : (row : ℕ) (outer inner : List ℕ) → row < length outer
    → cell_count (drop row outer) (drop row inner) ≡ cell_count (drop (row + 1) outer) (drop (row + 1) inner) + (get_or outer row 0 - get_or inner row 0)
cells_front row [] inner l = absurd (omega arith)
cells_front zero (a ∷ outer) [] l = ap (λ o. cell_count o [] + (a - 0)) (sym (drop-none outer))
cells_front zero (a ∷ outer) (b ∷ inner) l = ap (λ o. cell_count o (drop 0 inner) + (a - b)) (sym (drop-none outer))
cells_front (suc row) (a ∷ outer) [] l =
    let e : suc row + 1 ≡ suc (row + 1) = omega arith in
    ap (cell_count (drop row outer)) (nothing row) ∙ cells_front row outer [] (omega arith)
    ∙ ap (λ i. cell_count (drop (row + 1) outer) i + (get_or outer row 0 - 0)) (nothing' (row + 1) ∙ sym (nothing' (suc row + 1)))
    ∙ ap (λ k. cell_count (drop k (a ∷ outer)) (drop (suc row + 1) []) + (get_or outer row 0 - 0)) (sym e)
  where
    nothing : (k : ℕ) → drop {A = ℕ} (suc k) [] ≡ drop k []
    nothing zero = refl
    nothing (suc k) = refl

    nothing' : (k : ℕ) → drop {A = ℕ} k [] ≡ []
    nothing' zero = refl
    nothing' (suc k) = refl
cells_front (suc row) (a ∷ outer) (b ∷ inner) l = search (rules, (cells_front row outer inner (omega arith)))
