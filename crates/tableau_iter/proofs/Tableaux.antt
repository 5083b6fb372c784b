-- A word is the column reading of a tableau if and only if each of its letters is greater than the letter above, at most the letter on its right, and
-- small enough for the cells below to get letters too (`Stands`).
use Rattle.std.proofs.Common.{◌≡◌, ℕ, zero, suc, ◌+◌, ◌-◌, ◌<◌, ◌≤◌, min, Bool, true, false, ◌&&◌, ◌==◌, cond, nat_lt, List, [], ◌∷◌, map, length, drop, get_or, ◌∙◌, ap, ap₂, sym, refl, subst, inl, inr, arith}
use Rattle.std.proofs.Math.Dec.{eqb-suc-zero}
use Rattle.std.proofs.lemmas.Bool.{cases_lt, le-leb, lt-ltb, ltb-true}
use Rattle.std.proofs.lemmas.List.{length-map, get_or-map}
use Rattle.sym_model.specs.Partition.{IsCell, Falls, part, after}
use Rattle.sym_model.specs.Schur.{row_rises, columns_rise, semistandard, letters_of}
use Rattle.sym_model.specs.GoodTableau.{every}
use Rattle.sym_model.specs.Tableau.{are_letters}
use Rattle.sym_model.specs.TableauList.{reading_cells, letter_of_cell}
use Rattle.sym_model.proofs.AfterLists.{length_after}
use Rattle.strip_laws.proofs.Strips.{falls_part}
use Rattle.strip_laws.proofs.Containment.{cell}
use Rattle.skew_shapes.specs.CellFillings.{filled_with, is_tableau, row_of}
use Rattle.skew_shapes.specs.Rows.{row_by, rows_by}
use Rattle.skew_shapes.specs.RowTests.{row_passes, stands_below}
use Rattle.skew_shapes.proofs.CellRows.{row_of-rows_by}
use Rattle.skew_shapes.proofs.RowOrder.{tests-rows}
use Rattle.tableau_iter.specs.Fits.{Neighbours, floor_at, ceiling_at, IsNeighbour, AreCells, AreNear}
use Rattle.tableau_iter.proofs.Orders.{Among-reading}
use Rattle.tableau_iter.proofs.Neighbours.{cell-at, letter-at, no_above, no_right}
use Rattle.tableau_iter.proofs.Orders.{Once-reading}
use Rattle.tableau_iter.proofs.Places.{place_among, place_unique, above_before, right_before}
use Rattle.sym_model.specs.Bounded.{AreLetters}

pub within-at : (k : ℕ) (w : List ℕ) (p : ℕ) → AreLetters k w → p < length w → (1 ≤ get_or w p 0) × (get_or w p 0 ≤ k)
within-at k [] p h l = absurd (omega arith)
within-at k (a ∷ w) zero h l = h.0
within-at k (a ∷ w) (suc p) h l = within-at k w p h.1 (omega arith)

pub lines-length : (outer inner lines ranks : List ℕ) → AreCells outer inner lines ranks → length lines ≡ length (reading_cells outer inner)
lines-length outer inner lines ranks c =
    ap length c.lines_are ∙ length-map {A = ℕ × ℕ} {B = ℕ} (reading_cells outer inner) (λ (c : ℕ × ℕ). c.0)

-- ---- if w is the reading of a tableau, each letter is greater than `floor_at` and at most `ceiling_at`

floors :
    (k : ℕ) (outer inner w lines ranks : List ℕ) (near : Neighbours) (p : ℕ) → Falls inner → length w ≡ length (reading_cells outer inner)
    → AreCells outer inner lines ranks → AreNear k lines ranks near → AreLetters k w → is_tableau (filled_with outer inner w) ≡ true → p < length w
    → floor_at near.above w p < get_or w p 0
floors k outer inner w lines ranks near p falls l cells n within good h =
    let count = lines-length outer inner lines ranks cells in
    by (get_or near.above p 0) (n.above.each p (omega arith))
  where
    by : (found : ℕ) → IsNeighbour lines ranks p 1 0 found → cond (found == 0) 0 (get_or w (found - 1) 0) < get_or w p 0
    by zero m = let low = (within-at k w p within h).0 in omega (arith, low)
    by (suc q) m =
        let some : 0 < suc q = omega arith in
        let line = m.line some in
        let rank = m.rank some in
        let before = m.within in
        let here : suc q - 1 < length w = omega arith in
        let less : get_or w (suc q - 1) 0 < get_or w p 0 =
        elim (cases_lt (get_or w (suc q - 1) 0) (get_or w p 0)) [
          | inl e ↦ e
          | inr e ↦
              absurd (no_above outer inner w (suc q - 1) p (get_or lines (suc q - 1) 0) (get_or ranks (suc q - 1) 0) falls l here h
              (cell-at (reading_cells outer inner) lines ranks (suc q - 1) (get_or lines (suc q - 1) 0) (get_or ranks (suc q - 1) 0) cells.lines_are cells.ranks_are (omega arith) refl refl)
              (cell-at (reading_cells outer inner) lines ranks p (get_or lines (suc q - 1) 0 + 1) (get_or ranks (suc q - 1) 0) cells.lines_are cells.ranks_are (omega arith) (sym line) (omega (arith, rank)))
              e good)
        ] in
        subst (λ b. cond b 0 (get_or w (suc q - 1) 0) < get_or w p 0) (sym (eqb-suc-zero q)) less

rights :
    (k : ℕ) (outer inner w lines ranks : List ℕ) (near : Neighbours) (p : ℕ) → length w ≡ length (reading_cells outer inner)
    → AreCells outer inner lines ranks → AreNear k lines ranks near → is_tableau (filled_with outer inner w) ≡ true → p < length w
    → get_or w p 0 ≤ get_or near.most p 0 → get_or w p 0 ≤ ceiling_at near.right near.most w p
rights k outer inner w lines ranks near p l cells n good h most =
    let count = lines-length outer inner lines ranks cells in
    by (get_or near.right p 0) (n.right.each p (omega arith))
  where
    by : (found : ℕ) → IsNeighbour lines ranks p 0 1 found
        → get_or w p 0 ≤ cond (found == 0) (get_or near.most p 0) (min (get_or near.most p 0) (get_or w (found - 1) 0))
    by zero m = most
    by (suc q) m =
        let some : 0 < suc q = omega arith in
        let line = m.line some in
        let rank = m.rank some in
        let before = m.within in
        let here : suc q - 1 < length w = omega arith in
        let less : get_or w p 0 ≤ get_or w (suc q - 1) 0 =
        elim (cases_lt (get_or w (suc q - 1) 0) (get_or w p 0)) [
          | inr e ↦ e
          | inl e ↦
              absurd (no_right outer inner w (suc q - 1) p (get_or lines p 0) (get_or ranks p 0) l here h
              (cell-at (reading_cells outer inner) lines ranks (suc q - 1) (get_or lines p 0) (get_or ranks p 0 + 1) cells.lines_are cells.ranks_are (omega arith) (omega (arith, line)) rank)
              (cell-at (reading_cells outer inner) lines ranks p (get_or lines p 0) (get_or ranks p 0) cells.lines_are cells.ranks_are (omega arith) refl refl)
              e good)
        ] in
        subst (λ b. get_or w p 0 ≤ cond b (get_or near.most p 0) (min (get_or near.most p 0) (get_or w (suc q - 1) 0))) (sym (eqb-suc-zero q)) (omega (arith, less, most))

chain :
    (above w : List ℕ) (p count d : ℕ) → ((q : ℕ) → q < length w → floor_at above w q < get_or w q 0)
    → ((d : ℕ) → d < count → (p + d + 1 < length above) × (get_or above (p + d + 1) 0 ≡ p + d + 1)) → length above ≡ length w → d ≤ count
    → get_or w p 0 + d ≤ get_or w (p + d) 0
chain above w p count zero f run l h =
    let same : p + 0 ≡ p = omega arith in
    omega (arith, ap (λ n. get_or w n 0) same)
chain above w p count (suc d) f run l h =
    let before = chain above w p count d f run l (omega arith) in
    let step = run d (omega arith) in
    let next : p + d + 1 ≡ p + suc d = omega arith in
    let at : get_or above (p + suc d) 0 ≡ suc (p + d) = sym (ap (λ n. get_or above n 0) next) ∙ step.1 ∙ omega arith in
    let floor : floor_at above w (p + suc d) ≡ get_or w (p + d) 0 =
    ap (λ n. cond (n == 0) 0 (get_or w (n - 1) 0)) at
    ∙ ap (λ b. cond b 0 (get_or w (suc (p + d) - 1) 0)) (eqb-suc-zero (p + d))
    ∙ ap (λ n. get_or w n 0) (omega arith) in
    omega (arith, before, floor, f (p + suc d) (omega (arith, step.0)))

mosts :
    (k : ℕ) (w lines ranks : List ℕ) (near : Neighbours) (p : ℕ) → AreNear k lines ranks near → length lines ≡ length w → AreLetters k w
    → ((q : ℕ) → q < length w → floor_at near.above w q < get_or w q 0) → p < length w → get_or w p 0 ≤ get_or near.most p 0
mosts k w lines ranks near p n l within f h =
    let g = n.most p (omega arith) in
    let places = n.above.places in
    by g.count g.value g.run
  where
    by : (count : ℕ) → get_or near.most p 0 ≡ k - count
        → ((d : ℕ) → d < count → (p + d + 1 < length near.above) × (get_or near.above (p + d + 1) 0 ≡ p + d + 1)) → get_or w p 0 ≤ get_or near.most p 0
    by zero value run = let high = (within-at k w p within h).1 in omega (arith, value, high)
    by (suc count) value run =
        let places = n.above.places in
        let last = run count (omega arith) in
        let inside : p + suc count < length w = omega (arith, last.0) in
        let all = chain near.above w p (suc count) (suc count) f run (omega arith) (omega arith) in
        omega (arith, value, all, (within-at k w (p + suc count) within inside).1)

-- the letter of w at the index p is greater than the letter above it, at most the letter on its right, and at most the entry of `near.most` at p
abbrev pub Stands : Neighbours → List ℕ → ℕ → Type 0
Stands near w p = (floor_at near.above w p < get_or w p 0) × (get_or w p 0 ≤ ceiling_at near.right near.most w p)

pub stands-tableau :
    (k : ℕ) (outer inner w lines ranks : List ℕ) (near : Neighbours) (p : ℕ) → Falls inner → length w ≡ length (reading_cells outer inner)
    → AreCells outer inner lines ranks → AreNear k lines ranks near → AreLetters k w → is_tableau (filled_with outer inner w) ≡ true → p < length w
    → Stands near w p
stands-tableau k outer inner w lines ranks near p falls l cells n within good h =
    let count = lines-length outer inner lines ranks cells in
    let f : (q : ℕ) → q < length w → floor_at near.above w q < get_or w q 0 =
    λ q m. floors k outer inner w lines ranks near q falls l cells n within good m in
    (f p h, rights k outer inner w lines ranks near p l cells n good h (mosts k w lines ranks near p n (omega arith) within f h))

-- ---- words in which each letter is within its bounds (`Stands`) are readings of tableaux

letters-from : (g : ℕ → ℕ) (a m : ℕ) → ((j : ℕ) → a < j → j ≤ a + m → 1 ≤ g j) → are_letters (map g (after a m)) ≡ true
letters-from g a zero h = refl
letters-from g a (suc m) h =
    ap₂ (λ x y. x && y) (le-leb 1 (g (a + 1)) (h (a + 1) (omega arith) (omega arith))) (letters-from g (a + 1) m (λ j l r. h j (omega arith) (omega arith)))

rises-from : (g : ℕ → ℕ) (a m : ℕ) → ((j : ℕ) → a < j → j + 1 ≤ a + m → g j ≤ g (j + 1)) → row_rises (map g (after a m)) ≡ true
rises-from g a zero h = refl
rises-from g a (suc zero) h = refl
rises-from g a (suc (suc m)) h =
    ap₂ (λ x y. x && y) (le-leb (g (a + 1)) (g (a + 1 + 1)) (h (a + 1) (omega arith) (omega arith)))
    (rises-from g (a + 1) (suc m) (λ j l r. h j (omega arith) (omega arith)))

columns-from :
    (f g : ℕ → ℕ) (a m l : ℕ) → ((j : ℕ) → a < j → j ≤ a + m → j ≤ a + l → f j < g j) → columns_rise (map f (after a m)) (map g (after a l)) ≡ true
columns-from f g a zero l h = refl
columns-from f g a (suc m) zero h = refl
columns-from f g a (suc m) (suc l) h =
    ap₂ (λ x y. x && y) (lt-ltb (f (a + 1)) (g (a + 1)) (h (a + 1) (omega arith) (omega arith) (omega arith)))
    (columns-from f g (a + 1) m l (λ j q r s. h j (omega arith) (omega arith) (omega arith)))

drop-after : (g : ℕ → ℕ) (s b m : ℕ) → drop s (map g (after b m)) ≡ map g (after (b + s) (m - s))
drop-after g zero b m =
    let from : b ≡ b + 0 = omega arith in
    let count : m ≡ m - 0 = omega arith in
    ap₂ (λ x y. map g (after x y)) from count
drop-after g (suc s) b zero =
    let none : 0 ≡ 0 - suc s = omega arith in
    ap (λ n. map g (after (b + suc s) n)) none
drop-after g (suc s) b (suc m) =
    let from : b + 1 + s ≡ b + suc s = omega arith in
    let count : m - s ≡ suc m - suc s = omega arith in
    drop-after g s (b + 1) m ∙ ap₂ (λ x y. map g (after x y)) from count

every-from : (test : ℕ → Bool) (a k : ℕ) → ((j : ℕ) → a < j → j ≤ a + k → test j ≡ true) → every test (after a k) ≡ true
every-from test a zero h = refl
every-from test a (suc k) h =
    ap₂ (λ x y. x && y) (h (a + 1) (omega arith) (omega arith)) (every-from test (a + 1) k (λ j l r. h j (omega arith) (omega arith)))

-- f is positive on the cells, weakly increasing along the rows and strictly increasing down the columns
pub record Rise (f : ℕ → ℕ → ℕ) (outer inner : List ℕ) : Type 0 where
  pub positive : (i j : ℕ) → IsCell outer inner i j → 1 ≤ f i j
  pub right : (r j : ℕ) → IsCell outer inner (r + 1) j → IsCell outer inner (r + 1) (j + 1) → f (r + 1) j ≤ f (r + 1) (j + 1)
  pub above : (r j : ℕ) → IsCell outer inner (r + 1) j → IsCell outer inner (r + 1 + 1) j → f (r + 1) j < f (r + 1 + 1) j

length-rows_by : (f : ℕ → ℕ → ℕ) (outer inner : List ℕ) → length (rows_by f outer inner) ≡ length outer
length-rows_by f outer inner = length-map (after 0 (length outer)) (row_by f outer inner) ∙ length_after 0 (length outer)

stands-row :
    (f : ℕ → ℕ → ℕ) (outer inner : List ℕ) (r : ℕ) → Rise f outer inner → Falls inner → r + 1 < length outer
    → stands_below inner (rows_by f outer inner) (r + 1) ≡ true
stands-row f outer inner r rise falls l =
    let first : 1 ≤ r + 1 = omega arith in
    let second : 1 ≤ r + 1 + 1 = omega arith in
    let less = falls_part inner falls (r + 1) first in
    let shift = part inner (r + 1) - part inner (r + 1 + 1) in
    let m = part outer (r + 1) - part inner (r + 1) in
    let n = part outer (r + 1 + 1) - part inner (r + 1 + 1) in
    let from : part inner (r + 1 + 1) + (part inner (r + 1) - part inner (r + 1 + 1)) ≡ part inner (r + 1) = omega arith in
    ap₂ (λ x y. columns_rise x (drop (part inner (r + 1) - part inner (r + 1 + 1)) y)) (row_of-rows_by f outer inner (r + 1) first (omega arith))
    (row_of-rows_by f outer inner (r + 1 + 1) second (omega arith))
    ∙ ap (columns_rise (row_by f outer inner (r + 1)))
    (drop-after (f (r + 1 + 1)) shift (part inner (r + 1 + 1)) n ∙ ap (λ x. map (f (r + 1 + 1)) (after x (n - shift))) from)
    ∙ columns-from (f (r + 1)) (f (r + 1 + 1)) (part inner (r + 1)) m (n - shift)
    (λ j p q s.
    rise.above r j (cell outer inner (r + 1) j first p (omega arith)) (cell outer inner (r + 1 + 1) j second (omega arith) (omega arith)))

passes-row :
    (f : ℕ → ℕ → ℕ) (outer inner : List ℕ) (r : ℕ) → Rise f outer inner → Falls inner → r + 1 ≤ length outer
    → row_passes inner (rows_by f outer inner) (r + 1) ≡ true
passes-row f outer inner r rise falls l =
    let T = rows_by f outer inner in
    let first : 1 ≤ r + 1 = omega arith in
    let a = part inner (r + 1) in
    let m = part outer (r + 1) - part inner (r + 1) in
    let row = row_of-rows_by f outer inner (r + 1) first l in
    let letters : are_letters (row_of T (r + 1)) ≡ true =
    ap are_letters row ∙ letters-from (f (r + 1)) a m (λ j p q. rise.positive (r + 1) j (cell outer inner (r + 1) j first p (omega arith))) in
    let rises : row_rises (row_of T (r + 1)) ≡ true =
    ap row_rises row
    ∙ rises-from (f (r + 1)) a m
    (λ j p q. rise.right r j (cell outer inner (r + 1) j first p (omega arith)) (cell outer inner (r + 1) (j + 1) first (omega arith) (omega arith))) in
    ap₂ (λ x y. x && (y && cond (nat_lt (r + 1) (length T)) (stands_below inner T (r + 1)) true)) letters rises
    ∙ by (nat_lt (r + 1) (length T))
    (λ e. stands-row f outer inner r rise falls (omega (arith, ltb-true (r + 1) (length T) e, length-rows_by f outer inner)))
  where
    by : (b : Bool) → (b ≡ true → stands_below inner (rows_by f outer inner) (r + 1) ≡ true) → cond b (stands_below inner (rows_by f outer inner) (r + 1)) true ≡ true
    by true e = e refl
    by false e = refl

rise-tableau :
    (f : ℕ → ℕ → ℕ) (outer inner : List ℕ) → Rise f outer inner → Falls inner
    → (are_letters (letters_of (rows_by f outer inner)) && semistandard inner (rows_by f outer inner)) ≡ true
rise-tableau f outer inner rise falls =
    let T = rows_by f outer inner in
    tests-rows inner T ∙ ap (λ n. every (row_passes inner T) (after 0 n)) (length-rows_by f outer inner)
    ∙ every-from (row_passes inner T) 0 (length outer)
    (λ i p q.
    let before : i ≡ i - 1 + 1 = omega arith in
    ap (row_passes inner T) before ∙ passes-row f outer inner (i - 1) rise falls (omega arith))

line-of :
    (outer inner lines ranks : List ℕ) (q i j : ℕ) → AreCells outer inner lines ranks → q < length (reading_cells outer inner)
    → get_or (reading_cells outer inner) q (i, j) ≡ (i, j) → (get_or lines q 0 ≡ i) × (get_or ranks q 0 ≡ j)
line-of outer inner lines ranks q i j c h e = (
  ap (λ xs. get_or xs q 0) c.lines_are ∙ get_or-map (λ (c : ℕ × ℕ). c.0) (reading_cells outer inner) q (i, j) 0 h ∙ ap (λ (c : ℕ × ℕ). c.0) e,
  ap (λ xs. get_or xs q 0) c.ranks_are ∙ get_or-map (λ (c : ℕ × ℕ). c.1) (reading_cells outer inner) q (i, j) 0 h ∙ ap (λ (c : ℕ × ℕ). c.1) e,
)

same_place :
    (outer inner lines ranks : List ℕ) (q p i j : ℕ) → AreCells outer inner lines ranks → q < length (reading_cells outer inner)
    → p < length (reading_cells outer inner) → get_or (reading_cells outer inner) q (i, j) ≡ (i, j) → get_or lines p 0 ≡ i → get_or ranks p 0 ≡ j → q ≡ p
same_place outer inner lines ranks q p i j c h l e a b =
    place_unique (reading_cells outer inner) q p (i, j) (Once-reading outer inner) h l e
    (cell-at (reading_cells outer inner) lines ranks p i j c.lines_are c.ranks_are l a b)

above-less :
    (k : ℕ) (outer inner w lines ranks : List ℕ) (near : Neighbours) (p q r j : ℕ) → AreCells outer inner lines ranks → AreNear k lines ranks near
    → p < length (reading_cells outer inner) → q < p → get_or (reading_cells outer inner) q (r + 1, j) ≡ (r + 1, j)
    → get_or (reading_cells outer inner) p (r + 1 + 1, j) ≡ (r + 1 + 1, j) → floor_at near.above w p < get_or w p 0 → get_or w q 0 < get_or w p 0
above-less k outer inner w lines ranks near p q r j cells n h before d e floor =
    let count = lines-length outer inner lines ranks cells in
    let here = line-of outer inner lines ranks p (r + 1 + 1) j cells h e in
    let there = line-of outer inner lines ranks q (r + 1) j cells (omega arith) d in
    by (get_or near.above p 0) (n.above.each p (omega arith)) floor here.0 here.1 there.0 there.1
  where
    by : (found : ℕ) → IsNeighbour lines ranks p 1 0 found → cond (found == 0) 0 (get_or w (found - 1) 0) < get_or w p 0
        → get_or lines p 0 ≡ r + 1 + 1 → get_or ranks p 0 ≡ j → get_or lines q 0 ≡ r + 1 → get_or ranks q 0 ≡ j → get_or w q 0 < get_or w p 0
    by zero m f a b c d = absurd (m.none refl q before (omega arith) (omega arith))
    by (suc s) m f a b c e =
        let some : 0 < suc s = omega arith in
        let line = m.line some in
        let rank = m.rank some in
        let within = m.within in
        let same : q ≡ suc s - 1 =
        same_place outer inner lines ranks q (suc s - 1) (r + 1) j cells (omega arith) (omega arith) d (omega (arith, line)) (omega (arith, rank)) in
        let less = subst (λ b. cond b 0 (get_or w (suc s - 1) 0) < get_or w p 0) (eqb-suc-zero s) f in
        omega (arith, less, ap (λ n. get_or w n 0) same)

right-least :
    (k : ℕ) (outer inner w lines ranks : List ℕ) (near : Neighbours) (p q r j : ℕ) → AreCells outer inner lines ranks → AreNear k lines ranks near
    → p < length (reading_cells outer inner) → q < p → get_or (reading_cells outer inner) q (r + 1, j + 1) ≡ (r + 1, j + 1)
    → get_or (reading_cells outer inner) p (r + 1, j) ≡ (r + 1, j) → get_or w p 0 ≤ ceiling_at near.right near.most w p → get_or w p 0 ≤ get_or w q 0
right-least k outer inner w lines ranks near p q r j cells n h before d e ceiling =
    let count = lines-length outer inner lines ranks cells in
    let here = line-of outer inner lines ranks p (r + 1) j cells h e in
    let there = line-of outer inner lines ranks q (r + 1) (j + 1) cells (omega arith) d in
    by (get_or near.right p 0) (n.right.each p (omega arith)) ceiling here.0 here.1 there.0 there.1
  where
    by : (found : ℕ) → IsNeighbour lines ranks p 0 1 found
        → get_or w p 0 ≤ cond (found == 0) (get_or near.most p 0) (min (get_or near.most p 0) (get_or w (found - 1) 0))
        → get_or lines p 0 ≡ r + 1 → get_or ranks p 0 ≡ j → get_or lines q 0 ≡ r + 1 → get_or ranks q 0 ≡ j + 1 → get_or w p 0 ≤ get_or w q 0
    by zero m f a b c e = absurd (m.none refl q before (omega arith) (omega arith))
    by (suc s) m f a b c e =
        let some : 0 < suc s = omega arith in
        let line = m.line some in
        let rank = m.rank some in
        let within = m.within in
        let same : q ≡ suc s - 1 =
        same_place outer inner lines ranks q (suc s - 1) (r + 1) (j + 1) cells (omega arith) (omega arith) d (omega (arith, line)) (omega (arith, rank)) in
        let less = subst (λ b. get_or w p 0 ≤ cond b (get_or near.most p 0) (min (get_or near.most p 0) (get_or w (suc s - 1) 0))) (eqb-suc-zero s) f in
        omega (arith, less, ap (λ n. get_or w n 0) same)

pub tableau-stands :
    (k : ℕ) (outer inner w lines ranks : List ℕ) (near : Neighbours) → Falls outer → Falls inner → length w ≡ length (reading_cells outer inner)
    → AreCells outer inner lines ranks → AreNear k lines ranks near → ((p : ℕ) → p < length w → Stands near w p) → is_tableau (filled_with outer inner w) ≡ true
tableau-stands k outer inner w lines ranks near falls inside l cells n stands =
    rise-tableau (λ i j. letter_of_cell i j (reading_cells outer inner) w) outer inner
    (record {
      positive =
          λ i j c.
          let at = place i j c in
          let h = at.1 in
          omega (arith, (stands at.0 (omega arith)).0, letter-at outer inner w at.0 i j l (omega arith) (at.2 (i, j)));
      right =
          λ r j c d.
          let p = place (r + 1) j c in
          let q = place (r + 1) (j + 1) d in
          let h = p.1 in
          let m = q.1 in
          let before = right_before outer inner r j p.0 q.0 falls c d h m (q.2 (r + 1, j + 1)) (p.2 (r + 1, j)) in
          omega (
            arith,
            right-least k outer inner w lines ranks near p.0 q.0 r j cells n h before (q.2 (r + 1, j + 1)) (p.2 (r + 1, j)) (stands p.0 (omega arith)).1,
            letter-at outer inner w p.0 (r + 1) j l (omega arith) (p.2 (r + 1, j)),
            letter-at outer inner w q.0 (r + 1) (j + 1) l (omega arith) (q.2 (r + 1, j + 1)),
          );
      above =
          λ r j c d.
          let q = place (r + 1) j c in
          let p = place (r + 1 + 1) j d in
          let h = p.1 in
          let m = q.1 in
          let before = above_before outer inner r j p.0 q.0 falls c d h m (q.2 (r + 1, j)) (p.2 (r + 1 + 1, j)) in
          omega (
            arith,
            above-less k outer inner w lines ranks near p.0 q.0 r j cells n h before (q.2 (r + 1, j)) (p.2 (r + 1 + 1, j)) (stands p.0 (omega arith)).0,
            letter-at outer inner w q.0 (r + 1) j l (omega arith) (q.2 (r + 1, j)),
            letter-at outer inner w p.0 (r + 1 + 1) j l (omega arith) (p.2 (r + 1 + 1, j)),
          );
    })
    inside
  where
    place : (i j : ℕ) → IsCell outer inner i j → (q : ℕ) × (q < length (reading_cells outer inner)) × ((d : ℕ × ℕ) → get_or (reading_cells outer inner) q d ≡ (i, j))
    place i j c = place_among (i, j) (reading_cells outer inner) (Among-reading outer inner i j falls c)
