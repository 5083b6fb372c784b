-- For each i and j, take those of the letters w(1), .., w(i) that are at most j, and the shape of their insertion tableau. These shapes follow the
-- local rule of growth.
use Rattle.std.proofs.Common.{◌≡◌, ℕ, zero, suc, ◌-◌, ◌<◌, ◌≤◌, ◌==◌, Bool, true, false, cond, List, [], ◌∷◌, ◌++◌, length, take, drop, get_or, Some, ◌∙◌, ap, ap₂, sym, refl, subst, inl, inr, arith, append_assoc, append-nil, nat_le}
use Rattle.std.proofs.lemmas.Bool.{cases_lt, cases_eq, le-leb, lt-leb, eq-eqb, ne_eqb}
use Rattle.std.proofs.lemmas.List.{length-map, take-append-drop, get_or_default}
use Rattle.std.proofs.Math.Seq.{take-suc}
use Rattle.sym_model.specs.Insertion.{inserted}
use Rattle.sym_model.specs.Permutation.{letter}
use Rattle.sym_model.specs.Schur.{times_in}
use Rattle.sym_model.specs.Tableau.{shape_of}
use Rattle.sym_model.proofs.Contents.{times_in-append, times_in-last, times_in-last_other}
use Rattle.insertion_laws.specs.Rows.{RowsBelow}
use Rattle.insertion_laws.proofs.InsertedRows.{adds_cell}
use Rattle.sym_model.specs.Growth.{with_cell, at_corner, growth_shape, at_most, with_end}
use Rattle.insertion_laws.proofs.InsertedWords.{inserted_word, word-append}
use Rattle.growth_diagrams.proofs.Cells.{cell_of, cell_long, cell_longer, shape-last, corner-equal, corner-left, corner-right, corner-two, corner-pushed}
use Rattle.growth_diagrams.proofs.LargestLetter.{below_inserted, largest-last, row_of_cell, pushed, stays, beside}

-- ---- the letters of a word that are at most j

at_most-append : (j : ℕ) (v w : List ℕ) → at_most j (v ++ w) ≡ at_most j v ++ at_most j w
at_most-append j [] w = refl
at_most-append j (a ∷ v) w = by (nat_le a j) (at_most-append j v w)
  where
    by : (t : Bool) → at_most j (v ++ w) ≡ at_most j v ++ at_most j w
        → cond t (a ∷ at_most j (v ++ w)) (at_most j (v ++ w)) ≡ cond t (a ∷ at_most j v) (at_most j v) ++ at_most j w
    by true e = ap (λ (u : List ℕ). a ∷ u) e
    by false e = e

-- the tableau with the letter a inserted if a ≤ j; otherwise unchanged
abbrev pub after_letter : ℕ → ℕ → List (List ℕ) → List (List ℕ)
after_letter j a rows = inserted_word rows (at_most j (a ∷ []))

goes_in : (j a : ℕ) (rows : List (List ℕ)) → a ≤ j → after_letter j a rows ≡ inserted rows (Some a)
goes_in j a rows h = ap (λ (t : Bool). inserted_word rows (cond t (a ∷ []) [])) (le-leb a j h)

stays_out : (j a : ℕ) (rows : List (List ℕ)) → j < a → after_letter j a rows ≡ rows
stays_out j a rows h = ap (λ (t : Bool). inserted_word rows (cond t (a ∷ []) [])) (lt-leb a j h)

-- ---- the local rule at one square

-- `large` is `small` if the letter m does not occur in u, and otherwise `small` with m appended to a row
pub data Extends (m : ℕ) (u : List ℕ) (small large : List (List ℕ)) : Type 0 where
  alone : times_in m u ≡ 0 → large ≡ small → Extends m u small large
  ended : 0 < times_in m u → (k : ℕ) → k ≤ length (shape_of small) → large ≡ with_end k m small → Extends m u small large

pub record IsSquare (j a : ℕ) (u : List ℕ) (small large : List (List ℕ)) : Type 0 where
  pub next : Extends (suc j) (u ++ a ∷ []) (after_letter j a small) (after_letter (suc j) a large)
  pub rule : shape_of (after_letter (suc j) a large)
      ≡ at_corner (a == suc j) (shape_of small) (shape_of large) (shape_of (after_letter j a small))

from_parts :
    (j a : ℕ) (u : List ℕ) (small large more last : List (List ℕ)) → after_letter j a small ≡ more → after_letter (suc j) a large ≡ last
    → Extends (suc j) (u ++ a ∷ []) more last
    → shape_of last ≡ at_corner (a == suc j) (shape_of small) (shape_of large) (shape_of more)
    → IsSquare j a u small large
from_parts j a u small large more last e f n r =
    record {
      next = subst (λ x. Extends (suc j) (u ++ a ∷ []) x (after_letter (suc j) a large)) (sym e)
          (subst (λ y. Extends (suc j) (u ++ a ∷ []) more y) (sym f) n);
      rule = ap shape_of f ∙ r ∙ ap (λ (x : List (List ℕ)). at_corner (a == suc j) (shape_of small) (shape_of large) (shape_of x)) (sym e);
    }

square_less :
    (j a : ℕ) (u : List ℕ) (small large : List (List ℕ)) → RowsBelow (suc j) small → a < suc j → Extends (suc j) u small large
    → IsSquare j a u small large
square_less j a u small large b l (alone t e) =
    let c = cell_of (shape_of (inserted small (Some a))) (shape_of small) (adds_cell a small) in
    from_parts j a u small large (inserted small (Some a)) (inserted small (Some a)) (goes_in j a small (omega arith))
    (goes_in (suc j) a large (omega arith) ∙ ap (λ (r : List (List ℕ)). inserted r (Some a)) e)
    (alone (omega (arith, times_in-last_other (suc j) a u (λ f. omega arith))) refl)
    (c.is ∙ sym (corner-right (a == suc j) (row_of_cell a small) (shape_of small))
    ∙ ap₂ (λ (x y : List ℕ). at_corner (a == suc j) (shape_of small) x y) (ap shape_of (sym e)) (sym c.is))
square_less j a u small large b l (ended t k n e) =
    let more = inserted small (Some a) in
    let s = shape_of small in
    let c = cell_of (shape_of more) (shape_of small) (adds_cell a small) in
    let within = c.within in
    let μ : shape_of large ≡ with_cell k (shape_of small) = ap shape_of e ∙ shape-last k (suc j) small in
    let count : length (shape_of small) ≡ length small = length-map small (λ (w : List ℕ). length w) in
    let still : 0 < times_in (suc j) (u ++ a ∷ []) = omega (arith, times_in-last_other (suc j) a u (λ f. omega arith)) in
    let long : length (shape_of small) ≤ length (shape_of more) = omega (arith, cell_long (row_of_cell a small) (shape_of small), ap (λ (x : List ℕ). length x) c.is) in
    elim (beside (suc j) k a small b l (omega arith)) [
      | pushed f g ↦
          let ν : shape_of more ≡ with_cell k s = c.is ∙ ap (λ i. with_cell i s) f in
          from_parts j a u small large more (with_end (suc k) (suc j) more) (goes_in j a small (omega arith))
          (goes_in (suc j) a large (omega arith) ∙ ap (λ (r : List (List ℕ)). inserted r (Some a)) e ∙ g)
          (ended still (suc k) (omega (arith, cell_longer k (shape_of small) n, ap (λ (x : List ℕ). length x) ν)) refl)
          (shape-last (suc k) (suc j) more ∙ ap (with_cell (suc k)) ν ∙ sym (corner-pushed (a == suc j) k s n)
          ∙ ap₂ (λ (x y : List ℕ). at_corner (a == suc j) s x y) (sym μ) (sym ν))
      | stays f g ↦
          from_parts j a u small large more (with_end k (suc j) more) (goes_in j a small (omega arith))
          (goes_in (suc j) a large (omega arith) ∙ ap (λ (r : List (List ℕ)). inserted r (Some a)) e ∙ g)
          (ended still k (omega arith) refl)
          (shape-last k (suc j) more ∙ ap (with_cell k) c.is ∙ sym (corner-two (a == suc j) k (row_of_cell a small) s n within f)
          ∙ ap₂ (λ (x y : List ℕ). at_corner (a == suc j) s x y) (sym μ) (sym c.is))
    ]

square_same :
    (j a : ℕ) (u : List ℕ) (small large : List (List ℕ)) → RowsBelow (suc j) small → a ≡ suc j → times_in (suc j) (u ++ a ∷ []) ≤ 1
    → Extends (suc j) u small large → IsSquare j a u small large
square_same j a u small large b l o (ended t k n e) = absurd (omega (arith, times_in-last (suc j) a u l))
square_same j a u small large b l o (alone t e) =
    let s = shape_of small in
    from_parts j a u small large small (with_end 0 (suc j) small) (stays_out j a small (omega arith))
    (goes_in (suc j) a large (omega arith) ∙ ap₂ (λ (r : List (List ℕ)) (i : ℕ). inserted r (Some i)) e l ∙ largest-last (suc j) small b)
    (ended (omega (arith, times_in-last (suc j) a u l)) 0 (omega arith) refl)
    (shape-last 0 (suc j) small ∙ ap (λ t. cond t (with_cell 0 s) s) (sym (eq-eqb a (suc j) l)) ∙ sym (corner-equal (a == suc j) s)
    ∙ ap (λ (x : List ℕ). at_corner (a == suc j) s x s) (ap shape_of (sym e)))

square_more :
    (j a : ℕ) (u : List ℕ) (small large : List (List ℕ)) → suc j < a → Extends (suc j) u small large → IsSquare j a u small large
square_more j a u small large l (alone t e) =
    let s = shape_of small in
    let d : a ≡ suc j → ⊥ = λ f. omega arith in
    from_parts j a u small large small large (stays_out j a small (omega arith)) (stays_out (suc j) a large l)
    (alone (omega (arith, times_in-last_other (suc j) a u d)) e)
    (ap shape_of e ∙ ap (λ t. cond t (with_cell 0 s) s) (sym (ne_eqb a (suc j) d)) ∙ sym (corner-equal (a == suc j) s)
    ∙ ap (λ (x : List ℕ). at_corner (a == suc j) s x s) (ap shape_of (sym e)))
square_more j a u small large l (ended t k n e) =
    let s = shape_of small in
    let d : a ≡ suc j → ⊥ = λ f. omega arith in
    let μ : shape_of large ≡ with_cell k (shape_of small) = ap shape_of e ∙ shape-last k (suc j) small in
    from_parts j a u small large small large (stays_out j a small (omega arith)) (stays_out (suc j) a large l)
    (ended (omega (arith, times_in-last_other (suc j) a u d)) k n e)
    (μ ∙ sym (corner-left (a == suc j) k s) ∙ ap (λ (x : List ℕ). at_corner (a == suc j) s x s) (sym μ))

pub square :
    (j a : ℕ) (u : List ℕ) (small large : List (List ℕ)) → RowsBelow (suc j) small → times_in (suc j) (u ++ a ∷ []) ≤ 1
    → Extends (suc j) u small large → IsSquare j a u small large
square j a u small large b o h = elim (cases_lt a (suc j)) [
  | inl l ↦ square_less j a u small large b l h
  | inr l ↦ elim (cases_eq a (suc j)) [
    | inl e ↦ square_same j a u small large b e o h
    | inr d ↦ square_more j a u small large (omega arith) h
  ]
]

-- ---- the letters of a word that are at most j, or at most j + 1, are inserted one after another

after-more : (j a : ℕ) (v : List ℕ) (rows : List (List ℕ)) → inserted_word rows (at_most j (a ∷ v)) ≡ inserted_word (after_letter j a rows) (at_most j v)
after-more j a v rows = ap (inserted_word rows) (at_most-append j (a ∷ []) v) ∙ word-append (at_most j (a ∷ [])) (at_most j v) rows

below_after : (j a : ℕ) (rows : List (List ℕ)) → RowsBelow (suc j) rows → RowsBelow (suc j) (after_letter j a rows)
below_after j a rows h = elim (cases_lt a (suc j)) [
  | inl l ↦ subst (RowsBelow (suc j)) (sym (goes_in j a rows (omega arith))) (below_inserted (suc j) a rows l h)
  | inr l ↦ subst (RowsBelow (suc j)) (sym (stays_out j a rows (omega arith))) h
]

few_left : (m : ℕ) (v w : List ℕ) → times_in m (v ++ w) ≤ 1 → times_in m v ≤ 1
few_left m v w h = omega (arith, times_in-append m v w)

extends_run :
    (j : ℕ) (v u : List ℕ) (small large : List (List ℕ)) → RowsBelow (suc j) small → times_in (suc j) (u ++ v) ≤ 1
    → Extends (suc j) u small large
    → Extends (suc j) (u ++ v) (inserted_word small (at_most j v)) (inserted_word large (at_most (suc j) v))
extends_run j [] u small large b o h = subst (λ x. Extends (suc j) x small large) (sym (append-nil u)) h
extends_run j (a ∷ v) u small large b o h =
    let e = append_assoc u (a ∷ []) v in
    let few = subst (λ x. times_in (suc j) x ≤ 1) (sym e) o in
    let n = (square j a u small large b (few_left (suc j) (u ++ a ∷ []) v few) h).next in
    let r = extends_run j v (u ++ a ∷ []) (after_letter j a small) (after_letter (suc j) a large) (below_after j a small b) few n in
    subst (λ x. Extends (suc j) x (inserted_word small (at_most j (a ∷ v))) (inserted_word large (at_most (suc j) (a ∷ v)))) e
    (subst (λ x. Extends (suc j) ((u ++ a ∷ []) ++ v) x (inserted_word large (at_most (suc j) (a ∷ v)))) (sym (after-more j a v small))
    (subst (λ y. Extends (suc j) ((u ++ a ∷ []) ++ v) (inserted_word (after_letter j a small) (at_most j v)) y) (sym (after-more (suc j) a v large)) r))

-- the insertion tableau of those letters of u that are at most j
abbrev pub tableau_of : ℕ → List ℕ → List (List ℕ)
tableau_of j u = inserted_word [] (at_most j u)

pub extends : (j : ℕ) (u : List ℕ) → times_in (suc j) u ≤ 1 → Extends (suc j) u (tableau_of j u) (tableau_of (suc j) u)
extends j u h = extends_run j u [] [] [] tt h (alone refl refl)

pub below_run : (j : ℕ) (v : List ℕ) (rows : List (List ℕ)) → RowsBelow (suc j) rows → RowsBelow (suc j) (inserted_word rows (at_most j v))
below_run j [] rows h = h
below_run j (a ∷ v) rows h =
    subst (RowsBelow (suc j)) (sym (after-more j a v rows)) (below_run j v (after_letter j a rows) (below_after j a rows h))

-- ---- the local rule in the whole growth grid

-- no letter occurs twice in the word
abbrev pub AreDifferent : List ℕ → Type 0
AreDifferent w = (k : ℕ) → times_in k w ≤ 1

tableau-last : (j a : ℕ) (u : List ℕ) → tableau_of j (u ++ a ∷ []) ≡ after_letter j a (tableau_of j u)
tableau-last j a u = ap (inserted_word []) (at_most-append j u (a ∷ [])) ∙ word-append (at_most j u) (at_most j (a ∷ [])) []

-- the shape of the insertion tableau of those of the first i letters of w that are at most j
abbrev pub shape_at : List ℕ → ℕ → ℕ → List ℕ
shape_at w i j = shape_of (tableau_of j (take i w))

few_taken : (w : List ℕ) (i : ℕ) → AreDifferent w → AreDifferent (take i w)
few_taken w i h k = few_left k (take i w) (drop i w) (subst (λ x. times_in k x ≤ 1) (sym (take-append-drop i w)) (h k))

square_rule : (w : List ℕ) (i j : ℕ) → AreDifferent w → i < length w
    → shape_at w (suc i) (suc j) ≡ at_corner (get_or w i 0 == suc j) (shape_at w i j) (shape_at w i (suc j)) (shape_at w (suc i) j)
square_rule w i j h l =
    let u = take i w in
    let a = get_or w i 0 in
    let e : take (suc i) w ≡ u ++ a ∷ [] = take-suc w i 0 l in
    let few = subst (λ x. times_in (suc j) x ≤ 1) e (few_taken w (suc i) h (suc j)) in
    let s = square j a u (tableau_of j u) (tableau_of (suc j) u) (below_run j u [] tt) few (extends j u (few_taken w i h (suc j))) in
    ap (λ x. shape_of (tableau_of (suc j) x)) e ∙ ap shape_of (tableau-last (suc j) a u) ∙ s.rule
    ∙ ap (λ (x : List (List ℕ)). at_corner (a == suc j) (shape_at w i j) (shape_at w i (suc j)) (shape_of x)) (sym (tableau-last j a u))
    ∙ ap (λ x. at_corner (a == suc j) (shape_at w i j) (shape_at w i (suc j)) (shape_of (tableau_of j x))) (sym e)

none_at_most : (w : List ℕ) → times_in 0 w ≡ 0 → at_most 0 w ≡ []
none_at_most [] h = refl
none_at_most (zero ∷ w) h = absurd (omega arith)
none_at_most (suc a ∷ w) h =
    ap (λ t. cond t (suc a ∷ at_most 0 w) (at_most 0 w)) (lt-leb (suc a) 0 (omega arith)) ∙ none_at_most w (omega arith)

-- the shapes are empty for i = 0 and for j = 0, and follow the local rule of growth at each square of the grid of w
pub record AreGrown (w : List ℕ) (shape : ℕ → ℕ → List ℕ) : Type 0 where
  pub left_edge : (i : ℕ) → shape i 0 ≡ []
  pub top_edge : (j : ℕ) → shape 0 j ≡ []
  pub squares : (i j : ℕ) → i < length w → j < length w
      → shape (suc i) (suc j) ≡ at_corner (letter w (suc i) == suc j) (shape i j) (shape i (suc j)) (shape (suc i) j)

pub shapes_grown : (w : List ℕ) → AreDifferent w → times_in 0 w ≡ 0 → AreGrown w (shape_at w)
shapes_grown w d z =
    record {
      left_edge = λ i.
          let e : times_in 0 (take i w) ≡ 0 = omega (arith, times_in-append 0 (take i w) (drop i w), ap (times_in 0) (take-append-drop i w)) in
          ap (λ v. shape_of (inserted_word [] v)) (none_at_most (take i w) e);
      top_edge = λ j. refl;
      squares = λ i j l m.
          let e : i ≡ suc i - 1 = omega arith in
          square_rule w i j d l
          ∙ ap (λ a. at_corner (a == suc j) (shape_at w i j) (shape_at w i (suc j)) (shape_at w (suc i) j))
          (get_or_default w i 0 (suc i) l ∙ ap (λ n. get_or w n (suc i)) e);
    }

pub grown-shape : (w : List ℕ) (s : ℕ → ℕ → List ℕ) → AreGrown w s → (i j : ℕ) → i ≤ length w → j ≤ length w → s i j ≡ growth_shape w i j
grown-shape w s g zero j l m = g.top_edge j
grown-shape w s g (suc i) j l m = by (λ j n. grown-shape w s g i j (omega arith) n) j m
  where
    by : ((j : ℕ) → j ≤ length w → s i j ≡ growth_shape w i j) → (j : ℕ) → j ≤ length w → s (suc i) j ≡ growth_shape w (suc i) j
    by ih zero m = g.left_edge (suc i)
    by ih (suc j) m =
        g.squares i j (omega arith) (omega arith)
        ∙ ap₂ (λ (x y : List ℕ). at_corner (letter w (suc i) == suc j) x y (s (suc i) j)) (ih j (omega arith)) (ih (suc j) m)
        ∙ ap (at_corner (letter w (suc i) == suc j) (growth_shape w i j) (growth_shape w i (suc j))) (by ih j (omega arith))
