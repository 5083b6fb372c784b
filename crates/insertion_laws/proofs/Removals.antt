-- Reverse row insertion (`removed`) from a corner of a straight tableau: the rows that are left are a straight tableau, inserting the letter that has
-- left gives the old tableau, and reverse insertion undoes insertion.
use Rattle.std.proofs.Common.{◌≡◌, ◌≢◌, ◌⊎◌, ℕ, zero, suc, ◌+◌, ◌<◌, ◌≤◌, cond, List, [], ◌∷◌, ◌++◌, length, Option, Some, None, ◌∙◌, ap, ap₂, sym, refl, subst, inl, inr, arith, rules}
use Rattle.std.proofs.lemmas.Bool.{cases_lt, lt-ltb, le-ltb, eq-eqb, ne_eqb}
use Rattle.std.proofs.lemmas.List.{length-append}
use Rattle.sym_model.specs.Insertion.{row_with, bumped, inserted, with_step}
use Rattle.sym_model.specs.Tableau.{shape_of}
use Rattle.sym_model.specs.Growth.{grown, with_end}
use Rattle.insertion_laws.specs.Rows.{StandsOn, AreRows, RowsBelow, HasOneMore, HasCorner}
use Rattle.insertion_laws.specs.Removal.{row_back, letter_back, without_last, last_of, row_over, removed, row_ending, without_step}
use Rattle.insertion_laws.proofs.InsertedRows.{inserted-none, first-inserted, with-end, length-with}
use Rattle.insertion_laws.proofs.RecordedSteps.{step-here, step-below}
use Rattle.insertion_laws.proofs.RowsBack.{length-back, letter_least, rises_back, put_again, bumped_again, row_again, letter_again, begins-above, stands_back, ends, last-end, without_last-end, over-filled, rises_front, rises_to_end, none_bumped, stands_front}
use Rattle.sym_model.specs.Bounded.{AreBelow}
use Rattle.tableau_laws.specs.Rows.{RisesFrom}
use Rattle.tableau_laws.specs.Grid.{first_line}

-- the rows are a straight tableau whose letters are at least m, the letter a is at least m, and inserting a into the rows gives the tableau t
pub record IsRemoval (m : ℕ) (t rows : List (List ℕ)) (a : ℕ) : Type 0 where
  pub least : m ≤ a
  pub rows_are : AreRows m rows
  pub gives : inserted rows (Some a) ≡ t

first_rises : (m : ℕ) (rows : List (List ℕ)) → AreRows m rows → RisesFrom m (first_line rows)
first_rises m [] h = tt
first_rises m (row ∷ rows) h = h.0.rises

pub corner-next : (a : ℕ) (rows : List (List ℕ)) → 0 < a → HasCorner 0 (a ∷ shape_of rows) → length (first_line rows) < a
corner-next a [] f h = f
corner-next a (row ∷ rows) f h = h

pub removed_here :
    (m x : ℕ) (row front : List ℕ) (rest : List (List ℕ)) → front ++ x ∷ [] ≡ row → AreRows m (row ∷ rest)
    → length (first_line rest) < length row → IsRemoval m (row ∷ rest) (row_over front rest) x
removed_here m x row [] rest e h l = search rules
removed_here m x row (a ∷ f) rest e h l =
    let front = a ∷ f in
    let r = subst (RisesFrom m) (sym e) h.0.rises in
    let n = none_bumped m x front r in
    let long : length front + 1 ≡ length row = omega (arith, ap length e, length-append front (x ∷ [])) in
    record {
      least = rises_to_end m x front r;
      rows_are = (
        record {
          filled = omega arith;
          rises = rises_front m front (x ∷ []) r;
          stands = stands_front (first_line rest) front (x ∷ []) (omega arith) (subst (StandsOn (first_line rest)) (sym e) h.0.stands);
        },
        h.1,
      );
      gives = ap₂ (λ r (o : Option ℕ). r ∷ inserted rest o) (n.1 ∙ e) n.0 ∙ ap (λ (x : List (List ℕ)). row ∷ x) (inserted-none rest);
    }

removed_below :
    (m b : ℕ) (row : List ℕ) (rest rows : List (List ℕ)) → AreRows m (row ∷ rest) → IsRemoval m rest rows b
    → IsRemoval m (row ∷ rest) (row_back b row ∷ rows) (letter_back b row)
removed_below m b [] rest rows h o = let f = h.0.filled in absurd (omega arith)
removed_below m b (x ∷ r) rest rows h o =
    let row = x ∷ r in
    let s : StandsOn (row_with b (first_line rows)) row =
    subst (λ l. StandsOn l row) (first-inserted b rows)
    (subst (λ (t : List (List ℕ)). StandsOn (first_line t) row) (sym o.gives) h.0.stands) in
    let begins = begins-above b (first_line rows) row s in
    record {
      least = letter_least b m x r h.0.rises;
      rows_are = (
        record {
          filled = omega (arith, length-back b row);
          rises = rises_back b m x r begins h.0.rises;
          stands = stands_back b m (first_line rows) row (first_rises m rows o.rows_are) begins s;
        },
        o.rows_are,
      );
      gives =
          ap₂ (λ r (o : Option ℕ). r ∷ inserted rows o) (put_again b m x r begins h.0.rises) (bumped_again b m x r begins h.0.rises)
          ∙ ap (λ (t : List (List ℕ)). row ∷ t) o.gives;
    }

-- if the shape of the tableau t has a corner in row i, `removed i t` gives rows and a letter whose insertion gives t (`IsRemoval`)
pub removal_at :
    (m i : ℕ) (t : List (List ℕ)) → AreRows m t → HasCorner i (shape_of t) → IsRemoval m t (removed i t).0 (removed i t).1
removal_at m zero [] h c = absurd c
removal_at m (suc i) [] h c = absurd c
removal_at m zero (row ∷ rest) h c =
    removed_here m (last_of row) row (without_last row) rest (ends row h.0.filled) h (corner-next (length row) rest h.0.filled c)
removal_at m (suc i) (row ∷ rest) h c =
    removed_below m (removed i rest).1 row rest (removed i rest).0 h (removal_at m i rest h.1 c)

-- ---- the first row that is longer in one shape than in another (`grown`), to which an insertion adds a cell

pub grown-here : (a b : ℕ) (large small : List ℕ) → b < a → grown (a ∷ large) (b ∷ small) ≡ 0
grown-here a b large small h = ap (λ t. cond t 0 (suc (grown large small))) (lt-ltb b a h)

pub grown-below : (a b : ℕ) (large small : List ℕ) → a ≤ b → grown (a ∷ large) (b ∷ small) ≡ suc (grown large small)
grown-below a b large small h = ap (λ t. cond t 0 (suc (grown large small))) (le-ltb b a h)

pub grown-within : (large small : List ℕ) → grown large small ≤ length small
grown-within [] small = omega arith
grown-within (a ∷ large) [] = omega arith
grown-within (a ∷ large) (b ∷ small) = elim (cases_lt b a) [
  | inl h ↦ omega (arith, grown-here a b large small h)
  | inr h ↦ omega (arith, grown-below a b large small h, grown-within large small)
]

-- if the shape of p is that of q with one more cell, `with_step` records k in q at the end of the row that has this cell
pub end-step :
    (k : ℕ) (p q : List (List ℕ)) → HasOneMore (shape_of p) (shape_of q) → with_end (grown (shape_of p) (shape_of q)) k q ≡ with_step k p q
end-step k [] q h = absurd h
end-step k (row ∷ p) [] h = refl
end-step k (row ∷ p) (steps ∷ q) h = by h (λ m. end-step k p q m)
  where
    by : ((length row ≡ length steps + 1) × (shape_of p ≡ shape_of q)) ⊎ ((length row ≡ length steps) × HasOneMore (shape_of p) (shape_of q))
        → (HasOneMore (shape_of p) (shape_of q) → with_end (grown (shape_of p) (shape_of q)) k q ≡ with_step k p q)
        → with_end (grown (length row ∷ shape_of p) (length steps ∷ shape_of q)) k (steps ∷ q) ≡ with_step k (row ∷ p) (steps ∷ q)
    by (inl m) rec =
        ap (λ i. with_end i k (steps ∷ q)) (grown-here (length row) (length steps) (shape_of p) (shape_of q) (omega (arith, m.0)))
        ∙ sym (step-here k row steps p q (omega (arith, m.0)))
    by (inr m) rec =
        ap (λ i. with_end i k (steps ∷ q)) (grown-below (length row) (length steps) (shape_of p) (shape_of q) (omega (arith, m.0)))
        ∙ ap (λ (l : List (List ℕ)). steps ∷ l) (rec m.1) ∙ sym (step-below k row steps p q (omega (arith, m.0)))

-- inserting a into the rows of a tableau and then removing the cell that was added gives these rows and the letter a
pub off_again :
    (m a : ℕ) (rows : List (List ℕ)) → AreRows m rows
    → removed (grown (shape_of (inserted rows (Some a))) (shape_of rows)) (inserted rows (Some a)) ≡ (rows, a)
off_again m a [] h = refl
off_again m a (row ∷ rows) h = by (bumped a row) refl (λ b. off_again m b rows h.1)
  where
    by : (o : Option ℕ) → bumped a row ≡ o
        → ((b : ℕ) → removed (grown (shape_of (inserted rows (Some b))) (shape_of rows)) (inserted rows (Some b)) ≡ (rows, b))
        → removed (grown (length (row_with a row) ∷ shape_of (inserted rows o)) (length row ∷ shape_of rows)) (row_with a row ∷ inserted rows o) ≡ (row ∷ rows, a)
    by None e rec =
        let w = with-end a row e in
        let longer : length row < length (row_with a row) = omega (arith, ap length w, length-append row (a ∷ [])) in
        ap (λ i. removed i (row_with a row ∷ inserted rows None)) (grown-here (length (row_with a row)) (length row) (shape_of (inserted rows None)) (shape_of rows) longer)
        ∙ ap₂ {C = List (List ℕ) × ℕ} (λ r (s : List (List ℕ)). (row_over (without_last r) s, last_of r)) w (inserted-none rows)
        ∙ ap₂ {C = List (List ℕ) × ℕ} (λ r n. (row_over r rows, n)) (without_last-end row a) (last-end row a)
        ∙ ap {B = List (List ℕ) × ℕ} (λ (r : List (List ℕ)). (r, a)) (over-filled row rows h.0.filled)
    by (Some b) e rec =
        let same = length-with a b row e in
        ap (λ i. removed i (row_with a row ∷ inserted rows (Some b)))
        (grown-below (length (row_with a row)) (length row) (shape_of (inserted rows (Some b))) (shape_of rows) (omega arith))
        ∙ ap {B = List (List ℕ) × ℕ} (λ (off : List (List ℕ) × ℕ). (row_back off.1 (row_with a row) ∷ off.0, letter_back off.1 (row_with a row))) (rec b)
        ∙ ap₂ {C = List (List ℕ) × ℕ} (λ r n. (r ∷ rows, n)) (row_again a b m row h.0.rises e) (letter_again a b m row h.0.rises e)

-- ---- undoing the insertion that was recorded with the greatest number

pub last_below : (k : ℕ) (row : List ℕ) → 0 < length row → AreBelow k row → last_of row < k
last_below k [] f h = absurd (omega arith)
last_below k (a ∷ []) f h = h.0
last_below k (a ∷ b ∷ row) f h = last_below k (b ∷ row) (omega arith) h.1

pub ending-here : (k : ℕ) (row : List ℕ) (rows : List (List ℕ)) → last_of row ≡ k → row_ending k (row ∷ rows) ≡ 0
ending-here k row rows e = ap (λ t. cond t 0 (suc (row_ending k rows))) (eq-eqb (last_of row) k e)

pub ending-below : (k : ℕ) (row : List ℕ) (rows : List (List ℕ)) → last_of row ≢ k → row_ending k (row ∷ rows) ≡ suc (row_ending k rows)
ending-below k row rows n = ap (λ t. cond t 0 (suc (row_ending k rows))) (ne_eqb (last_of row) k n)

pub without-here : (k : ℕ) (row : List ℕ) (rows : List (List ℕ)) → last_of row ≡ k → without_step k (row ∷ rows) ≡ row_over (without_last row) rows
without-here k row rows e = ap (λ t. cond t (row_over (without_last row) rows) (row ∷ without_step k rows)) (eq-eqb (last_of row) k e)

pub without-below : (k : ℕ) (row : List ℕ) (rows : List (List ℕ)) → last_of row ≢ k → without_step k (row ∷ rows) ≡ row ∷ without_step k rows
without-below k row rows n = ap (λ t. cond t (row_over (without_last row) rows) (row ∷ without_step k rows)) (ne_eqb (last_of row) k n)

pub step_found :
    (m k : ℕ) (p q : List (List ℕ)) → AreRows m q → RowsBelow k q → HasOneMore (shape_of p) (shape_of q)
    → (row_ending k (with_step k p q) ≡ grown (shape_of p) (shape_of q)) × (without_step k (with_step k p q) ≡ q)
step_found m k [] q h b o = absurd o
step_found m k (row ∷ p) [] h b o = (ending-here k (k ∷ []) [] refl, without-here k (k ∷ []) [] refl)
step_found m k (row ∷ p) (steps ∷ q) h b o = by o (λ n. step_found m k p q h.1 b.1 n)
  where
    by : ((length row ≡ length steps + 1) × (shape_of p ≡ shape_of q)) ⊎ ((length row ≡ length steps) × HasOneMore (shape_of p) (shape_of q))
        → (HasOneMore (shape_of p) (shape_of q)
        → (row_ending k (with_step k p q) ≡ grown (shape_of p) (shape_of q)) × (without_step k (with_step k p q) ≡ q))
        → (row_ending k (with_step k (row ∷ p) (steps ∷ q)) ≡ grown (length row ∷ shape_of p) (length steps ∷ shape_of q))
        × (without_step k (with_step k (row ∷ p) (steps ∷ q)) ≡ steps ∷ q)
    by (inl n) rec =
        let here = step-here k row steps p q (omega (arith, n.0)) in
        let last = last-end steps k in (
          ap (row_ending k) here ∙ ending-here k (steps ++ k ∷ []) q last
              ∙ sym (grown-here (length row) (length steps) (shape_of p) (shape_of q) (omega (arith, n.0))),
          ap (without_step k) here ∙ without-here k (steps ++ k ∷ []) q last ∙ ap (λ r. row_over r q) (without_last-end steps k)
              ∙ over-filled steps q h.0.filled,
        )
    by (inr n) rec =
        let there = step-below k row steps p q (omega (arith, n.0)) in
        let less = last_below k steps h.0.filled b.0 in
        let other : last_of steps ≢ k = omega arith in
        let r = rec n.1 in (
          ap (row_ending k) there ∙ ending-below k steps (with_step k p q) other ∙ ap suc r.0
              ∙ sym (grown-below (length row) (length steps) (shape_of p) (shape_of q) (omega (arith, n.0))),
          ap (without_step k) there ∙ without-below k steps (with_step k p q) other ∙ ap (λ (x : List (List ℕ)). steps ∷ x) r.1,
        )
