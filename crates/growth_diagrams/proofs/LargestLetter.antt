-- Insertion of a letter into a tableau whose largest letter m is at the end of a row.
use Rattle.std.proofs.Common.{◌≡◌, ℕ, zero, suc, ◌<◌, ◌≤◌, List, [], ◌∷◌, ◌++◌, length, Option, Some, None, ◌∙◌, ap, ap₂, sym, refl, subst, inl, inr, arith}
use Rattle.std.proofs.lemmas.Bool.{cases_lt}
use Rattle.std.proofs.lemmas.List.{length-append}
use Rattle.sym_model.specs.Insertion.{row_with, bumped, inserted}
use Rattle.sym_model.specs.Tableau.{shape_of}
use Rattle.insertion_laws.specs.Rows.{RowsBelow}
use Rattle.insertion_laws.proofs.InsertedRows.{with-less, with-more, bumped-less, bumped-more, some_same, with-end, length-with, inserted-none}
use Rattle.insertion_laws.proofs.Removals.{grown-here, grown-below}
use Rattle.sym_model.specs.Growth.{grown, with_end}
use Rattle.sym_model.specs.Bounded.{AreBelow}

below_with : (m a : ℕ) (row : List ℕ) → a < m → AreBelow m row → AreBelow m (row_with a row)
below_with m a [] l h = (l, tt)
below_with m a (x ∷ row) l h = elim (cases_lt a x) [
  | inl s ↦ subst (AreBelow m) (sym (with-less a x row s)) (l, h.1)
  | inr s ↦ subst (AreBelow m) (sym (with-more a x row s)) (h.0, below_with m a row l h.1)
]

bumped_below : (m a b : ℕ) (row : List ℕ) → AreBelow m row → bumped a row ≡ Some b → b < m
bumped_below m a b [] h e = cc
bumped_below m a b (x ∷ row) h e = elim (cases_lt a x) [
  | inl s ↦ let f = some_same x b (sym (bumped-less a x row s) ∙ e) in omega (arith, h.0)
  | inr s ↦ bumped_below m a b row h.1 (sym (bumped-more a x row s) ∙ e)
]

pub below_inserted : (m a : ℕ) (rows : List (List ℕ)) → a < m → RowsBelow m rows → RowsBelow m (inserted rows (Some a))
below_inserted m a [] l h = ((l, tt), tt)
below_inserted m a (row ∷ rows) l h = (below_with m a row l h.0, by (bumped a row) refl (λ b n. below_inserted m b rows n h.1))
  where
    by : (o : Option ℕ) → bumped a row ≡ o → ((b : ℕ) → b < m → RowsBelow m (inserted rows (Some b))) → RowsBelow m (inserted rows o)
    by None e rec = subst (RowsBelow m) (sym (inserted-none rows)) h.1
    by (Some b) e rec = rec b (bumped_below m a b row h.0 e)

none_bumped : (m : ℕ) (row : List ℕ) → AreBelow m row → bumped m row ≡ None
none_bumped m [] h = refl
none_bumped m (x ∷ row) h = bumped-more m x row (omega (arith, h.0)) ∙ none_bumped m row h.1

end_taken : (m a : ℕ) (row : List ℕ) → a < m → bumped a row ≡ None
    → (bumped a (row ++ m ∷ []) ≡ Some m) × (row_with a (row ++ m ∷ []) ≡ row_with a row)
end_taken m a [] l e = (bumped-less a m [] l, with-less a m [] l)
end_taken m a (x ∷ row) l e = elim (cases_lt a x) [
  | inl s ↦ absurd (cc (sym (bumped-less a x row s) ∙ e))
  | inr s ↦
      let r = end_taken m a row l (sym (bumped-more a x row s) ∙ e) in (
        bumped-more a x (row ++ m ∷ []) s ∙ r.0,
        with-more a x (row ++ m ∷ []) s ∙ ap (λ (v : List ℕ). x ∷ v) r.1 ∙ sym (with-more a x row s),
      )
]

end_kept : (a b : ℕ) (row more : List ℕ) → bumped a row ≡ Some b
    → (bumped a (row ++ more) ≡ Some b) × (row_with a (row ++ more) ≡ row_with a row ++ more)
end_kept a b [] more e = cc
end_kept a b (x ∷ row) more e = elim (cases_lt a x) [
  | inl s ↦ (
    bumped-less a x (row ++ more) s ∙ sym (bumped-less a x row s) ∙ e,
    with-less a x (row ++ more) s ∙ ap (λ (v : List ℕ). v ++ more) (sym (with-less a x row s)),
  )
  | inr s ↦
      let r = end_kept a b row more (sym (bumped-more a x row s) ∙ e) in (
        bumped-more a x (row ++ more) s ∙ r.0,
        with-more a x (row ++ more) s ∙ ap (λ (v : List ℕ). x ∷ v) r.1 ∙ ap (λ (v : List ℕ). v ++ more) (sym (with-more a x row s)),
      )
]

-- ---- a tableau with the largest letter m at the end of a row, and the cell that an insertion adds

pub largest-last : (m : ℕ) (rows : List (List ℕ)) → RowsBelow m rows → inserted rows (Some m) ≡ with_end 0 m rows
largest-last m [] h = refl
largest-last m (row ∷ rows) h =
    let e = none_bumped m row h.0 in
    ap₂ (λ (r : List ℕ) (o : Option ℕ). r ∷ inserted rows o) (with-end m row e) e ∙ ap (λ (r : List (List ℕ)). (row ++ m ∷ []) ∷ r) (inserted-none rows)

-- the row, counted from 0, to which the insertion of a into the rows adds a cell
abbrev pub row_of_cell : ℕ → List (List ℕ) → ℕ
row_of_cell a rows = grown (shape_of (inserted rows (Some a))) (shape_of rows)

cell-here : (a : ℕ) (row : List ℕ) (rows : List (List ℕ)) → bumped a row ≡ None → row_of_cell a (row ∷ rows) ≡ 0
cell-here a row rows e =
    grown-here (length (row_with a row)) (length row) (shape_of (inserted rows (bumped a row))) (shape_of rows)
    (omega (arith, ap (λ (v : List ℕ). length v) (with-end a row e), length-append row (a ∷ [])))

cell-below : (a b : ℕ) (row : List ℕ) (rows : List (List ℕ)) → bumped a row ≡ Some b → row_of_cell a (row ∷ rows) ≡ suc (row_of_cell b rows)
cell-below a b row rows e =
    grown-below (length (row_with a row)) (length row) (shape_of (inserted rows (bumped a row))) (shape_of rows) (omega (arith, length-with a b row e))
    ∙ ap (λ o. suc (grown (shape_of (inserted rows o)) (shape_of rows))) e

-- the effect of inserting a into the tableau `rows` with the largest letter m appended to row k: if the insertion into `rows` adds a cell to row k, m
-- moves to the end of row k + 1, and otherwise m stays at the end of row k
pub data Beside (m k a : ℕ) (rows : List (List ℕ)) : Type 0 where
  pushed : row_of_cell a rows ≡ k → inserted (with_end k m rows) (Some a) ≡ with_end (suc k) m (inserted rows (Some a)) → Beside m k a rows
  stays : (row_of_cell a rows ≡ k → ⊥) → inserted (with_end k m rows) (Some a) ≡ with_end k m (inserted rows (Some a)) → Beside m k a rows

pub beside : (m k a : ℕ) (rows : List (List ℕ)) → RowsBelow m rows → a < m → k ≤ length rows → Beside m k a rows
beside m zero a [] h l s =
    pushed refl
    (ap₂ (λ (r : List ℕ) (o : Option ℕ). r ∷ inserted [] o) (with-less a m [] l) (bumped-less a m [] l))
beside m (suc k) a [] h l s = absurd (omega arith)
beside m zero a (row ∷ rows) h l s = by (bumped a row) refl
  where
    by : (o : Option ℕ) → bumped a row ≡ o → Beside m 0 a (row ∷ rows)
    by None e =
        let t = end_taken m a row l e in
        pushed (cell-here a row rows e)
        (ap₂ (λ (r : List ℕ) (o : Option ℕ). r ∷ inserted rows o) t.1 t.0 ∙ ap (λ (r : List (List ℕ)). row_with a row ∷ r) (largest-last m rows h.1)
        ∙ ap (λ (r : List (List ℕ)). row_with a row ∷ with_end 0 m r) (sym (ap (inserted rows) e ∙ inserted-none rows)))
    by (Some b) e =
        let t = end_kept a b row (m ∷ []) e in
        stays (λ f. let g = cell-below a b row rows e in omega arith)
        (ap₂ (λ (r : List ℕ) (o : Option ℕ). r ∷ inserted rows o) t.1 t.0
        ∙ ap (λ o. (row_with a row ++ m ∷ []) ∷ inserted rows o) (sym e))
beside m (suc k) a (row ∷ rows) h l s = by (bumped a row) refl (λ b n. beside m k b rows h.1 n (omega arith))
  where
    by : (o : Option ℕ) → bumped a row ≡ o → ((b : ℕ) → b < m → Beside m k b rows) → Beside m (suc k) a (row ∷ rows)
    by None e rec =
        stays (λ f. let g = cell-here a row rows e in omega arith)
        (ap (λ (r : List (List ℕ)). row_with a row ∷ r)
        (ap (inserted (with_end k m rows)) e ∙ inserted-none (with_end k m rows)
        ∙ ap (with_end k m) (sym (ap (inserted rows) e ∙ inserted-none rows))))
    by (Some b) e rec =
        let g = cell-below a b row rows e in
        let over = λ (i : ℕ) (f : inserted (with_end k m rows) (Some b) ≡ with_end i m (inserted rows (Some b))).
        ap (λ (r : List (List ℕ)). row_with a row ∷ r)
        (ap (inserted (with_end k m rows)) e ∙ f ∙ ap (λ o. with_end i m (inserted rows o)) (sym e)) in
        elim (rec b (bumped_below m a b row h.0 e)) [
          | pushed c f ↦ pushed (g ∙ ap suc c) (over (suc k) f)
          | stays c f ↦ stays (λ d. c (omega arith)) (over k f)
        ]
