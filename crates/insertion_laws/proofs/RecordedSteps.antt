-- The k-th insertion makes one row of the insertion tableau longer. The number k is recorded at the end of the row with the same index of the
-- recording tableau (`with_step`), and the recording tableau stays a tableau.
use Rattle.std.proofs.Common.{◌≡◌, ◌⊎◌, ℕ, ◌+◌, ◌<◌, ◌≤◌, ◌==◌, cond, List, [], ◌∷◌, ◌++◌, length, ◌∙◌, ap, sym, subst, inl, inr, arith, rules}
use Rattle.std.proofs.lemmas.Bool.{cases_lt, lt-ltb, le-ltb}
use Rattle.std.proofs.lemmas.List.{length-append}
use Rattle.sym_model.specs.Partition.{size}
use Rattle.sym_model.specs.Schur.{letters_of, times_in}
use Rattle.sym_model.specs.Insertion.{with_step}
use Rattle.sym_model.specs.Tableau.{shape_of}
use Rattle.sym_model.proofs.Contents.{times_in-append}
use Rattle.insertion_laws.specs.Rows.{StandsOn, AreRows, RowsBelow, HasOneMore}
use Rattle.insertion_laws.proofs.InsertedRows.{stands_longer, stands-length}
use Rattle.sym_model.specs.Bounded.{AreBelow}
use Rattle.tableau_laws.specs.Rows.{RisesFrom}
use Rattle.tableau_laws.specs.Grid.{first_line}
use Rattle.sym_model.proofs.Numbers.{below_more}

pub step-here :
    (k : ℕ) (row steps : List ℕ) (p q : List (List ℕ)) → length steps < length row
    → with_step k (row ∷ p) (steps ∷ q) ≡ (steps ++ k ∷ []) ∷ q
step-here k row steps p q h =
    ap (λ t. cond t ((steps ++ k ∷ []) ∷ q) (steps ∷ with_step k p q)) (lt-ltb (length steps) (length row) h)

pub step-below :
    (k : ℕ) (row steps : List ℕ) (p q : List (List ℕ)) → length row ≤ length steps
    → with_step k (row ∷ p) (steps ∷ q) ≡ steps ∷ with_step k p q
step-below k row steps p q h =
    ap (λ t. cond t ((steps ++ k ∷ []) ∷ q) (steps ∷ with_step k p q)) (le-ltb (length steps) (length row) h)

pub shape-step :
    (k : ℕ) (p q : List (List ℕ)) → HasOneMore (shape_of p) (shape_of q) → shape_of (with_step k p q) ≡ shape_of p
shape-step k [] q h = absurd h
shape-step k (row ∷ p) [] h = search rules
shape-step k (row ∷ p) (steps ∷ q) h = by h (λ m. shape-step k p q m)
  where
    by : ((length row ≡ length steps + 1) × (shape_of p ≡ shape_of q)) ⊎ ((length row ≡ length steps) × HasOneMore (shape_of p) (shape_of q))
        → (HasOneMore (shape_of p) (shape_of q) → shape_of (with_step k p q) ≡ shape_of p)
        → shape_of (with_step k (row ∷ p) (steps ∷ q)) ≡ length row ∷ shape_of p
    by (inl m) rec =
        let long : length (steps ++ k ∷ []) ≡ length row = omega (arith, length-append steps (k ∷ []), m.0) in
        ap shape_of (step-here k row steps p q (omega (arith, m.0))) ∙ ap (λ n. n ∷ shape_of q) long
        ∙ ap (λ (s : List ℕ). length row ∷ s) (sym m.1)
    by (inr m) rec =
        ap shape_of (step-below k row steps p q (omega (arith, m.0))) ∙ ap (λ n. n ∷ shape_of (with_step k p q)) (sym m.0)
        ∙ ap (λ (s : List ℕ). length row ∷ s) (rec m.1)

pub times-step :
    (j k : ℕ) (p q : List (List ℕ)) → HasOneMore (shape_of p) (shape_of q)
    → times_in j (letters_of (with_step k p q)) ≡ times_in j (letters_of q) + cond (k == j) 1 0
times-step j k [] q h = absurd h
times-step j k (row ∷ p) [] h = omega arith
times-step j k (row ∷ p) (steps ∷ q) h = by h (λ m. times-step j k p q m)
  where
    by : ((length row ≡ length steps + 1) × (shape_of p ≡ shape_of q)) ⊎ ((length row ≡ length steps) × HasOneMore (shape_of p) (shape_of q))
        → (HasOneMore (shape_of p) (shape_of q) → times_in j (letters_of (with_step k p q)) ≡ times_in j (letters_of q) + cond (k == j) 1 0)
        → times_in j (letters_of (with_step k (row ∷ p) (steps ∷ q))) ≡ times_in j (steps ++ letters_of q) + cond (k == j) 1 0
    by (inl m) rec =
        omega (
          arith,
          ap (λ (x : List (List ℕ)). times_in j (letters_of x)) (step-here k row steps p q (omega (arith, m.0))),
          times_in-append j (steps ++ k ∷ []) (letters_of q),
          times_in-append j steps (k ∷ []),
          times_in-append j steps (letters_of q),
        )
    by (inr m) rec =
        omega (
          arith,
          ap (λ (x : List (List ℕ)). times_in j (letters_of x)) (step-below k row steps p q (omega (arith, m.0))),
          times_in-append j steps (letters_of (with_step k p q)),
          times_in-append j steps (letters_of q),
          rec m.1,
        )

pub rows_below_more : (k l : ℕ) (q : List (List ℕ)) → k ≤ l → RowsBelow k q → RowsBelow l q
rows_below_more k l [] le h = tt
rows_below_more k l (row ∷ q) le h = (below_more k l row le h.0, rows_below_more k l q le h.1)

below_end : (k l a : ℕ) (w : List ℕ) → k ≤ l → a < l → AreBelow k w → AreBelow l (w ++ a ∷ [])
below_end k l a [] le m h = (m, tt)
below_end k l a (b ∷ w) le m h = (omega (arith, h.0), below_end k l a w le m h.1)

pub below-step : (k : ℕ) (p q : List (List ℕ)) → RowsBelow k q → RowsBelow (k + 1) (with_step k p q)
below-step k [] q h = rows_below_more k (k + 1) q (omega arith) h
below-step k (row ∷ p) [] h = ((omega arith, tt), tt)
below-step k (row ∷ p) (steps ∷ q) h = elim (cases_lt (length steps) (length row)) [
  | inl m ↦
      subst (RowsBelow (k + 1)) (sym (step-here k row steps p q m))
      (below_end k (k + 1) k steps (omega arith) (omega arith) h.0, rows_below_more k (k + 1) q (omega arith) h.1)
  | inr m ↦
      subst (RowsBelow (k + 1)) (sym (step-below k row steps p q m))
      (below_more k (k + 1) steps (omega arith) h.0, below-step k p q h.1)
]

-- ---- recording a number k, which is greater than all letters, keeps the rows a tableau

rises_end : (c k : ℕ) (row : List ℕ) → c ≤ k → AreBelow k row → RisesFrom c row → RisesFrom c (row ++ k ∷ [])
rises_end c k [] l b h = (l, tt)
rises_end c k (a ∷ row) l b h = (h.0, rises_end a k row (omega (arith, b.0)) b.1 h.1)

stands_end :
    (k : ℕ) (lower upper : List ℕ) → length lower < length upper → AreBelow k upper → StandsOn lower upper
    → StandsOn (lower ++ k ∷ []) upper
stands_end k [] [] l b h = absurd (omega arith)
stands_end k [] (x ∷ upper) l b h = (b.0, tt)
stands_end k (y ∷ lower) [] l b h = absurd h
stands_end k (y ∷ lower) (x ∷ upper) l b h = (h.0, stands_end k lower upper (omega arith) b.1 h.1)

pub next_shorter : (m : ℕ) (row row' : List ℕ) (p : List (List ℕ)) → AreRows m (row ∷ row' ∷ p) → length row' ≤ length row
next_shorter m row row' p h = stands-length row' row h.0.stands

stands-step :
    (m k : ℕ) (row steps : List ℕ) (p q : List (List ℕ)) → length row ≡ length steps → AreRows m (row ∷ p) → AreBelow k steps
    → 0 < length steps → StandsOn (first_line q) steps → HasOneMore (shape_of p) (shape_of q)
    → StandsOn (first_line (with_step k p q)) steps
stands-step m k row steps [] q e r b f s h = absurd h
stands-step m k row [] (row' ∷ p) [] e r b f s h = absurd (omega arith)
stands-step m k row (x ∷ steps) (row' ∷ p) [] e r b f s h = (b.0, tt)
stands-step m k row steps (row' ∷ p) (steps' ∷ q) e r b f s h = search (rules, cases_lt, next_shorter, step-here, stands_end, step-below)

pub keeps_steps :
    (m k : ℕ) (p q : List (List ℕ)) → 1 ≤ k → AreRows m p → AreRows 1 q → RowsBelow k q → HasOneMore (shape_of p) (shape_of q)
    → AreRows 1 (with_step k p q)
keeps_steps m k [] q l r h b o = absurd o
keeps_steps m k (row ∷ p) [] l r h b o = (record { filled = omega arith; rises = (l, tt); stands = tt }, tt)
keeps_steps m k (row ∷ p) (steps ∷ q) l r h b o = by o (λ n. keeps_steps m k p q l r.1 h.1 b.1 n)
  where
    by : ((length row ≡ length steps + 1) × (shape_of p ≡ shape_of q)) ⊎ ((length row ≡ length steps) × HasOneMore (shape_of p) (shape_of q))
        → (HasOneMore (shape_of p) (shape_of q) → AreRows 1 (with_step k p q))
        → AreRows 1 (with_step k (row ∷ p) (steps ∷ q))
    by (inl n) rec =
        subst (AreRows 1) (sym (step-here k row steps p q (omega (arith, n.0)))) (
          record {
            filled = omega (arith, length-append steps (k ∷ []));
            rises = rises_end 1 k steps l b.0 h.0.rises;
            stands = stands_longer (first_line q) steps (k ∷ []) h.0.stands;
          },
          h.1,
        )
    by (inr n) rec =
        subst (AreRows 1) (sym (step-below k row steps p q (omega (arith, n.0)))) (
          record {
            filled = h.0.filled;
            rises = h.0.rises;
            stands = stands-step m k row steps p q n.0 r b.0 h.0.filled h.0.stands n.1;
          },
          rec n.1,
        )

pub size-more : (large small : List ℕ) → HasOneMore large small → size large ≡ size small + 1
size-more [] small h = absurd h
size-more (a ∷ large) [] h = omega (arith, h.0, ap size h.1)
size-more (a ∷ large) (b ∷ small) h = by h (λ m. size-more large small m)
  where
    by : ((a ≡ b + 1) × (large ≡ small)) ⊎ ((a ≡ b) × HasOneMore large small)
        → (HasOneMore large small → size large ≡ size small + 1) → a + size large ≡ b + size small + 1
    by (inl m) rec = omega (arith, m.0, ap size m.1)
    by (inr m) rec = omega (arith, m.0, rec m.1)
