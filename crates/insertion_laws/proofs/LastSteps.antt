-- The greatest number of a recording tableau is the last letter of a row, in a corner; without it, the rows are still a straight tableau.
use Rattle.std.proofs.lemmas.Grind.{common_steps}
use Rattle.std.proofs.Common.{◌≡◌, ◌≢◌, ℕ, zero, suc, ◌+◌, ◌-◌, ◌<◌, ◌==◌, cond, List, [], ◌∷◌, ◌++◌, length, ◌∙◌, ap, ap₂, sym, refl, subst, inl, inr, arith, nat_lt, rules}
use Rattle.std.proofs.lemmas.Bool.{cases_lt, cases_eq, lt-ltb, le-ltb, eq-eqb, ne_eqb}
use Rattle.sym_model.specs.Insertion.{with_step}
use Rattle.sym_model.specs.Schur.{letters_of, times_in}
use Rattle.sym_model.specs.Tableau.{shape_of}
use Rattle.sym_model.proofs.Contents.{times_in-append}
use Rattle.insertion_laws.specs.Rows.{StandsOn, IsRowOver, AreRows, RowsBelow, HasCorner}
use Rattle.insertion_laws.specs.Removal.{without_last, last_of, row_over, removed, row_ending, without_step}
use Rattle.insertion_laws.proofs.InsertedRows.{stands-length}
use Rattle.insertion_laws.proofs.RecordedSteps.{step-below}
use Rattle.insertion_laws.proofs.RowsBack.{length-back, ends, length-without_last, front_stands, stands_last}
use Rattle.insertion_laws.proofs.Removals.{removed_here, corner-next, last_below, ending-here, ending-below, without-here, without-below}
use Rattle.sym_model.specs.Bounded.{AreBelow}
use Rattle.tableau_laws.specs.Rows.{RisesFrom}
use Rattle.tableau_laws.specs.Grid.{first_line}

below_last : (c k : ℕ) (row : List ℕ) → RisesFrom c row → last_of row < k → AreBelow k row
below_last c k [] h l = tt
below_last c k (a ∷ []) h l = (l, tt)
below_last c k (a ∷ b ∷ row) h l = search (rules, (below_last a k (b ∷ row) h.1 l))

times-below : (k : ℕ) (w : List ℕ) → AreBelow k w → times_in k w ≡ 0
times-below k [] h = refl
times-below k (a ∷ w) h =
    let n : a ≢ k = omega (arith, h.0) in
    ap (λ t. cond t 1 0 + times_in k w) (ne_eqb a k n) ∙ omega (arith, times-below k w h.1)

pub times-rows_below : (k : ℕ) (q : List (List ℕ)) → RowsBelow k q → times_in k (letters_of q) ≡ 0
times-rows_below k [] h = refl
times-rows_below k (row ∷ q) h =
    omega (arith, times_in-append k row (letters_of q), times-below k row h.0, times-rows_below k q h.1)

below_fewer : (k : ℕ) (w : List ℕ) → AreBelow (k + 1) w → times_in k w ≡ 0 → AreBelow k w
below_fewer k [] h e = tt
below_fewer k (a ∷ w) h e = elim (cases_eq a k) [
  | inl s ↦
      let f : cond (a == k) 1 0 + times_in k w ≡ 1 + times_in k w = ap (λ t. cond t 1 0 + times_in k w) (eq-eqb a k s) in
      absurd (omega arith)
  | inr n ↦
      let f : cond (a == k) 1 0 + times_in k w ≡ 0 + times_in k w = ap (λ t. cond t 1 0 + times_in k w) (ne_eqb a k n) in
      (omega (arith, h.0), below_fewer k w h.1 (omega arith))
]

pub rows_below_fewer : (k : ℕ) (q : List (List ℕ)) → RowsBelow (k + 1) q → times_in k (letters_of q) ≡ 0 → RowsBelow k q
rows_below_fewer k [] h e = tt
rows_below_fewer k (row ∷ q) h e = search (rules, below_fewer, times_in-append, (rows_below_fewer k q h.1))

front_below : (k : ℕ) (v w : List ℕ) → AreBelow k (v ++ w) → AreBelow k v
front_below k [] w h = tt
front_below k (a ∷ v) w h = (h.0, front_below k v w h.1)

over_below : (k : ℕ) (row : List ℕ) (q : List (List ℕ)) → AreBelow k row → RowsBelow k q → RowsBelow k (row_over row q)
over_below k [] q h g = g
over_below k (a ∷ row) q h g = (h, g)

pub without_below : (m k l : ℕ) (q : List (List ℕ)) → AreRows m q → RowsBelow l q → RowsBelow l (without_step k q)
without_below m k l [] r h = tt
without_below m k l (row ∷ q) r h = elim (cases_eq (last_of row) k) [
  | inl e ↦
      subst (RowsBelow l) (sym (without-here k row q e))
      (over_below l (without_last row) q
      (front_below l (without_last row) (last_of row ∷ []) (subst (AreBelow l) (sym (ends row r.0.filled)) h.0)) h.1)
  | inr n ↦ subst (RowsBelow l) (sym (without-below k row q n)) (h.0, without_below m k l q r.1 h.1)
]

later_rows :
    (m k : ℕ) (row : List ℕ) (q : List (List ℕ)) → IsRowOver m row q → AreBelow (k + 1) row → last_of row ≢ k
    → 0 < times_in k (row ++ letters_of q) → 0 < times_in k (letters_of q)
later_rows m k row q h b n t = search (rules, last_below, times_in-append, times-below, below_last)

corner_here : (m k : ℕ) (row : List ℕ) (q : List (List ℕ)) → AreRows m (row ∷ q) → RowsBelow (k + 1) q → last_of row ≡ k → HasCorner 0 (length row ∷ shape_of q)
corner_here m k row [] h b e = tt
corner_here m k row (r ∷ q) h b e = search (rules, cases_lt, stands_last, stands-length, last_below)

pub corner_found :
    (m k : ℕ) (q : List (List ℕ)) → AreRows m q → RowsBelow (k + 1) q → 0 < times_in k (letters_of q) → HasCorner (row_ending k q) (shape_of q)
corner_found m k [] h b t = absurd (omega arith)
corner_found m k (row ∷ q) h b t = elim (cases_eq (last_of row) k) [
  | inl e ↦ subst (λ i. HasCorner i (length row ∷ shape_of q)) (sym (ending-here k row q e)) (corner_here m k row q h b.1 e)
  | inr n ↦
      subst (λ i. HasCorner i (length row ∷ shape_of q)) (sym (ending-below k row q n))
      (corner_found m k q h.1 b.1 (later_rows m k row q h.0 b.0 n t))
]

-- ---- taking out the greatest number k at the end of a row (`without_step`)

again_here :
    (m k : ℕ) (row' row front : List ℕ) (p q : List (List ℕ)) → front ++ k ∷ [] ≡ row → AreRows m (row ∷ q) → length row' ≡ length row
    → length (first_line q) < length row → with_step k (row' ∷ p) (row_over front q) ≡ row ∷ q
again_here m k row' row [] p q e h s l = search rules
again_here m k row' row (a ∷ f) p q e h s l = grind (arith, common_steps)

pub step_again :
    (m k : ℕ) (p q : List (List ℕ)) → AreRows m q → RowsBelow (k + 1) q → 0 < times_in k (letters_of q) → shape_of p ≡ shape_of q
    → with_step k p (without_step k q) ≡ q
step_again m k p [] h b t s = absurd (omega arith)
step_again m k [] (row ∷ q) h b t s = cc
step_again m k (row' ∷ p) (row ∷ q) h b t s =
    let long : length row' ≡ length row = cc in
    let rest : shape_of p ≡ shape_of q = cc in
    elim (cases_eq (last_of row) k) [
      | inl e ↦
          ap (with_step k (row' ∷ p)) (without-here k row q e)
          ∙ again_here m k row' row (without_last row) p q (ap (λ n. without_last row ++ n ∷ []) (sym e) ∙ ends row h.0.filled) h long
          (corner-next (length row) q h.0.filled (corner_here m k row q h b.1 e))
      | inr n ↦
          ap (with_step k (row' ∷ p)) (without-below k row q n) ∙ step-below k row' row p (without_step k q) (omega arith)
          ∙ ap (λ (r : List (List ℕ)). row ∷ r) (step_again m k p q h.1 b.1 (later_rows m k row q h.0 b.0 n t) rest)
    ]

first_over :
    (m k : ℕ) (row r front : List ℕ) (q : List (List ℕ)) → front ++ k ∷ [] ≡ r → AreRows m (r ∷ q) → length (first_line q) < length r
    → StandsOn r row → StandsOn (first_line (row_over front q)) row
first_over m k row r [] q e h l s = search rules
first_over m k row r (a ∷ f) q e h l s = front_stands (a ∷ f) (k ∷ []) row (subst (λ x. StandsOn x row) (sym e) s)

first_without :
    (m k : ℕ) (row : List ℕ) (q : List (List ℕ)) → AreRows m q → RowsBelow (k + 1) q → StandsOn (first_line q) row
    → StandsOn (first_line (without_step k q)) row
first_without m k row [] h b s = tt
first_without m k row (r ∷ q) h b s = elim (cases_eq (last_of r) k) [
  | inl e ↦
      subst (λ (x : List (List ℕ)). StandsOn (first_line x) row) (sym (without-here k r q e))
      (first_over m k row r (without_last r) q (ap (λ n. without_last r ++ n ∷ []) (sym e) ∙ ends r h.0.filled) h
      (corner-next (length r) q h.0.filled (corner_here m k r q h b.1 e)) s)
  | inr n ↦ subst (λ (x : List (List ℕ)). StandsOn (first_line x) row) (sym (without-below k r q n)) s
]

pub keeps_without : (m k : ℕ) (q : List (List ℕ)) → AreRows m q → RowsBelow (k + 1) q → AreRows m (without_step k q)
keeps_without m k [] h b = tt
keeps_without m k (row ∷ q) h b = elim (cases_eq (last_of row) k) [
  | inl e ↦
      let off = removed_here m (last_of row) row (without_last row) q (ends row h.0.filled) h
      (corner-next (length row) q h.0.filled (corner_here m k row q h b.1 e)) in
      subst (AreRows m) (sym (without-here k row q e)) off.rows_are
  | inr n ↦
      subst (AreRows m) (sym (without-below k row q n))
      (record { filled = h.0.filled; rises = h.0.rises; stands = first_without m k row q h.1 b.1 h.0.stands }, keeps_without m k q h.1 b.1)
]

-- ---- `removed`, for an insertion tableau, and `without_step`, for its recording tableau, remove the same cell of the common shape

-- the shape without the last cell of row i, counted from 0; a row that becomes empty is dropped
abbrev pub shape_less : ℕ → List ℕ → List ℕ
shape_less i [] = []
shape_less zero (a ∷ shape) = cond (nat_lt 1 a) ((a - 1) ∷ shape) shape
shape_less (suc i) (a ∷ shape) = a ∷ shape_less i shape

shape-over : (row : List ℕ) (rest : List (List ℕ)) → 0 < length row → shape_of (row_over (without_last row) rest) ≡ shape_less 0 (length row ∷ shape_of rest)
shape-over [] rest h = absurd (omega arith)
shape-over (a ∷ []) rest h = sym (ap (λ t. cond t (0 ∷ shape_of rest) (shape_of rest)) (le-ltb 1 1 (omega arith)))
shape-over (a ∷ b ∷ row) rest h = search (rules, length-without_last, lt-ltb)

pub shape-removed : (m i : ℕ) (p : List (List ℕ)) → AreRows m p → shape_of (removed i p).0 ≡ shape_less i (shape_of p)
shape-removed m zero [] h = refl
shape-removed m (suc i) [] h = refl
shape-removed m zero (row ∷ p) h = shape-over row p h.0.filled
shape-removed m (suc i) (row ∷ p) h = ap₂ (λ n s. n ∷ s) (length-back (removed i p).1 row) (shape-removed m i p h.1)

pub shape-without : (m k : ℕ) (q : List (List ℕ)) → AreRows m q → shape_of (without_step k q) ≡ shape_less (row_ending k q) (shape_of q)
shape-without m k [] h = refl
shape-without m k (row ∷ q) h =
    search (rules, cases_eq, without-here, shape-over, ending-here, without-below, ending-below, (shape-without m k q h.1))
