-- Shapes with one cell added, and the local rule at a corner of a square (`at_corner`).
use Rattle.std.proofs.Common.{◌≡◌, ℕ, zero, suc, ◌+◌, ◌<◌, ◌≤◌, Bool, false, cond, List, [], ◌∷◌, ◌++◌, length, ◌∙◌, ap, ap₂, sym, refl, inl, inr, arith}
use Rattle.sym_model.specs.Polynomial.{same}
use Rattle.sym_model.specs.Tableau.{shape_of}
use Rattle.sym_model.proofs.Exponents.{same_refl, same_apart, same_true, same_sym}
use Rattle.std.proofs.lemmas.Bool.{cases_Bool}
use Rattle.std.proofs.lemmas.List.{length-append}
use Rattle.insertion_laws.specs.Rows.{HasOneMore}
use Rattle.insertion_laws.proofs.Removals.{grown-here, grown-below}
use Rattle.sym_model.specs.Growth.{union, grown, with_cell, at_corner, with_end}

-- ---- shapes with one cell added, and the row of that cell (`grown`)

pub grown-cell : (k : ℕ) (s : List ℕ) → k ≤ length s → grown (with_cell k s) s ≡ k
grown-cell zero [] h = refl
grown-cell (suc k) [] h = absurd (omega arith)
grown-cell zero (a ∷ s) h = grown-here (a + 1) a s s (omega arith)
grown-cell (suc k) (a ∷ s) h = grown-below a a (with_cell k s) s (omega arith) ∙ ap suc (grown-cell k s (omega arith))

pub cell_apart : (k : ℕ) (s : List ℕ) → with_cell k s ≡ s → ⊥
cell_apart k [] e = cc
cell_apart zero (a ∷ s) e = let f : a + 1 ≡ a = cc in omega arith
cell_apart (suc k) (a ∷ s) e = cell_apart k s cc

pub cell_long : (k : ℕ) (s : List ℕ) → length s ≤ length (with_cell k s)
cell_long k [] = omega arith
cell_long zero (a ∷ s) = omega arith
cell_long (suc k) (a ∷ s) = omega (arith, cell_long k s)

pub cell_longer : (k : ℕ) (s : List ℕ) → k ≤ length s → k < length (with_cell k s)
cell_longer k [] h = omega arith
cell_longer zero (a ∷ s) h = omega arith
cell_longer (suc k) (a ∷ s) h = omega (arith, cell_longer k s (omega arith))

-- `large` is `small` with one cell added, in the row `grown large small`
pub record IsCellOf (large small : List ℕ) : Type 0 where
  pub is : large ≡ with_cell (grown large small) small
  pub within : grown large small ≤ length small

pub cell_of : (large small : List ℕ) → HasOneMore large small → IsCellOf large small
cell_of [] small h = absurd h
cell_of (a ∷ large) [] h = record { is = ap₂ (λ (n : ℕ) (l : List ℕ). n ∷ l) h.0 h.1; within = omega arith }
cell_of (a ∷ large) (b ∷ small) (inl h) =
    let e = grown-here a b large small (omega (arith, h.0)) in
    record {
      is = ap₂ (λ (n : ℕ) (l : List ℕ). n ∷ l) h.0 h.1 ∙ ap (λ i. with_cell i (b ∷ small)) (sym e);
      within = omega arith;
    }
cell_of (a ∷ large) (b ∷ small) (inr h) =
    let e = grown-below a b large small (omega (arith, h.0)) in
    let t = cell_of large small h.1 in
    record {
      is = ap₂ (λ (n : ℕ) (l : List ℕ). n ∷ l) h.0 t.is ∙ ap (λ i. with_cell i (b ∷ small)) (sym e);
      within = omega (arith, t.within);
    }

pub shape-last : (i k : ℕ) (rows : List (List ℕ)) → shape_of (with_end i k rows) ≡ with_cell i (shape_of rows)
shape-last i k [] = refl
shape-last zero k (row ∷ rows) =
    let e : length (row ++ k ∷ []) ≡ length row + 1 = length-append row (k ∷ []) in ap (λ n. n ∷ shape_of rows) e
shape-last (suc i) k (row ∷ rows) = ap (λ (s : List ℕ). length row ∷ s) (shape-last i k rows)

-- ---- the union of two shapes, and of a shape and the same shape with one cell added

pub union_comm : (s t : List ℕ) → union s t ≡ union t s
union_comm [] [] = refl
union_comm [] (b ∷ t) = refl
union_comm (a ∷ s) [] = refl
union_comm (a ∷ s) (b ∷ t) = ap₂ (λ (n : ℕ) (l : List ℕ). n ∷ l) (omega arith) (union_comm s t)

union-self : (s : List ℕ) → union s s ≡ s
union-self [] = refl
union-self (a ∷ s) = ap₂ (λ (n : ℕ) (l : List ℕ). n ∷ l) (omega arith) (union-self s)

pub union-cell : (k : ℕ) (s : List ℕ) → union s (with_cell k s) ≡ with_cell k s
union-cell k [] = refl
union-cell zero (a ∷ s) = ap₂ (λ (n : ℕ) (l : List ℕ). n ∷ l) (omega arith) (union-self s)
union-cell (suc k) (a ∷ s) = ap₂ (λ (n : ℕ) (l : List ℕ). n ∷ l) (omega arith) (union-cell k s)

pub union-cells : (k c : ℕ) (s : List ℕ) → k ≤ length s → c ≤ length s → (k ≡ c → ⊥) → union (with_cell k s) (with_cell c s) ≡ with_cell k (with_cell c s)
union-cells k c [] h l d = absurd (d (omega arith))
union-cells zero zero (a ∷ s) h l d = absurd (d refl)
union-cells zero (suc c) (a ∷ s) h l d = ap₂ (λ (n : ℕ) (l : List ℕ). n ∷ l) (omega arith) (union-cell c s)
union-cells (suc k) zero (a ∷ s) h l d =
    ap₂ (λ (n : ℕ) (l : List ℕ). n ∷ l) (omega arith) (union_comm (with_cell k s) s ∙ union-cell k s)
union-cells (suc k) (suc c) (a ∷ s) h l d =
    ap₂ (λ (n : ℕ) (l : List ℕ). n ∷ l) (omega arith) (union-cells k c s (omega arith) (omega arith) (λ e. d (ap suc e)))

-- ---- the local rule at a corner, case by case

corner-apart : (t : Bool) (s left right : List ℕ) → (left ≡ right → ⊥) → at_corner t s left right ≡ union left right
corner-apart t s left right d =
    ap (λ b. cond b (cond (same left s) (cond t (with_cell 0 s) s) (with_cell (suc (grown left s)) left)) (union left right)) (same_apart left right d)

corner-same : (t : Bool) (s left : List ℕ)
    → at_corner t s left left ≡ cond (same left s) (cond t (with_cell 0 s) s) (with_cell (suc (grown left s)) left)
corner-same t s left =
    ap (λ b. cond b (cond (same left s) (cond t (with_cell 0 s) s) (with_cell (suc (grown left s)) left)) (union left left)) (same_refl left)

pub corner-equal : (t : Bool) (s : List ℕ) → at_corner t s s s ≡ cond t (with_cell 0 s) s
corner-equal t s =
    corner-same t s s ∙ ap (λ b. cond b (cond t (with_cell 0 s) s) (with_cell (suc (grown s s)) s)) (same_refl s)

pub corner-left : (t : Bool) (k : ℕ) (s : List ℕ) → at_corner t s (with_cell k s) s ≡ with_cell k s
corner-left t k s = corner-apart t s (with_cell k s) s (cell_apart k s) ∙ union_comm (with_cell k s) s ∙ union-cell k s

pub corner-right : (t : Bool) (k : ℕ) (s : List ℕ) → at_corner t s s (with_cell k s) ≡ with_cell k s
corner-right t k s = corner-apart t s s (with_cell k s) (λ e. cell_apart k s (sym e)) ∙ union-cell k s

pub corner-two : (t : Bool) (k c : ℕ) (s : List ℕ) → k ≤ length s → c ≤ length s → (c ≡ k → ⊥)
    → at_corner t s (with_cell k s) (with_cell c s) ≡ with_cell k (with_cell c s)
corner-two t k c s h l d =
    corner-apart t s (with_cell k s) (with_cell c s)
    (λ e. d (sym (grown-cell c s l) ∙ ap (λ x. grown x s) (sym e) ∙ grown-cell k s h))
    ∙ union-cells k c s h l (λ e. d (sym e))

pub corner-pushed : (t : Bool) (k : ℕ) (s : List ℕ) → k ≤ length s
    → at_corner t s (with_cell k s) (with_cell k s) ≡ with_cell (suc k) (with_cell k s)
corner-pushed t k s h =
    corner-same t s (with_cell k s)
    ∙ ap (λ b. cond b (cond t (with_cell 0 s) s) (with_cell (suc (grown (with_cell k s) s)) (with_cell k s))) (same_apart (with_cell k s) s (cell_apart k s))
    ∙ ap (λ i. with_cell (suc i) (with_cell k s)) (grown-cell k s h)

-- the local rule is symmetric in the shapes `left` and `right`
pub corner-mirrored : (t : Bool) (s left right : List ℕ) → at_corner t s left right ≡ at_corner t s right left
corner-mirrored t s left right = elim (cases_Bool (same left right)) [
  | inl e ↦
      let f = same_true left right e in
      ap (at_corner t s left) (sym f) ∙ ap (λ x. at_corner t s x left) f
  | inr e ↦
      corner-by t s left right e ∙ union_comm left right ∙ sym (corner-by t s right left (same_sym right left ∙ e))
]
  where
    corner-by : (t : Bool) (s left right : List ℕ) → same left right ≡ false → at_corner t s left right ≡ union left right
    corner-by t s left right e =
        ap (λ b. cond b (cond (same left s) (cond t (with_cell 0 s) s) (with_cell (suc (grown left s)) left)) (union left right)) e
