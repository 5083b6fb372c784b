-- Row insertion is a bijection between words and pairs of a tableau and a standard tableau of the same shape.
use Rattle.std.proofs.Common.{◌≡◌, ◌≢◌, ℕ, zero, suc, ◌+◌, ◌<◌, ◌≤◌, ◌==◌, true, cond, List, [], ◌∷◌, ◌++◌, length, Some, ◌∙◌, ap, ap₂, sym, refl, subst, inl, inr, arith, nat_le, append_assoc, rules}
use Rattle.std.proofs.lemmas.Bool.{cases_eq, eq-eqb, ne_eqb, leb-true, and_parts}
use Rattle.std.proofs.lemmas.List.{length-append}
use Rattle.sym_model.specs.Insertion.{inserted, with_step, inserted_from, insertion_pair}
use Rattle.sym_model.specs.Partition.{size}
use Rattle.sym_model.specs.Schur.{letters_of, times_in}
use Rattle.sym_model.specs.StandardTableau.{IsStandard}
use Rattle.sym_model.specs.Tableau.{IsStraightTableau, are_letters, shape_of}
use Rattle.sym_model.specs.Growth.{grown}
use Rattle.sym_model.proofs.Tableaux.{length-letters_of}
use Rattle.insertion_laws.specs.Rows.{AreRows, RowsBelow, HasOneMore, HasCorner}
use Rattle.insertion_laws.specs.Removal.{removed, row_ending, without_step, steps_back, word_back}
use Rattle.insertion_laws.specs.Pairs.{IsPairAt}
use Rattle.insertion_laws.proofs.InsertedRows.{keeps_rows, adds_cell}
use Rattle.insertion_laws.proofs.RecordedSteps.{shape-step, times-step, below-step, keeps_steps, size-more}
use Rattle.insertion_laws.proofs.Removals.{IsRemoval, removal_at, off_again, step_found}
use Rattle.insertion_laws.proofs.LastSteps.{times-rows_below, rows_below_fewer, without_below, corner_found, step_again, keeps_without, shape_less, shape-removed, shape-without}
use Rattle.insertion_laws.proofs.TableauRows.{tableau_from, pair_from, standard_from}
use Rattle.sym_model.specs.Bounded.{AreAtLeast}

-- ---- the insertion and the recording tableau after one more letter is inserted

pub one_more : (a : ℕ) (p q : List (List ℕ)) → shape_of p ≡ shape_of q → HasOneMore (shape_of (inserted p (Some a))) (shape_of q)
one_more a p q e = subst (HasOneMore (shape_of (inserted p (Some a)))) e (adds_cell a p)

pub pair_step :
    (m n a : ℕ) (p q : List (List ℕ)) → m ≤ a → IsPairAt m n p q
    → IsPairAt m (n + 1) (inserted p (Some a)) (with_step (n + 1) (inserted p (Some a)) q)
pair_step m n a p q l h =
    let next = inserted p (Some a) in
    let k = n + 1 in
    let o = one_more a p q h.shapes in
    let rows = keeps_rows m a p l h.p_rows in
    let shape = shape-step k next q o in
    record {
      p_rows = rows;
      q_rows = keeps_steps m k next q (omega arith) rows h.q_rows h.below o;
      shapes = sym shape;
      below = below-step k next q h.below;
      once = λ j f t. elim (cases_eq k j) [
        | inl e ↦
            omega (
              arith,
              times-step j k next q o,
              ap {B = ℕ} (λ t. cond t 1 0) (eq-eqb k j e),
              ap (λ i. times_in i (letters_of q)) e,
              times-rows_below k q h.below,
            )
        | inr e ↦ omega (arith, times-step j k next q o, ap {B = ℕ} (λ t. cond t 1 0) (ne_eqb k j e), h.once j f (omega arith))
      ];
      cells = ap size shape ∙ size-more (shape_of next) (shape_of q) o ∙ ap (λ s. s + 1) h.cells;
    }

pub pair_run :
    (m n : ℕ) (w : List ℕ) (p q : List (List ℕ)) → AreAtLeast m w → IsPairAt m n p q
    → IsPairAt m (n + length w) (inserted_from (n + 1) w p q).0 (inserted_from (n + 1) w p q).1
pair_run m n [] p q f h = let e : n ≡ n + 0 = omega arith in subst (λ i. IsPairAt m i p q) e h
pair_run m n (a ∷ w) p q f h =
    let next = inserted p (Some a) in
    let e : n + 1 + length w ≡ n + suc (length w) = omega arith in
    let r = inserted_from (n + 1 + 1) w next (with_step (n + 1) next q) in
    subst (λ i. IsPairAt m i r.0 r.1) e (pair_run m (n + 1) w next (with_step (n + 1) next q) f.1 (pair_step m n a p q f.0 h))

no_pair : (m : ℕ) → IsPairAt m 0 [] []
no_pair m = search rules

pub pair_of : (m : ℕ) (w : List ℕ) → AreAtLeast m w → IsPairAt m (length w) (insertion_pair w).0 (insertion_pair w).1
pair_of m w f =
    let e : 0 + length w ≡ length w = omega arith in
    subst (λ i. IsPairAt m i (insertion_pair w).0 (insertion_pair w).1) e (pair_run m 0 w [] [] f (no_pair m))

from_zero : (w : List ℕ) → AreAtLeast 0 w
from_zero [] = tt
from_zero (a ∷ w) = (omega arith, from_zero w)

pub from_letters : (w : List ℕ) → are_letters w ≡ true → AreAtLeast 1 w
from_letters [] h = tt
from_letters (a ∷ w) h = let p = and_parts (nat_le 1 a) (are_letters w) h in (leb-true 1 a p.0, from_letters w p.1)

step_back :
    (m n a : ℕ) (p q : List (List ℕ)) → IsPairAt m n p q
    → steps_back (n + 1) (inserted p (Some a)) (with_step (n + 1) (inserted p (Some a)) q) ≡ steps_back n p q ++ a ∷ []
step_back m n a p q h =
    let next = inserted p (Some a) in
    let k = suc n in
    let e : n + 1 ≡ suc n = omega arith in
    let o = one_more a p q h.shapes in
    let below : RowsBelow k q = subst (λ i. RowsBelow i q) e h.below in
    let found = step_found 1 k next q h.q_rows below o in
    let row : row_ending k (with_step k next q) ≡ grown (shape_of next) (shape_of p) =
    found.0 ∙ ap (grown (shape_of next)) (sym h.shapes) in
    let off : removed (row_ending k (with_step k next q)) next ≡ (p, a) =
    ap (λ i. removed i next) row ∙ off_again m a p h.p_rows in
    ap (λ i. steps_back i next (with_step i next q)) e
    ∙ ap₂ (λ (x : List (List ℕ) × ℕ) (y : List (List ℕ)). steps_back n x.0 y ++ x.1 ∷ []) off found.1

run_back :
    (m n : ℕ) (w : List ℕ) (p q : List (List ℕ)) → AreAtLeast m w → IsPairAt m n p q
    → steps_back (n + length w) (inserted_from (n + 1) w p q).0 (inserted_from (n + 1) w p q).1 ≡ steps_back n p q ++ w
run_back m n [] p q f h = search rules
run_back m n (a ∷ w) p q f h =
    let next = inserted p (Some a) in
    let e : n + suc (length w) ≡ n + 1 + length w = omega arith in
    let r = inserted_from (n + 1 + 1) w next (with_step (n + 1) next q) in
    ap (λ i. steps_back i r.0 r.1) e
    ∙ run_back m (n + 1) w next (with_step (n + 1) next q) f.1 (pair_step m n a p q f.0 h)
    ∙ ap (λ v. v ++ w) (step_back m n a p q h) ∙ append_assoc (steps_back n p q) (a ∷ []) w

pub word_again : (w : List ℕ) → word_back (insertion_pair w).0 (insertion_pair w).1 ≡ w
word_again w =
    let h = pair_of 0 w (from_zero w) in
    let e : length (letters_of (insertion_pair w).1) ≡ 0 + length w = omega (arith, length-letters_of (insertion_pair w).1, h.cells) in
    ap (λ i. steps_back i (insertion_pair w).0 (insertion_pair w).1) e ∙ run_back 0 0 w [] [] (from_zero w) (no_pair 0)

-- ---- inserting the word that is found by undoing insertions gives the pair

-- the insertion and the recording tableau after the letter a is inserted, recorded with the number k
abbrev pub pair_after : ℕ → ℕ → List (List ℕ) × List (List ℕ) → List (List ℕ) × List (List ℕ)
pair_after k a r = let next = inserted r.0 (Some a) in (next, with_step k next r.1)

pub inserted-more :
    (k a : ℕ) (w : List ℕ) (p q : List (List ℕ)) → inserted_from k (w ++ a ∷ []) p q ≡ pair_after (k + length w) a (inserted_from k w p q)
inserted-more k a [] p q = search rules
inserted-more k a (b ∷ w) p q =
    let next = inserted p (Some b) in
    let e : k + 1 + length w ≡ k + suc (length w) = omega arith in
    inserted-more (k + 1) a w next (with_step k next q)
    ∙ ap (λ i. pair_after i a (inserted_from (k + 1) w next (with_step k next q))) e

length-back : (n : ℕ) (p q : List (List ℕ)) → length (steps_back n p q) ≡ n
length-back zero p q = refl
length-back (suc n) p q =
    let off = removed (row_ending (suc n) q) p in
    omega (
      arith,
      length-append (steps_back n off.0 (without_step (suc n) q)) (off.1 ∷ []),
      length-back n off.0 (without_step (suc n) q),
    )

no_cells : (m : ℕ) (p : List (List ℕ)) → AreRows m p → size (shape_of p) ≡ 0 → p ≡ []
no_cells m [] h e = refl
no_cells m (row ∷ p) h e = let f = h.0.filled in absurd (omega arith)

-- if p and q are a pair with n + 1 cells (`IsPairAt`), undoing the last insertion leaves a pair with n cells, inserting the letter that leaves p
-- gives p again, and recording n + 1 gives q again
pub pair_before :
    (m n : ℕ) (p q : List (List ℕ)) → IsPairAt m (suc n) p q
    → IsPairAt m n (removed (row_ending (suc n) q) p).0 (without_step (suc n) q)
    × IsRemoval m p (removed (row_ending (suc n) q) p).0 (removed (row_ending (suc n) q) p).1
    × (with_step (suc n) p (without_step (suc n) q) ≡ q)
pair_before m n p q h =
    let k = suc n in
    let i = row_ending k q in
    let rest = without_step k q in
    let once = h.once k (omega arith) (omega arith) in
    let some : 0 < times_in k (letters_of q) = omega arith in
    let corner = subst (λ s. HasCorner i s) (sym h.shapes) (corner_found 1 k q h.q_rows h.below some) in
    let r = removal_at m i p h.p_rows corner in
    let again = step_again 1 k p q h.q_rows h.below some h.shapes in
    let same : shape_of (removed i p).0 ≡ shape_of rest =
    shape-removed m i p h.p_rows ∙ ap (shape_less i) h.shapes ∙ sym (shape-without 1 k q h.q_rows) in
    let o : HasOneMore (shape_of p) (shape_of rest) =
    subst (λ (t : List (List ℕ)). HasOneMore (shape_of t) (shape_of rest)) r.gives (one_more (removed i p).1 (removed i p).0 rest same) in
    let times : (j : ℕ) → times_in j (letters_of q) ≡ times_in j (letters_of rest) + cond (k == j) 1 0 =
    λ (j : ℕ). ap (λ (x : List (List ℕ)). times_in j (letters_of x)) (sym again) ∙ times-step j k p rest o in
    let e : suc n ≡ n + 1 = omega arith in
    let none : times_in k (letters_of rest) ≡ 0 = omega (arith, times k, ap {B = ℕ} (λ t. cond t 1 0) (eq-eqb k k refl)) in (
      record {
        p_rows = r.rows_are;
        q_rows = keeps_without 1 k q h.q_rows h.below;
        shapes = same;
        below = subst (λ i. RowsBelow i rest) e (rows_below_fewer k rest (without_below 1 k (k + 1) q h.q_rows h.below) none);
        once = λ j f t.
            let other : k ≢ j = omega arith in
            omega (arith, times j, ap {B = ℕ} (λ t. cond t 1 0) (ne_eqb k j other), h.once j f (omega arith));
        cells = omega (arith, size-more (shape_of p) (shape_of rest) o, ap size h.shapes, h.cells);
      },
      r,
      again,
    )

pub pair_again : (m n : ℕ) (p q : List (List ℕ)) → IsPairAt m n p q → insertion_pair (steps_back n p q) ≡ (p, q)
pair_again m zero p q h = search (rules, no_cells)
pair_again m (suc n) p q h =
    let off = removed (row_ending (suc n) q) p in
    let rest = without_step (suc n) q in
    let w = steps_back n off.0 rest in
    let b = pair_before m n p q h in
    let e : 1 + length w ≡ suc n = omega (arith, length-back n off.0 rest) in
    inserted-more 1 off.1 w [] [] ∙ ap₂ (λ i (r : List (List ℕ) × List (List ℕ)). pair_after i off.1 r) e (pair_again m n off.0 rest b.0)
    ∙ ap {B = List (List ℕ) × List (List ℕ)} (λ (t : List (List ℕ)). (t, with_step (suc n) t rest)) b.1.gives
    ∙ ap {B = List (List ℕ) × List (List ℕ)} (λ (t : List (List ℕ)). (p, t)) b.2

pub pair_back : (p q : List (List ℕ)) → IsStraightTableau p → IsStandard q → shape_of p ≡ shape_of q → insertion_pair (word_back p q) ≡ (p, q)
pair_back p q t s e = pair_again 1 (length (letters_of q)) p q (pair_from p q t s e)

-- ---- the insertion tableau of a word with positive letters is straight, and the recording tableau is standard

pub inserted_tableau : (w : List ℕ) → are_letters w ≡ true → IsStraightTableau (insertion_pair w).0
inserted_tableau w h = tableau_from (insertion_pair w).0 (pair_of 1 w (from_letters w h)).p_rows

pub recorded_tableau : (w : List ℕ) → IsStandard (insertion_pair w).1
recorded_tableau w = standard_from 0 (length w) (insertion_pair w).0 (insertion_pair w).1 (pair_of 0 w (from_zero w))

pub one_shape : (w : List ℕ) → shape_of (insertion_pair w).0 ≡ shape_of (insertion_pair w).1
one_shape w = (pair_of 0 w (from_zero w)).shapes

pub as_many_cells : (w : List ℕ) → size (shape_of (insertion_pair w).0) ≡ length w
as_many_cells w = let h = pair_of 0 w (from_zero w) in ap size h.shapes ∙ h.cells
