-- A word inserted letter by letter, and the insertions of a pair of tableaux undone one by one.
use Rattle.std.proofs.Common.{◌≡◌, ℕ, zero, suc, ◌+◌, ◌<◌, ◌≤◌, true, nat_le, List, [], ◌∷◌, ◌++◌, length, drop, get_or, reverse, Some, ◌∙◌, ap, ap₂, sym, subst, arith, append-nil, append_assoc}
use Rattle.std.proofs.lemmas.Bool.{leb-true, and_parts}
use Rattle.std.proofs.lemmas.List.{reverse-append, length-map}
use Rattle.sym_model.specs.Insertion.{inserted, with_step, inserted_from, insertion_pair}
use Rattle.sym_model.specs.Partition.{size}
use Rattle.sym_model.specs.Schur.{row_lengths, letters_of}
use Rattle.sym_model.specs.StandardTableau.{IsStandard}
use Rattle.sym_model.specs.Tableau.{SkewFilling, IsTableau, IsStraightTableau, are_letters, shape_of}
use Rattle.skew_shapes.specs.CellFillings.{IsTableauWithin}
use Rattle.sym_model.specs.Growth.{grown, with_end}
use Rattle.sym_model.proofs.Tableaux.{length-letters_of, row_lengths-none}
use Rattle.insertion_laws.specs.Rows.{HasOneMore, HasCorner}
use Rattle.insertion_laws.specs.Removal.{removed, row_ending, without_step, steps_back, word_back}
use Rattle.insertion_laws.specs.Pairs.{IsPairAt}
use Rattle.insertion_laws.proofs.InsertedRows.{adds_cell}
use Rattle.insertion_laws.proofs.LastSteps.{corner_found}
use Rattle.insertion_laws.proofs.Removals.{grown-within, end-step}
use Rattle.insertion_laws.proofs.TableauRows.{pair_from, standard_from}
use Rattle.insertion_laws.proofs.WordsAndPairs.{pair_step, pair_before, pair_again, word_again}
use Rattle.row_insertion.specs.Pairs.{HaveOneShape, IsTheWordOf}
use Rattle.row_insertion.specs.RowLists.{without_end}
use Rattle.row_insertion.proofs.ShrinkingRows.{without_ending}

-- ---- a word inserted letter by letter

-- p and q are the insertion tableau and the recording tableau of the first `at` letters of w; inserting the other letters gives the pair of w
pub record IsRun (w : List ℕ) (at : ℕ) (p q : List (List ℕ)) : Type 0 where
  pub pair : IsPairAt 1 at p q
  pub rest : insertion_pair w ≡ inserted_from (at + 1) (drop at w) p q

letter_at : (w : List ℕ) (i a : ℕ) → i < length w → are_letters w ≡ true → a ≡ get_or w i a → 1 ≤ a
letter_at [] i a h l e = absurd (omega arith)
letter_at (b ∷ w) zero a h l e = omega (arith, leb-true 1 b (and_parts (nat_le 1 b) (are_letters w) l).0)
letter_at (b ∷ w) (suc i) a h l e = letter_at w i a (omega arith) (and_parts (nat_le 1 b) (are_letters w) l).1 e

split_word : (w : List ℕ) (i a : ℕ) → i < length w → a ≡ get_or w i a → drop i w ≡ a ∷ drop (i + 1) w
split_word w i a h e = let s : i + 1 ≡ suc i = omega arith in by w i h e ∙ ap (λ n. a ∷ drop n w) (sym s)
  where
    by : (w : List ℕ) (i : ℕ) → i < length w → a ≡ get_or w i a → drop i w ≡ a ∷ drop (suc i) w
    by [] i h e = absurd (omega arith)
    by (b ∷ w) zero h e = ap (λ x. x ∷ w) (sym e)
    by (b ∷ w) (suc i) h e = by w i (omega arith) e

cell_more : (a : ℕ) (p q next : List (List ℕ)) → shape_of p ≡ shape_of q → next ≡ inserted p (Some a) → HasOneMore (shape_of next) (shape_of q)
cell_more a p q next s e =
    subst (λ (l : List (List ℕ)). HasOneMore (shape_of l) (shape_of q)) (sym e)
    (subst (HasOneMore (shape_of (inserted p (Some a)))) s (adds_cell a p))

pub run_place :
    (w : List ℕ) (at i : ℕ) (p q next : List (List ℕ)) → IsRun w at p q → i ≡ grown (shape_of next) (shape_of p) → i ≤ length q
run_place w at i p q next s e =
    omega (
      arith,
      grown-within (shape_of next) (shape_of p),
      ap (λ (l : List ℕ). length l) s.pair.shapes,
      length-map q length,
    )

pub run_more :
    (w : List ℕ) (at a i : ℕ) (p q next after : List (List ℕ)) → at < length w → are_letters w ≡ true → a ≡ get_or w at a
    → IsRun w at p q → next ≡ inserted p (Some a) → i ≡ grown (shape_of next) (shape_of p) → after ≡ with_end i (at + 1) q
    → IsRun w (at + 1) next after
run_more w at a i p q next after h l e s f g r =
    let k = at + 1 in
    let place : i ≡ grown (shape_of next) (shape_of q) = g ∙ ap (grown (shape_of next)) s.pair.shapes in
    let now : after ≡ with_step k next q =
    r ∙ ap (λ n. with_end n k q) place ∙ end-step k next q (cell_more a p q next s.pair.shapes f) in
    let both : with_step k (inserted p (Some a)) q ≡ after = ap (λ (x : List (List ℕ)). with_step k x q) (sym f) ∙ sym now in
    let step = pair_step 1 at a p q (letter_at w at a h l e) s.pair in
    record {
      pair = subst (IsPairAt 1 k next) both (subst (λ (x : List (List ℕ)). IsPairAt 1 k x (with_step k (inserted p (Some a)) q)) (sym f) step);
      rest =
          s.rest ∙ ap (λ v. inserted_from k v p q) (split_word w at a h e)
          ∙ ap₂ (λ (x y : List (List ℕ)). inserted_from (k + 1) (drop k w) x y) (sym f) both;
    }

pub run_standard : (w : List ℕ) (at : ℕ) (p q : List (List ℕ)) → IsRun w at p q → IsStandard q
run_standard w at p q s = standard_from 1 at p q s.pair

-- ---- the insertions undone, from the last one to the first

-- undoing the insertions n, n - 1, .., step + 1 of the pair p, q has given `letters`, the last letter of the word first, and the pair `now`, `after`
-- of the first `step` insertions is left
pub record IsUnwinding (p q : List (List ℕ)) (n step : ℕ) (now after : List (List ℕ)) (letters : List ℕ) : Type 0 where
  pub start : IsPairAt 1 n p q
  pub pair : IsPairAt 1 step now after
  pub word : steps_back n p q ≡ steps_back step now after ++ reverse letters

pub unwinding_starts : (p q : List (List ℕ)) (n : ℕ) → IsPairAt 1 n p q → IsUnwinding p q n n p q []
unwinding_starts p q n h = record { start = h; pair = h; word = sym (append-nil (steps_back n p q)) }

corner_within : (i : ℕ) (shape : List ℕ) → HasCorner i shape → i < length shape
corner_within zero [] h = absurd h
corner_within (suc i) [] h = absurd h
corner_within zero (a ∷ shape) h = omega arith
corner_within (suc i) (a ∷ shape) h = omega (arith, corner_within i shape h)

pub unwinding_row :
    (p q : List (List ℕ)) (n step : ℕ) (now after : List (List ℕ)) (letters : List ℕ) → IsUnwinding p q n step now after letters
    → 0 < step → (row_ending step after < length after) × (row_ending step after < length now)
unwinding_row p q n step now after letters h f =
    let once = h.pair.once step (omega arith) (omega arith) in
    let c = corner_within (row_ending step after) (shape_of after) (corner_found 1 step after h.pair.q_rows h.pair.below (omega arith)) in (
      omega (arith, length-map after length),
      omega (arith, length-map now length, ap (λ (l : List ℕ). length l) h.pair.shapes),
    )

pub unwinding_more :
    (p q : List (List ℕ)) (n step left i a : ℕ) (now after now' after' : List (List ℕ)) (letters letters' : List ℕ) → step ≡ suc left
    → i ≡ row_ending step after → after' ≡ without_end i after → (now', a) ≡ removed i now → letters' ≡ letters ++ a ∷ []
    → IsUnwinding p q n step now after letters → IsUnwinding p q n left now' after' letters'
unwinding_more p q n step left i a now after now' after' letters letters' s e f g l h =
    let same : i ≡ row_ending (suc left) after = e ∙ ap (λ k. row_ending k after) s in
    let rest : after' ≡ without_step (suc left) after =
    f ∙ ap (λ j. without_end j after) same ∙ without_ending (suc left) after in
    let off : removed (row_ending (suc left) after) now ≡ (now', a) = ap (λ j. removed j now) (sym same) ∙ sym g in
    let before = pair_before 1 left now after (subst (λ k. IsPairAt 1 k now after) s h.pair) in
    record {
      start = h.start;
      pair =
          subst (IsPairAt 1 left now') (sym rest)
          (subst (λ (x : List (List ℕ)). IsPairAt 1 left x (without_step (suc left) after)) (ap (λ (x : List (List ℕ) × ℕ). x.0) off) before.0);
      word =
          h.word ∙ ap (λ k. steps_back k now after ++ reverse letters) s
          ∙ ap₂ (λ (x : List (List ℕ) × ℕ) (y : List (List ℕ)). (steps_back left x.0 y ++ x.1 ∷ []) ++ reverse letters) off (sym rest)
          ∙ append_assoc (steps_back left now' after') (a ∷ []) (reverse letters)
          ∙ ap (λ w. steps_back left now' after' ++ w) (sym (reverse-append letters (a ∷ [])) ∙ ap reverse (sym l));
    }

pub unwinding_ends :
    (p q : List (List ℕ)) (n step : ℕ) (now after : List (List ℕ)) (letters word : List ℕ) → step ≡ 0
    → word ≡ reverse letters → IsUnwinding p q n step now after letters → IsTheWordOf word p q
unwinding_ends p q n step now after letters word e f s =
    let same : steps_back n p q ≡ word = s.word ∙ ap (λ k. steps_back k now after ++ reverse letters) e ∙ sym f in
    let count : length (letters_of q) ≡ n = length-letters_of q ∙ s.start.cells in
    record {
      inserted = ap insertion_pair (sym same) ∙ pair_again 1 n p q s.start;
      only = λ other g.
          sym (word_again other) ∙ ap (λ (r : List (List ℕ) × List (List ℕ)). word_back r.0 r.1) g ∙ ap (λ k. steps_back k p q) count ∙ same;
    }

straight_shape :
    (t : SkewFilling) (rows : List (List ℕ)) → shape_of rows ≡ row_lengths t.outer t.inner → t.inner ≡ [] → shape_of rows ≡ t.outer
straight_shape t rows h e = h ∙ ap (row_lengths t.outer) e ∙ row_lengths-none t.outer

-- if p is a tableau, q is standard, and both have the same straight shape of n cells, their rows are a pair (`IsPairAt`) in which q has the numbers
-- 1, .., n
pub given_pair :
    (p q : SkewFilling) (n : ℕ) (ps qs : List (List ℕ)) → IsTableauWithin p → IsStandard q.rows → HaveOneShape p q
    → n + size p.inner ≡ size p.outer → ps ≡ p.rows → shape_of ps ≡ row_lengths p.outer p.inner → qs ≡ q.rows
    → shape_of qs ≡ row_lengths q.outer q.inner → IsPairAt 1 n p.rows q.rows
given_pair p q n ps qs h s o e a b f g =
    let shape_p : shape_of p.rows ≡ p.outer = ap shape_of (sym a) ∙ straight_shape p ps b o.p_straight in
    let shape_q : shape_of q.rows ≡ q.outer = ap shape_of (sym f) ∙ straight_shape q qs g o.q_straight in
    let straight : IsStraightTableau p.rows =
    subst (λ l. IsTableau l [] p.rows) (sym shape_p) (subst (λ l. IsTableau p.outer l p.rows) o.p_straight h.tableau) in
    let same : shape_of p.rows ≡ shape_of q.rows = shape_p ∙ o.same ∙ sym shape_q in
    let none : size p.inner ≡ 0 = ap size o.p_straight in
    let count : length (letters_of q.rows) ≡ n =
    omega (arith, length-letters_of q.rows, ap size (shape_q ∙ sym o.same)) in
    subst (λ k. IsPairAt 1 k p.rows q.rows) count (pair_from p.rows q.rows straight s same)

pub unwinding_given :
    (p q : SkewFilling) (n : ℕ) (ps qs : List (List ℕ)) (letters : List ℕ) → IsPairAt 1 n p.rows q.rows → ps ≡ p.rows → qs ≡ q.rows
    → letters ≡ [] → IsUnwinding p.rows q.rows n n ps qs letters
unwinding_given p q n ps qs letters h a f e =
    subst (λ (l : List ℕ). IsUnwinding p.rows q.rows n n ps qs l) (sym e)
    (subst (λ (x : List (List ℕ)). IsUnwinding p.rows q.rows n n x qs []) (sym a)
    (subst (λ (y : List (List ℕ)). IsUnwinding p.rows q.rows n n p.rows y []) (sym f) (unwinding_starts p.rows q.rows n h)))
