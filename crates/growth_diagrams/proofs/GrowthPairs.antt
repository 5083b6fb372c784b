-- The insertion tableaux and the recording tableaux of a permutation and of its inverse, read from the growth shapes of the permutation.
use Rattle.std.proofs.Common.{◌≡◌, ℕ, zero, suc, ◌+◌, ◌-◌, ◌<◌, ◌≤◌, ◌==◌, Bool, cond, List, [], ◌∷◌, ◌++◌, length, take, get_or, Some, ◌∙◌, ap, ap₂, sym, refl, subst, inl, inr, arith, nat_le}
use Rattle.std.proofs.lemmas.Bool.{cases_lt, cases_eq, le-leb, lt-leb, eq-eqb, ne_eqb}
use Rattle.std.proofs.lemmas.List.{length-take-le, nil_from_length}
use Rattle.std.proofs.Math.Seq.{take-suc, take-length}
use Rattle.sym_model.specs.Insertion.{inserted, insertion_pair}
use Rattle.sym_model.specs.Permutation.{AreInverse, IsOneLine, letter}
use Rattle.sym_model.specs.Schur.{times_in}
use Rattle.sym_model.specs.Sum.{Among, Once}
use Rattle.sym_model.specs.Tableau.{shape_of}
use Rattle.insertion_laws.proofs.Removals.{end-step}
use Rattle.insertion_laws.proofs.WordsAndPairs.{one_more, one_shape, inserted-more}
use Rattle.sym_model.specs.Growth.{at_corner, at_most, grown, growth_shape, tableau_of_chain, with_end}
use Rattle.insertion_laws.proofs.InsertedWords.{inserted_word, first-tableau}
use Rattle.growth_diagrams.proofs.Cells.{grown-cell, shape-last, corner-mirrored}
use Rattle.growth_diagrams.proofs.LocalRules.{AreDifferent, AreGrown, alone, ended, extends, grown-shape, shape_at, shapes_grown, tableau_of}
use Rattle.sym_model.specs.Bounded.{AreBelow}
use Rattle.sym_model.proofs.Contents.{times_in-none}

-- ---- the growth grid of the inverse permutation

inverse-place : (v w : List ℕ) (i j : ℕ) → ((k : ℕ) → 1 ≤ k → k ≤ length w → letter v (letter w k) ≡ k) → i < length w
    → letter w (suc i) ≡ suc j → letter v (suc j) ≡ suc i
inverse-place v w i j h l e = ap (letter v) (sym e) ∙ h (suc i) (omega arith) (omega arith)

same_test : (a b c d : ℕ) → (a ≡ b → c ≡ d) → (c ≡ d → a ≡ b) → (a == b) ≡ (c == d)
same_test a b c d f g = elim (cases_eq a b) [
  | inl e ↦ eq-eqb a b e ∙ sym (eq-eqb c d (f e))
  | inr n ↦ ne_eqb a b n ∙ sym (ne_eqb c d (λ e. n (g e)))
]

pub first_column : (w : List ℕ) (i : ℕ) → growth_shape w i 0 ≡ []
first_column w zero = refl
first_column w (suc i) = refl

mirrored : (v w : List ℕ) → AreInverse v w → AreGrown v (λ i j. growth_shape w j i)
mirrored v w h =
    let n = h.as_long in
    record {
      left_edge = λ i. refl;
      top_edge = λ j. first_column w j;
      squares = λ i j l m.
          let test : (letter w (suc j) == suc i) ≡ (letter v (suc i) == suc j) =
          same_test (letter w (suc j)) (suc i) (letter v (suc i)) (suc j) (inverse-place v w j i h.back (omega arith))
          (inverse-place w v i j (λ k a b. h.forth k a (omega arith)) l) in
          ap (λ t. at_corner t (growth_shape w j i) (growth_shape w j (suc i)) (growth_shape w (suc j) i)) test
          ∙ corner-mirrored (letter v (suc i) == suc j) (growth_shape w j i) (growth_shape w j (suc i)) (growth_shape w (suc j) i);
    }

-- ---- permutations: words of n different letters from 1 to n

once_different : (w : List ℕ) → Once w → AreDifferent w
once_different [] h k = omega arith
once_different (a ∷ w) h k = elim (cases_eq a k) [
  | inl e ↦
      omega (arith, ap {B = ℕ} (λ t. cond t 1 0) (eq-eqb a k e), times_in-none k w (λ m. h.0 (subst (λ x. Among x w) (sym e) m)))
  | inr d ↦ omega (arith, ap {B = ℕ} (λ t. cond t 1 0) (ne_eqb a k d), once_different w h.1 k)
]

pub at_most_all : (n : ℕ) (w : List ℕ) → AreBelow (suc n) w → at_most n w ≡ w
at_most_all n [] h = refl
at_most_all n (a ∷ w) h =
    ap (λ t. cond t (a ∷ at_most n w) (at_most n w)) (le-leb a n (omega (arith, h.0))) ∙ ap (λ (v : List ℕ). a ∷ v) (at_most_all n w h.1)

among_at_most : (n : ℕ) (w : List ℕ) → ((a : ℕ) → Among a w → a ≤ n) → AreBelow (suc n) w
among_at_most n [] h = tt
among_at_most n (a ∷ w) h = (omega (arith, h a (inl refl)), among_at_most n w (λ b m. h b (inr m)))

taken_at_most : (n i : ℕ) (w : List ℕ) → AreBelow (suc n) w → AreBelow (suc n) (take i w)
taken_at_most n zero w h = tt
taken_at_most n (suc i) [] h = tt
taken_at_most n (suc i) (a ∷ w) h = (h.0, taken_at_most n i w h.1)

at_most-more : (j : ℕ) (w : List ℕ) → length (at_most (suc j) w) ≡ length (at_most j w) + times_in (suc j) w
at_most-more j [] = refl
at_most-more j (a ∷ w) =
    let long = λ (i : ℕ) (t : Bool) (e : nat_le a i ≡ t). ap (λ t. length (cond t (a ∷ at_most i w) (at_most i w))) e in
    let rest = at_most-more j w in
    elim (cases_lt j a) [
      | inr l ↦
          omega (
            arith,
            ap (λ t. length (cond t (a ∷ at_most j w) (at_most j w))) (le-leb a j l),
            ap (λ t. length (cond t (a ∷ at_most (suc j) w) (at_most (suc j) w))) (le-leb a (suc j) (omega arith)),
            ap {B = ℕ} (λ t. cond t 1 0) (ne_eqb a (suc j) (λ e. omega arith)),
          )
      | inl l ↦ elim (cases_eq a (suc j)) [
        | inl e ↦
            omega (
              arith,
              ap (λ t. length (cond t (a ∷ at_most j w) (at_most j w))) (lt-leb a j l),
              ap (λ t. length (cond t (a ∷ at_most (suc j) w) (at_most (suc j) w))) (le-leb a (suc j) (omega arith)),
              ap {B = ℕ} (λ t. cond t 1 0) (eq-eqb a (suc j) e),
            )
        | inr d ↦
            omega (
              arith,
              ap (λ t. length (cond t (a ∷ at_most j w) (at_most j w))) (lt-leb a j l),
              ap (λ t. length (cond t (a ∷ at_most (suc j) w) (at_most (suc j) w))) (lt-leb a (suc j) (omega arith)),
              ap {B = ℕ} (λ t. cond t 1 0) (ne_eqb a (suc j) d),
            )
      ]
    ]

up_by_one : (f : ℕ → ℕ) → ((j : ℕ) → f (suc j) ≤ f j + 1) → (d j : ℕ) → f (d + j) ≤ f j + d
up_by_one f h zero j = let e : 0 + j ≡ j = omega arith in omega (arith, ap f e)
up_by_one f h (suc d) j = let e : suc d + j ≡ suc (d + j) = omega arith in omega (arith, ap f e, h (d + j), up_by_one f h d j)

all_steps : (f : ℕ → ℕ) (n : ℕ) → ((j : ℕ) → f (suc j) ≤ f j + 1) → f 0 ≡ 0 → f n ≡ n → (j : ℕ) → j ≤ n → f j ≡ j
all_steps f n h z e j l =
    let a : n - j + j ≡ n = omega arith in
    let b : j + 0 ≡ j = omega arith in
    omega (arith, up_by_one f h (n - j) j, ap f a, up_by_one f h j 0, ap f b)

-- w is a permutation: its letters are different, and from 1 to its length
pub record IsPerm (w : List ℕ) : Type 0 where
  pub different : AreDifferent w
  pub no_zero : times_in 0 w ≡ 0
  pub at_most_n : AreBelow (suc (length w)) w
  pub there : (j : ℕ) → j < length w → times_in (suc j) w ≡ 1

no_letters : (w : List ℕ) → times_in 0 w ≡ 0 → length (at_most 0 w) ≡ 0
no_letters [] h = refl
no_letters (zero ∷ w) h = absurd (omega arith)
no_letters (suc a ∷ w) h =
    ap (λ t. length (cond t (suc a ∷ at_most 0 w) (at_most 0 w))) (lt-leb (suc a) 0 (omega arith)) ∙ no_letters w (omega arith)

pub perm_from : (w : List ℕ) → IsOneLine w → IsPerm w
perm_from w h =
    let d = once_different w h.once in
    let z : times_in 0 w ≡ 0 = times_in-none 0 w (λ m. let l = (h.letters 0 m).0 in absurd (omega arith)) in
    let most = among_at_most (length w) w (λ a m. (h.letters a m).1) in
    let f = λ (j : ℕ). length (at_most j w) in
    let steps : (j : ℕ) → length (at_most j w) ≡ j → length (at_most (suc j) w) ≡ suc j → times_in (suc j) w ≡ 1 =
    λ (j : ℕ) (p : length (at_most j w) ≡ j) (q : length (at_most (suc j) w) ≡ suc j). omega (arith, at_most-more j w) in
    let all = all_steps f (length w) (λ j. omega (arith, at_most-more j w, d (suc j))) (no_letters w z) (ap (λ (v : List ℕ). length v) (at_most_all (length w) w most)) in
    record {
      different = d;
      no_zero = z;
      at_most_n = most;
      there = λ j l. steps j (all j (omega arith)) (all (suc j) (omega arith));
    }

-- ---- the insertion tableau is read from the last line of the growth grid

chain_same : (n : ℕ) (s t : ℕ → List ℕ) → ((k : ℕ) → k ≤ n → s k ≡ t k) → tableau_of_chain s n ≡ tableau_of_chain t n
chain_same zero s t h = refl
chain_same (suc n) s t h =
    ap₂ (λ (x y : List ℕ). with_end (grown x y) (suc n) (tableau_of_chain s n)) (h (suc n) (omega arith)) (h n (omega arith))
    ∙ ap (with_end (grown (t (suc n)) (t n)) (suc n)) (chain_same n s t (λ k l. h k (omega arith)))

tableau-next : (j : ℕ) (w : List ℕ) → AreDifferent w → times_in (suc j) w ≡ 1
    → tableau_of (suc j) w ≡ with_end (grown (shape_of (tableau_of (suc j) w)) (shape_of (tableau_of j w))) (suc j) (tableau_of j w)
tableau-next j w d e = elim (extends j w (d (suc j))) [
  | alone t f ↦ absurd (omega arith)
  | ended t k n f ↦
      f ∙ ap (λ i. with_end i (suc j) (tableau_of j w))
      (sym (ap (λ (x : List (List ℕ)). grown (shape_of x) (shape_of (tableau_of j w))) f
      ∙ ap (λ (x : List ℕ). grown x (shape_of (tableau_of j w))) (shape-last k (suc j) (tableau_of j w)) ∙ grown-cell k (shape_of (tableau_of j w)) n))
]

no_cells : (w : List ℕ) → length (at_most 0 w) ≡ 0 → tableau_of 0 w ≡ []
no_cells w e = ap (inserted_word []) (nil_from_length (at_most 0 w) e)

tableau_read : (w : List ℕ) → IsPerm w → (j : ℕ) → j ≤ length w → tableau_of j w ≡ tableau_of_chain (λ j. shape_of (tableau_of j w)) j
tableau_read w p zero l = no_cells w (no_letters w p.no_zero)
tableau_read w p (suc j) l =
    tableau-next j w p.different (p.there j l)
    ∙ ap (with_end (grown (shape_of (tableau_of (suc j) w)) (shape_of (tableau_of j w))) (suc j)) (tableau_read w p j (omega arith))

-- ---- the recording tableau is read from the last column of the growth grid, and the insertion tableau from its last line

recorded_next : (a : ℕ) (u : List ℕ)
    → (insertion_pair (u ++ a ∷ [])).1
    ≡ with_end (grown (shape_of (insertion_pair (u ++ a ∷ [])).0) (shape_of (insertion_pair u).0)) (1 + length u) (insertion_pair u).1
recorded_next a u =
    let p = (insertion_pair u).0 in
    let q = (insertion_pair u).1 in
    let next = inserted p (Some a) in
    let e = inserted-more 1 a u [] [] in
    ap (λ (r : List (List ℕ) × List (List ℕ)). r.1) e
    ∙ sym (end-step (1 + length u) next q (one_more a p q (one_shape u)))
    ∙ ap₂ (λ (x y : List ℕ). with_end (grown x y) (1 + length u) q) (ap (λ (r : List (List ℕ) × List (List ℕ)). shape_of r.0) (sym e)) (sym (one_shape u))

recorded_read : (w : List ℕ) (i : ℕ) → i ≤ length w
    → (insertion_pair (take i w)).1 ≡ tableau_of_chain (λ i. shape_of (insertion_pair (take i w)).0) i
recorded_read w zero l = refl
recorded_read w (suc i) l =
    let a = get_or w i 0 in
    let e : take (suc i) w ≡ take i w ++ a ∷ [] = take-suc w i 0 l in
    let n : 1 + length (take i w) ≡ suc i = omega (arith, length-take-le i w (omega arith)) in
    ap (λ v. (insertion_pair v).1) e ∙ recorded_next a (take i w)
    ∙ ap (λ v. with_end (grown (shape_of (insertion_pair v).0) (shape_of (insertion_pair (take i w)).0)) (1 + length (take i w)) (insertion_pair (take i w)).1) (sym e)
    ∙ ap₂ (λ (k : ℕ) (r : List (List ℕ)). with_end (grown (shape_of (insertion_pair (take (suc i) w)).0) (shape_of (insertion_pair (take i w)).0)) k r) n
    (recorded_read w i (omega arith))

shape_grown : (w : List ℕ) (i j : ℕ) → IsPerm w → i ≤ length w → j ≤ length w → shape_at w i j ≡ growth_shape w i j
shape_grown w i j p l m = grown-shape w (shape_at w) (shapes_grown w p.different p.no_zero) i j l m

-- the growth shape of w at (i, j) is the shape of the insertion tableau of those of the first i letters of w that are at most j
pub growth-shape : (w : List ℕ) (i j : ℕ) → IsPerm w → i ≤ length w → j ≤ length w
    → growth_shape w i j ≡ shape_of (insertion_pair (at_most j (take i w))).0
growth-shape w i j p l m = sym (shape_grown w i j p l m) ∙ ap shape_of (sym (first-tableau (at_most j (take i w)) 1 [] []))

line_shape : (w : List ℕ) → IsPerm w → (j : ℕ) → j ≤ length w → shape_of (tableau_of j w) ≡ growth_shape w (length w) j
line_shape w p j l = ap (λ v. shape_of (tableau_of j v)) (sym (take-length w)) ∙ shape_grown w (length w) j p (omega arith) l

line_tableau : (w : List ℕ) → IsPerm w → (j : ℕ) → j ≤ length w → tableau_of j w ≡ tableau_of_chain (λ j. growth_shape w (length w) j) j
line_tableau w p j l =
    tableau_read w p j l
    ∙ chain_same j (λ j. shape_of (tableau_of j w)) (λ j. growth_shape w (length w) j) (λ k m. line_shape w p k (omega arith))

pub shape-line : (w : List ℕ) → IsPerm w → (j : ℕ) → j ≤ length w
    → shape_of (tableau_of_chain (λ j. growth_shape w (length w) j) j) ≡ growth_shape w (length w) j
shape-line w p j l = ap shape_of (sym (line_tableau w p j l)) ∙ line_shape w p j l

pub first_of_grid : (w : List ℕ) → IsPerm w → (insertion_pair w).0 ≡ tableau_of_chain (λ j. growth_shape w (length w) j) (length w)
first_of_grid w p =
    let n = length w in
    first-tableau w 1 [] [] ∙ ap (inserted_word []) (sym (at_most_all n w p.at_most_n)) ∙ line_tableau w p n (omega arith)

column_shape : (w : List ℕ) → IsPerm w → (i : ℕ) → i ≤ length w → shape_of (insertion_pair (take i w)).0 ≡ growth_shape w i (length w)
column_shape w p i l =
    let n = length w in
    ap (λ v. shape_of (insertion_pair v).0) (sym (at_most_all n (take i w) (taken_at_most n i w p.at_most_n)))
    ∙ sym (growth-shape w i n p l (omega arith))

column_tableau :
    (w : List ℕ) → IsPerm w → (i : ℕ) → i ≤ length w
    → (insertion_pair (take i w)).1 ≡ tableau_of_chain (λ i. growth_shape w i (length w)) i
column_tableau w p i l =
    recorded_read w i l
    ∙ chain_same i (λ i. shape_of (insertion_pair (take i w)).0) (λ i. growth_shape w i (length w)) (λ k m. column_shape w p k (omega arith))

pub shape-column : (w : List ℕ) → IsPerm w → (i : ℕ) → i ≤ length w
    → shape_of (tableau_of_chain (λ i. growth_shape w i (length w)) i) ≡ growth_shape w i (length w)
shape-column w p i l = ap shape_of (sym (column_tableau w p i l)) ∙ sym (one_shape (take i w)) ∙ column_shape w p i l

pub second_of_grid : (w : List ℕ) → IsPerm w → (insertion_pair w).1 ≡ tableau_of_chain (λ i. growth_shape w i (length w)) (length w)
second_of_grid w p = ap (λ v. (insertion_pair v).1) (sym (take-length w)) ∙ column_tableau w p (length w) (omega arith)

-- if v is the inverse of w, the growth shape of v at (i, j) is that of w at (j, i)
pub mirror-shape : (v w : List ℕ) → AreInverse v w → (i j : ℕ) → i ≤ length w → j ≤ length w → growth_shape v i j ≡ growth_shape w j i
mirror-shape v w h i j l m =
    let n = h.as_long in sym (grown-shape v (λ i j. growth_shape w j i) (mirrored v w h) i j (omega arith) (omega arith))

pub exchanged : (v w : List ℕ) → IsPerm v → IsPerm w → AreInverse v w
    → ((insertion_pair v).0 ≡ (insertion_pair w).1) × ((insertion_pair v).1 ≡ (insertion_pair w).0)
exchanged v w p q h =
    let n = h.as_long in (
      first_of_grid v p ∙ ap (λ k. tableau_of_chain (λ j. growth_shape v k j) k) n
          ∙ chain_same (length w) (λ j. growth_shape v (length w) j) (λ i. growth_shape w i (length w)) (λ j l. mirror-shape v w h (length w) j (omega arith) l)
          ∙ sym (second_of_grid w q),
      second_of_grid v p ∙ ap (λ k. tableau_of_chain (λ i. growth_shape v i k) k) n
          ∙ chain_same (length w) (λ i. growth_shape v i (length w)) (λ j. growth_shape w (length w) j) (λ i l. mirror-shape v w h i (length w) l (omega arith))
          ∙ sym (first_of_grid w q),
    )
