-- The reading word of the insertion tableau of a word is in the Knuth class of the word, and inserting the reading word of a tableau gives the
-- tableau. So each class contains the reading word of exactly one straight tableau.
use Rattle.std.proofs.Common.{◌≡◌, true, ℕ, ◌<◌, ◌≤◌, List, [], ◌∷◌, ◌++◌, Option, Some, None, ◌∙◌, ap, ap₂, sym, refl, subst, inl, inr, arith, append_assoc, append-nil, reverse, rules}
use Rattle.std.proofs.lemmas.Bool.{cases_lt}
use Rattle.std.proofs.lemmas.List.{reverse-append}
use Rattle.sym_model.specs.Insertion.{row_with, bumped, inserted, insertion_pair, reading_word}
use Rattle.sym_model.specs.Knuth.{AreKnuthEquivalent, IsOnlyTableauOf}
use Rattle.sym_model.specs.Tableau.{IsStraightTableau, are_letters}
use Rattle.insertion_laws.proofs.WordsAndPairs.{inserted_tableau}
use Rattle.insertion_laws.proofs.TableauRows.{rows_from}
use Rattle.sym_model.specs.Schur.{letters_of}
use Rattle.insertion_laws.specs.Rows.{StandsOn, AreRows}
use Rattle.insertion_laws.proofs.InsertedRows.{with-less, with-more, bumped-less, bumped-more, some_same, bumped_greater, with-end, inserted-none, keeps_rows}
use Rattle.insertion_laws.proofs.InsertedWords.{inserted_word, word-append, first-tableau}
use Rattle.insertion_laws.proofs.Classes.{◌⨾◌, one_word, same_word, behind, before, turned, first, second}
use Rattle.insertion_laws.proofs.RowRuns.{word-rows, IsRun, run_none, run_less, run_past}
use Rattle.insertion_laws.proofs.Triples.{class_same}
use Rattle.sym_model.specs.Bounded.{AreAtLeast}
use Rattle.tableau_laws.specs.Rows.{RisesFrom}

pub through : (y x : ℕ) (row back : List ℕ) → x < y → RisesFrom y row → AreKnuthEquivalent (y ∷ (row ++ x ∷ back)) (y ∷ x ∷ (row ++ back))
through y x [] back l h = one_word (y ∷ x ∷ back)
through y x (z ∷ row) back l h = behind (y ∷ []) (through z x row back (omega (arith, h.0)) h.1) ⨾ first x y z (row ++ back) l h.0

row_class : (c a b : ℕ) (row : List ℕ) → RisesFrom c row → bumped a row ≡ Some b → AreKnuthEquivalent (row ++ a ∷ []) (b ∷ row_with a row)
row_class c a b [] h e = cc
row_class c a b (x ∷ row) h e = elim (cases_lt a x) [
  | inl l ↦
      let same = some_same x b (sym (bumped-less a x row l) ∙ e) in
      through x a row [] l h.1
      ⨾ same_word (ap₂ (λ (n : ℕ) (v : List ℕ). n ∷ v) same (ap (λ (v : List ℕ). a ∷ v) (append-nil row) ∙ sym (with-less a x row l)))
  | inr l ↦
      let f = sym (bumped-more a x row l) ∙ e in
      behind (x ∷ []) (row_class x a b row h.1 f) ⨾ to_front x row l h.1 f
      ⨾ same_word (ap (λ (v : List ℕ). b ∷ v) (sym (with-more a x row l)))
]
  where
    to_front : (x : ℕ) (row : List ℕ) → x ≤ a → RisesFrom x row → bumped a row ≡ Some b → AreKnuthEquivalent (x ∷ b ∷ row_with a row) (b ∷ x ∷ row_with a row)
    to_front x [] l h e = cc
    to_front x (y ∷ row) l h e =
        let less = bumped_greater a b (y ∷ row) e in
        elim (cases_lt a y) [
          | inl m ↦
              subst (λ v. AreKnuthEquivalent (x ∷ b ∷ v) (b ∷ x ∷ v)) (sym (with-less a y row m)) (second x a b row l less)
          | inr m ↦
              subst (λ v. AreKnuthEquivalent (x ∷ b ∷ v) (b ∷ x ∷ v)) (sym (with-more a y row m)) (second x y b (row_with a row) h.0 (omega arith))
        ]

letters-push : (v : List (List ℕ)) (row : List ℕ) → letters_of (v ++ row ∷ []) ≡ letters_of v ++ row
letters-push [] row = append-nil row
letters-push (x ∷ v) row = ap (λ (w : List ℕ). x ++ w) (letters-push v row) ∙ sym (append_assoc x (letters_of v) row)

pub reading-more : (row : List ℕ) (rows : List (List ℕ)) → reading_word (row ∷ rows) ≡ reading_word rows ++ row
reading-more row rows = ap letters_of (reverse-append (row ∷ []) rows) ∙ letters-push (reverse rows) row

letter_class :
    (m a : ℕ) (rows : List (List ℕ)) → AreRows m rows
    → AreKnuthEquivalent (reading_word rows ++ a ∷ []) (reading_word (inserted rows (Some a)))
letter_class m a [] h = one_word (a ∷ [])
letter_class m a (row ∷ rows) h =
    same_word (ap (λ (v : List ℕ). v ++ a ∷ []) (reading-more row rows) ∙ append_assoc (reading_word rows) row (a ∷ []))
    ⨾ by (bumped a row) refl (λ b. letter_class m b rows h.1)
    ⨾ same_word (sym (reading-more (row_with a row) (inserted rows (bumped a row))))
  where
    by : (o : Option ℕ) → bumped a row ≡ o → ((b : ℕ) → AreKnuthEquivalent (reading_word rows ++ b ∷ []) (reading_word (inserted rows (Some b))))
        → AreKnuthEquivalent (reading_word rows ++ (row ++ a ∷ [])) (reading_word (inserted rows o) ++ row_with a row)
    by None e rec =
        same_word (ap₂ (λ (r : List (List ℕ)) (v : List ℕ). reading_word r ++ v) (sym (inserted-none rows)) (sym (with-end a row e)))
    by (Some b) e rec =
        behind (reading_word rows) (row_class m a b row h.0.rises e)
        ⨾ same_word (sym (append_assoc (reading_word rows) (b ∷ []) (row_with a row))) ⨾ before (row_with a row) (rec b)

-- the reading word of the rows, followed by w, is in the Knuth class of the reading word of the rows after the letters of w are inserted
pub word_class :
    (w : List ℕ) (rows : List (List ℕ)) → AreRows 0 rows → AreKnuthEquivalent (reading_word rows ++ w) (reading_word (inserted_word rows w))
word_class [] rows h = same_word (append-nil (reading_word rows))
word_class (a ∷ w) rows h =
    same_word (sym (append_assoc (reading_word rows) (a ∷ []) w)) ⨾ before w (letter_class 0 a rows h)
    ⨾ word_class w (inserted rows (Some a)) (keeps_rows 0 a rows (omega arith) h)

-- ---- inserting the reading word of a tableau, letter by letter, gives the tableau

from_rising : (c d : ℕ) (row : List ℕ) → c ≤ d → RisesFrom d row → AreAtLeast c row
from_rising c d [] l h = tt
from_rising c d (a ∷ row) l h = (omega (arith, h.0), from_rising c a row (omega (arith, h.0)) h.1)

run_behind : (a : ℕ) (lower row : List ℕ) → RisesFrom a row → IsRun lower row row lower → IsRun (a ∷ lower) row (a ∷ row) lower
run_behind a lower row h k =
    let p = run_past a lower row (from_rising a a row (omega arith) h) in
    record { row_is = p.row_is ∙ ap (λ (v : List ℕ). a ∷ v) k.row_is; out_is = p.out_is ∙ k.out_is }

pushes : (c : ℕ) (lower row : List ℕ) → RisesFrom c row → StandsOn lower row → IsRun lower row row lower
pushes c [] [] h s = run_none []
pushes c (b ∷ lower) [] h s = absurd s
pushes c [] (a ∷ row) h s =
    let k = run_behind a [] row h.1 (pushes a [] row h.1 tt) in record { row_is = k.row_is; out_is = k.out_is }
pushes c (b ∷ lower) (a ∷ row) h s = run_less a b s.0 (run_behind a lower row h.1 (pushes a lower row h.1 s.1))

put_over : (m : ℕ) (row : List ℕ) (rows : List (List ℕ)) → AreRows m (row ∷ rows) → inserted_word rows row ≡ row ∷ rows
put_over m [] rows h = let f = h.0.filled in absurd (omega arith)
put_over m (a ∷ row) [] h =
    let p = pushes m [] (a ∷ row) h.0.rises tt in
    word-rows [] [] (a ∷ row) ∙ ap₂ (λ (r o : List ℕ). r ∷ inserted_word [] o) p.row_is p.out_is
put_over m (a ∷ row) (lower ∷ rows) h =
    let p = pushes m lower (a ∷ row) h.0.rises h.0.stands in
    word-rows lower rows (a ∷ row) ∙ ap₂ (λ (r o : List ℕ). r ∷ inserted_word rows o) p.row_is p.out_is
    ∙ ap (λ (r : List (List ℕ)). (a ∷ row) ∷ r) (put_over m lower rows h.1)

pub reading_again : (m : ℕ) (rows : List (List ℕ)) → AreRows m rows → inserted_word [] (reading_word rows) ≡ rows
reading_again m [] h = refl
reading_again m (row ∷ rows) h = search (rules, inserted_word, reading-more, word-append, put_over, (reading_again m rows h.1))

-- if the reading word of a straight tableau is in the Knuth class of w, the tableau is the insertion tableau of w
pub only_tableau :
    (m : ℕ) (w : List ℕ) (rows : List (List ℕ)) → AreRows m rows → AreKnuthEquivalent (reading_word rows) w → rows ≡ inserted_word [] w
only_tableau m w rows h k = sym (reading_again m rows h) ∙ class_same (reading_word rows) w k

pub tableau_class : (w : List ℕ) → AreKnuthEquivalent w (reading_word (insertion_pair w).0)
tableau_class w = word_class w [] tt ⨾ same_word (ap reading_word (sym (first-tableau w 1 [] [])))

pub one_straight :
    (w : List ℕ) (rows : List (List ℕ)) → IsStraightTableau rows → AreKnuthEquivalent w (reading_word rows) → rows ≡ (insertion_pair w).0
one_straight w rows t h = only_tableau 1 w rows (rows_from rows t) (turned h) ∙ sym (first-tableau w 1 [] [])

pub only_tableau_from :
    (w : List ℕ) (rows : List (List ℕ)) → IsStraightTableau rows → AreKnuthEquivalent w (reading_word rows) → IsOnlyTableauOf w rows
only_tableau_from w rows t h =
    record { straight = t; class = h; only = λ others s k. one_straight w others s k ∙ sym (one_straight w rows t h) }

pub only_tableau_of : (w : List ℕ) → are_letters w ≡ true → IsOnlyTableauOf w (insertion_pair w).0
only_tableau_of w l = only_tableau_from w (insertion_pair w).0 (inserted_tableau w l) (tableau_class w)
