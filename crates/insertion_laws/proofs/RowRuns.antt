-- The letters of a word inserted into one row, one after another: the row afterwards, and the word of the letters that are replaced.
use Rattle.std.proofs.Common.{◌≡◌, ℕ, ◌<◌, ◌≤◌, List, [], ◌∷◌, ◌++◌, Option, Some, None, ◌∙◌, ap, refl, rules}
use Rattle.sym_model.specs.Insertion.{row_with, bumped, inserted}
use Rattle.insertion_laws.proofs.InsertedRows.{inserted-none}
use Rattle.insertion_laws.proofs.InsertedWords.{inserted_word}
use Rattle.sym_model.specs.Bounded.{AreAtLeast}

-- the letter as a word of one letter; the empty word for None
abbrev pub listed : Option ℕ → List ℕ
listed None = []
listed (Some b) = b ∷ []

-- the row after the letters of a word are inserted into it one after another
abbrev pub row_after : List ℕ → List ℕ → List ℕ
row_after row [] = row
row_after row (a ∷ w) = row_after (row_with a row) w

-- the word of the letters that are replaced, and so leave the row, when the letters of a word are inserted into the row one after another
abbrev pub letters_out : List ℕ → List ℕ → List ℕ
letters_out row [] = []
letters_out row (a ∷ w) = listed (bumped a row) ++ letters_out (row_with a row) w

-- inserting the letters of w into the row gives the row `new`, and the word of the letters that leave the row is `out`
pub record IsRun (row w new out : List ℕ) : Type 0 where
  pub row_is : row_after row w ≡ new
  pub out_is : letters_out row w ≡ out

pub run_none : (row : List ℕ) → IsRun row [] row []
run_none row = record { row_is = refl; out_is = refl }

pub run_less : (a b : ℕ) {row w new out : List ℕ} → a < b → IsRun (a ∷ row) w new out → IsRun (b ∷ row) (a ∷ w) new (b ∷ out)
run_less a b {row} {w} l h = search rules

pub run_more :
    (a b : ℕ) {row w new out : List ℕ} → b ≤ a → IsRun (b ∷ row_with a row) w new out
    → IsRun (b ∷ row) (a ∷ w) new (listed (bumped a row) ++ out)
run_more a b {row} {w} l h = search rules

pub run_past : (b : ℕ) (row w : List ℕ) → AreAtLeast b w → IsRun (b ∷ row) w (b ∷ row_after row w) (letters_out row w)
run_past b row [] f = run_none (b ∷ row)
run_past b row (a ∷ w) f = run_more a b f.0 (run_past b (row_with a row) w f.1)

pub word-rows :
    (row : List ℕ) (rows : List (List ℕ)) (w : List ℕ)
    → inserted_word (row ∷ rows) w ≡ row_after row w ∷ inserted_word rows (letters_out row w)
word-rows row rows [] = refl
word-rows row rows (a ∷ w) = by (bumped a row) (word-rows (row_with a row) (inserted rows (bumped a row)) w)
  where
    by : (o : Option ℕ)
        → inserted_word (row_with a row ∷ inserted rows o) w
        ≡ row_after (row_with a row) w ∷ inserted_word (inserted rows o) (letters_out (row_with a row) w)
        → inserted_word (row_with a row ∷ inserted rows o) w
        ≡ row_after (row_with a row) w ∷ inserted_word rows (listed o ++ letters_out (row_with a row) w)
    by None e =
        e ∙ ap (λ (r : List (List ℕ)). row_after (row_with a row) w ∷ inserted_word r (letters_out (row_with a row) w)) (inserted-none rows)
    by (Some b) e = e
