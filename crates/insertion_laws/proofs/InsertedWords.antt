-- The insertion of a word into a tableau, letter by letter.
use Rattle.std.proofs.Common.{◌≡◌, ℕ, List, [], ◌∷◌, ◌++◌, Some, refl}
use Rattle.sym_model.specs.Insertion.{inserted, inserted_from}

-- the rows of a tableau after the letters of a word are inserted one after another
abbrev pub inserted_word : List (List ℕ) → List ℕ → List (List ℕ)
inserted_word rows [] = rows
inserted_word rows (a ∷ w) = inserted_word (inserted rows (Some a)) w

pub word-append : (v w : List ℕ) (rows : List (List ℕ)) → inserted_word rows (v ++ w) ≡ inserted_word (inserted_word rows v) w
word-append [] w rows = refl
word-append (a ∷ v) w rows = word-append v w (inserted rows (Some a))

pub first-tableau : (w : List ℕ) (k : ℕ) (p q : List (List ℕ)) → (inserted_from k w p q).0 ≡ inserted_word p w
first-tableau [] k p q = refl
first-tableau (a ∷ w) k p q = first-tableau w _ (inserted p (Some a)) _
