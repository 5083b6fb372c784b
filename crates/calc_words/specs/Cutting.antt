-- The words of a form at the front of a list of words, and the place of the first error of syntax in words that do not have the form.
use Rattle.std.specs.Prelude.{◌≡◌, ℕ, true, List, length}
use Rattle.sym_model.specs.Form.{Form, is_letter_of}
use Rattle.sym_model.specs.Grammar.{all_bases}
use Rattle.word_laws.proofs.Cuts.{IsTaken}
pub use Rattle.word_laws.proofs.Cuts.{StopsIn, IsByte, IsWrongAt}

-- the first `count` words have the form f, and a reader of words of the form f stops after them (`IsTaken`)
abbrev pub Takes : Form → List (List ℕ) → ℕ → Type 0
Takes f words count =
    (piece : List (List ℕ)) × (rest : List (List ℕ)) × IsTaken f piece rest words
    × (count ≡ length piece)

-- the words are words of the form f followed by `rest`, and a reader of words of the form f stops before `rest` (`IsTaken`)
abbrev pub StandsBehind : Form → List (List ℕ) → List (List ℕ) → Type 0
StandsBehind f rest words = (piece : List (List ℕ)) × IsTaken f piece rest words

-- the word is a letter that names a basis
abbrev pub IsLetter : List ℕ → Type 0
IsLetter text = is_letter_of all_bases text ≡ true
