-- Number words, and the first word of a list.
use Rattle.std.specs.Prelude.{◌≡◌, ℕ, true, List, [], ◌∷◌}
use Rattle.sym_model.specs.Form.{is_number_word}

-- the word is a number
abbrev pub IsNumber : List ℕ → Type 0
IsNumber text = is_number_word text ≡ true

-- the list of words is empty, or its first word does not have the property P
abbrev pub BeginsOtherwise : (List ℕ → Type 0) → List (List ℕ) → Type 0
BeginsOtherwise P [] = Unit {0}
BeginsOtherwise P (text ∷ words) = P text → ⊥
