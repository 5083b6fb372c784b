-- The words of the factors of a product: the numbers of each factor, and `-` between two factors.
use Rattle.std.specs.Prelude.{◌≡◌, ℕ, Bool, true, false, List, [], ◌∷◌, ◌++◌, codes, ◌⊎◌}
use Rattle.sym_model.specs.Form.{is_digit}
use Rattle.calc_words.specs.NumberRuns.{IsNumber}

-- the word is a number, or the `-` between two factors
abbrev pub IsPieceWord : List ℕ → Type 0
IsPieceWord text = IsNumber text ⊎ (text ≡ codes "-")

-- the words of these lists of numbers, each list after a word `-`
abbrev pub next_text : List (List (List ℕ)) → List (List ℕ)
next_text [] = []
next_text (list ∷ lists) = codes "-" ∷ (list ++ next_text lists)

-- whether the word begins with a digit
abbrev pub begins_with_digit : List ℕ → Bool
begins_with_digit [] = false
begins_with_digit (byte ∷ text) = is_digit byte

abbrev pub BeginsWithDigit : List ℕ → Type 0
BeginsWithDigit text = begins_with_digit text ≡ true
