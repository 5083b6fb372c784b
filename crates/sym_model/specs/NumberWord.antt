-- Number words, that is, words of decimal digits; and lists of number words with commas between them.
use Rattle.std.specs.Prelude.{ℕ, ◌<◌, ◌≤◌, List, [], ◌∷◌, length}
use Rattle.std.specs.List.{join_with_byte}

-- the byte is an ASCII digit
abbrev pub IsDigit : ℕ → Type 0
IsDigit byte = (48 ≤ byte) × (byte ≤ 57)

-- each byte of the text is an ASCII digit
abbrev pub AreDigits : List ℕ → Type 0
AreDigits [] = Unit {0}
AreDigits (byte ∷ digits) = IsDigit byte × AreDigits digits

-- the word is a number word: one or more ASCII digits
pub record IsNumberWord (word : List ℕ) : Type 0 where
  pub nonempty : 0 < length word
  pub digits : AreDigits word

-- each word of the list is a number word
abbrev pub AreNumberWords : List (List ℕ) → Type 0
AreNumberWords [] = Unit {0}
AreNumberWords (word ∷ words) = IsNumberWord word × AreNumberWords words

-- the text of a list of number words: the words with commas (the byte 44) between them
abbrev pub comma_separated : List (List ℕ) → List ℕ
comma_separated words = join_with_byte 44 words
