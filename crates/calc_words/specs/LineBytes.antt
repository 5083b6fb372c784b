-- The bytes of a line as they are kept in its words: each byte outside ASCII is replaced by `?`. No word of a command has a byte outside ASCII or a
-- `?`.
use Rattle.std.specs.Prelude.{ℕ, ◌==◌, nat_lt, Bool, true, false, ◌||◌, cond, List, [], ◌∷◌, map}
use Rattle.sym_model.specs.BatchLine.{is_some_text}

-- `?` for a byte outside ASCII, and any other byte itself
abbrev pub seen_byte : ℕ → ℕ
seen_byte byte = cond (nat_lt byte 128) byte 63

-- the text with `?` for each byte outside ASCII
abbrev pub seen : List ℕ → List ℕ
seen text = map seen_byte text

-- the list that has only this word, or the empty list if the word has no byte
abbrev pub word_with_bytes : List ℕ → List (List ℕ)
word_with_bytes word = cond (is_some_text word) (word ∷ []) []

-- whether the byte separates words: a space or a tab
abbrev pub is_space : ℕ → Bool
is_space byte = (byte == 32) || (byte == 9)

-- whether a line of these words is skipped: it has no word, or the first word begins with `#`
abbrev pub is_passed_over : List (List ℕ) → Bool
is_passed_over [] = true
is_passed_over ([] ∷ words) = false
is_passed_over ((byte ∷ text) ∷ words) = byte == 35
