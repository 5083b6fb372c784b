-- The place of the first error of syntax: a word, and a byte of this word. The word is found by reading the words from the left; if an expression is
-- expected there, the byte is found by reading the bytes of this word from the left.
use Rattle.std.specs.Prelude.{ℕ, ◌+◌, nat_lt, Bool, ◌&&◌, cond, List, [], ◌∷◌, map, length, take}
use Rattle.std.specs.Prelude.{Option, Some, None, is_some, slice_index_or}
use Rattle.sym_model.specs.Phrase.{Phrase}
use Rattle.expression_laws.specs.LeftToRight.{State, step, symbol, run, start, phrases, is_live}
use Rattle.expression_laws.specs.LeftToRight.{found}
use Rattle.sym_model.specs.Form.{Form, taken, has_skippable, after_words, some_awaits_next}
use Rattle.sym_model.specs.Entry.{Entry}

-- whether a word is an expression, decided by reading its bytes from the left
abbrev pub is_expression : List ℕ → Bool
is_expression text = is_some (found phrases (run phrases text start))

-- the number of bytes at the front of the text that are read, beginning in the given state, before a byte leads to the state `dead`
abbrev pub bytes_taken : State Phrase (List ℕ) → List ℕ → ℕ
bytes_taken state [] = 0
bytes_taken state (byte ∷ text) =
    cond (is_live (step phrases state (symbol byte)))
    (bytes_taken (step phrases state (symbol byte)) text + 1) 0

-- for each command of a list, the form of its words
abbrev pub forms_of : List Entry → List Form
forms_of entries = map (λ (e : Entry). e.form) entries

-- whether the words have the form of one of the commands
abbrev pub is_command : List Entry → List (List ℕ) → Bool
is_command entries words = has_skippable (after_words is_expression (forms_of entries) words)

-- the index of the word at which the first error of syntax is: the number of words in the longest prefix of the words with which a command begins
abbrev pub syntax_word : List Entry → List (List ℕ) → ℕ
syntax_word entries words = taken is_expression (forms_of entries) words

-- the byte of the error of syntax in the word at the index `word`: if there is such a word and an expression can be at this place, the length of the
-- longest prefix of the word with which an expression begins; otherwise 0
abbrev pub syntax_byte : List Entry → List (List ℕ) → ℕ → ℕ
syntax_byte entries words word =
    cond
    (nat_lt word (length words)
    && some_awaits_next (after_words is_expression (forms_of entries) (take word words)))
    (bytes_taken start (slice_index_or words word []))
    0

-- the place (word and byte) of the first error of syntax; `None` if the words are those of a command
abbrev pub syntax_place : List Entry → List (List ℕ) → Option (ℕ × ℕ)
syntax_place entries words =
    let word = syntax_word entries words in
    cond (is_command entries words) None (Some (word, syntax_byte entries words word))
