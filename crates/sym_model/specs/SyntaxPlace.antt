-- The place of the first error of syntax in words that spell no command.
use Rattle.std.specs.Prelude.{◌≡◌, ℕ, ◌<◌, List, [], length, take, ◌⊎◌, slice_index_or}
use Rattle.sym_model.specs.LongestPrefix.{IsLongestPrefix}
use Rattle.sym_model.specs.Phrase.{BeginsExpression}
use Rattle.sym_model.specs.Command.{Command}
use Rattle.sym_model.specs.Entry.{Entry, SpellsCommand, BeginsCommand, AwaitsExpression}

-- the list `words` has a word at the index `word`, and by the form of one of the entries, an expression may come
-- directly after the words before this index
pub record IsExpressionWord (entries : List Entry) (words : List (List ℕ)) (word : ℕ) : Type 0 where
  pub is_there : word < length words
  pub awaited : AwaitsExpression entries (take word words)

-- `byte` is the byte at which the word with the number `word` is invalid: if there is such a word and an expression
-- may come there, the length of the longest prefix of the word that begins an expression; otherwise 0
abbrev pub IsSyntaxByte : List Entry → List (List ℕ) → ℕ → ℕ → Type 0
IsSyntaxByte entries words word byte =
    (IsExpressionWord entries words word
    × IsLongestPrefix BeginsExpression (slice_index_or words word []) byte)
    ⊎ ((IsExpressionWord entries words word → ⊥) × (byte ≡ 0))

-- the words spell no command, and their first error is at the word with the number `word`, counted from 0, and the
-- byte `byte`. `word` is the length of the longest prefix of the words that begins a command: the error is at the
-- first word after this prefix, or after the last word if the prefix is the whole list. `byte` is the byte at which
-- the word is invalid (`IsSyntaxByte`).
pub record IsSyntaxPlace (entries : List Entry) (words : List (List ℕ))
    (word byte : ℕ) : Type 0 where
  pub no_command : (command : Command) → SpellsCommand entries words command → ⊥
  pub word_is : IsLongestPrefix (BeginsCommand entries) words word
  pub byte_is : IsSyntaxByte entries words word byte
