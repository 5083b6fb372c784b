-- The lines of the input of `batch`: the input is cut into lines, and a line into words; some lines are skipped, and
-- lines of more than 4096 bytes are refused.
use Rattle.std.specs.Prelude.{ℕ, ◌==◌, nat_lt, Bool, cond, List, [], ◌∷◌, length, filter, flat_map}
use Rattle.sym_model.specs.PrintedBlock.{split_at}
use Rattle.sym_model.specs.ExpressionOffence.{range}
use Rattle.sym_model.specs.CommandOffence.{Offence}

-- whether the text has at least one byte
abbrev pub is_some_text : List ℕ → Bool
is_some_text text = nat_lt 0 (length text)

-- the lines of a text, separated by line feeds (byte 10); the piece after the last line feed is a
-- line only if it is not empty
abbrev pub lines_of : List ℕ → List (List ℕ)
lines_of text = whole_lines (split_at 10 text)
  where
    whole_lines : List (List ℕ) → List (List ℕ)
    whole_lines [] = []
    whole_lines (piece ∷ []) = cond (is_some_text piece) (piece ∷ []) []
    whole_lines (piece ∷ next ∷ pieces) = piece ∷ whole_lines (next ∷ pieces)

-- the line without its last byte if that is a carriage return (byte 13); otherwise the line itself
abbrev pub without_return : List ℕ → List ℕ
without_return [] = []
without_return (byte ∷ []) = cond (byte == 13) [] (byte ∷ [])
without_return (byte ∷ next ∷ line) = byte ∷ without_return (next ∷ line)

-- the words of a line: the pieces between its spaces (byte 32) and tabs (byte 9) that are not empty
abbrev pub words_of_line : List ℕ → List (List ℕ)
words_of_line line = filter is_some_text (flat_map (split_at 9) (split_at 32 line))

-- the greatest number of bytes that a line may have before its line feed
abbrev pub most_bytes : ℕ
most_bytes = 4096

-- a line of a batch as it is read: a line that is too long, a line that is skipped (`passed_over`), or the words of a
-- command (`spoken`)
pub data BatchLine : Type 0 where
  too_long : BatchLine
  passed_over : BatchLine
  spoken : List (List ℕ) → BatchLine

-- the line of a batch that has these words: it is skipped if there is no word or the first word begins with `#` (byte
-- 35); otherwise the words are to be run as a command
abbrev pub line_of_words : List (List ℕ) → BatchLine
line_of_words [] = passed_over
line_of_words ([] ∷ words) = spoken ([] ∷ words)
line_of_words ((byte ∷ text) ∷ words) =
    cond (byte == 35) passed_over (spoken ((byte ∷ text) ∷ words))

-- the line of a batch with these bytes before its line feed: too long if there are more than 4096; otherwise the line
-- of its words. A carriage return at the end counts as one of the bytes, but is not part of a word.
abbrev pub batch_line : List ℕ → BatchLine
batch_line line =
    cond (nat_lt most_bytes (length line)) too_long
    (line_of_words (words_of_line (without_return line)))

-- the error of a line that is too long: of the kind range, at byte 4096 of word 0
abbrev pub too_long_offence : Offence
too_long_offence = (0, most_bytes, range)
