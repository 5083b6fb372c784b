-- The form of the worked examples of words: a line of words, and either the command that it spells, or its first
-- error, or the place of its first error of syntax.
use Rattle.std.specs.Prelude.{ℕ, List, [], ◌++◌, Some, codes, replicate}
use Rattle.std.proofs.Common.{zero, suc}
use Rattle.sym_model.specs.Command.{Command}
use Rattle.sym_model.specs.CommandOffence.{Offence}
use Rattle.sym_model.specs.Entry.{HasFirstOffence, SpellsWithoutOffence}
use Rattle.sym_model.specs.Grammar.{all_entries}
use Rattle.sym_model.specs.SyntaxPlace.{IsSyntaxPlace}
use Rattle.sym_model.specs.BatchLine.{words_of_line}

-- the words of the line spell the command, without an error
abbrev pub Says : List ℕ → Command → Type 0
Says line command = SpellsWithoutOffence all_entries (words_of_line line) command

-- the words of the line spell a command whose first error is this one
abbrev pub Offends : List ℕ → Offence → Type 0
Offends line first = HasFirstOffence all_entries (words_of_line line) (Some first)

-- the words of the line spell no command, and their first error of syntax is at this word and byte
abbrev pub GoesWrong : List ℕ → ℕ → ℕ → Type 0
GoesWrong line word byte = IsSyntaxPlace all_entries (words_of_line line) word byte

-- n copies of a text, each with a space after it
abbrev pub repeated : ℕ → List ℕ → List ℕ
repeated zero text = []
repeated (suc n) text = text ++ (codes " " ++ repeated n text)

-- n digits 0
abbrev pub zeros_of : ℕ → List ℕ
zeros_of n = replicate n 48
