-- Correct results of reading the words of a command.
use Rattle.std.specs.Prelude.{◌≡◌, ℕ, List, [], ◌∷◌, Option, Some, None, Result, Err}
use Rattle.sym_model.specs.Entry.{Entry}
use Rattle.sym_model.specs.Grammar.{all_entries}
use Rattle.calc_base.specs.declared.words.WordsFault.{WordsFault}
use Rattle.calc_base.specs.declared.words.WordsFault.TheVariants.{Syntax, Literal, Range, Shape}
use Rattle.calc_base.specs.declared.words.WordsFault.TheVariants.{NoMemory}
use Rattle.expression_reading.specs.declared.reading.ExpressionFault.{ExpressionFault}
use Rattle.expression_reading.specs.declared.reading.ExpressionFault.TheVariants.{Syntax as Wrong}
use Rattle.expression_reading.specs.declared.reading.ExpressionFault.TheVariants.{Literal as Wide}
use Rattle.expression_reading.specs.declared.reading.ExpressionFault.TheVariants.{Range as Past}
use Rattle.expression_reading.specs.declared.reading.ExpressionFault.TheVariants.{Shape as Misshapen}
use Rattle.expression_reading.specs.declared.reading.ExpressionFault.TheVariants.{NoMemory as Full}
use Rattle.calc_words.specs.Reading.{IsRead as IsReadBy}
use Rattle.calc_words.specs.Commands.{KeepsLimits}
use Rattle.calc_words.specs.declared.command.Command.{Command}
pub use Rattle.calc_words.specs.Commands.{command_of}
pub use Rattle.calc_words.specs.Reading.{IsFaultOf, Accepts, Refuses, GoesWrong}

-- the result of reading the words is correct for the entry, if there is one; without an entry, it is the refusal with an error of syntax at byte 0 of
-- word 0
abbrev pub IsReadAs : Option Entry → List (List ℕ) → Result Command WordsFault → Type 0
IsReadAs None words result = result ≡ Err (Syntax (record { word = 0; byte = 0 }))
IsReadAs (Some e) words result = IsReadBy (e ∷ []) words result

-- the command is within its limits (`KeepsLimits`)
abbrev pub IsWithinItsLimits : Command → Type 0
IsWithinItsLimits command = KeepsLimits (command_of command)

-- the result of reading the words as a command of the command line is correct: a command that they spell without an error and that is sound (the
-- tableaux of `unrsk` are a pair, `IsSound`), their first error, or the place of their first error of syntax; nothing is required if memory runs out
abbrev pub IsRead : List (List ℕ) → Result Command WordsFault → Type 0
IsRead words result = IsReadBy all_entries words result

-- the refusal of a command whose word `word` is an expression with this fault
abbrev pub placed : ℕ → ExpressionFault → WordsFault
placed word (Wrong byte) = Syntax (record { word = word; byte = byte })
placed word (Wide byte) = Literal (record { word = word; byte = byte })
placed word (Past byte) = Range (record { word = word; byte = byte })
placed word (Misshapen byte) = Shape (record { word = word; byte = byte })
placed word Full = NoMemory
