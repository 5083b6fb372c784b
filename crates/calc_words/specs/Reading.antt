-- Correct results of reading the words of a command, for any list of commands.
use Rattle.std.specs.Prelude.{◌≡◌, ℕ, List, Option, Some, None, Result, Ok, Err, ◌⊎◌}
use Rattle.sym_model.specs.ExpressionOffence.{literal, range, shape}
use Rattle.sym_model.specs.Command.{Command as PlainCommand}
use Rattle.sym_model.specs.CommandOffence.{Offence}
use Rattle.sym_model.specs.Entry.{Entry, HasFirstOffence, SpellsWithoutOffence}
use Rattle.sym_model.specs.SyntaxPlace.{IsSyntaxPlace}
use Rattle.calc_base.specs.declared.words.WordsFault.{WordsFault}
use Rattle.calc_base.specs.declared.words.WordsFault.TheVariants.{Syntax, Literal, Range, Shape}
use Rattle.calc_base.specs.declared.words.WordsFault.TheVariants.{NoMemory}
use Rattle.calc_words.specs.Commands.{command_of, IsSound}
use Rattle.calc_words.specs.declared.command.Command.{Command}

-- the refusal is correct for the words: `Syntax` has the place of their first error of syntax, and `Literal`, `Range` and `Shape` are their first
-- error; nothing is required if memory runs out
abbrev pub IsRefusal : List Entry → List (List ℕ) → WordsFault → Type 0
IsRefusal entries words (Syntax at) = IsSyntaxPlace entries words at.word at.byte
IsRefusal entries words (Literal at) =
    HasFirstOffence entries words (Some (at.word, at.byte, literal))
IsRefusal entries words (Range at) = HasFirstOffence entries words (Some (at.word, at.byte, range))
IsRefusal entries words (Shape at) = HasFirstOffence entries words (Some (at.word, at.byte, shape))
IsRefusal entries words NoMemory = Unit {0}

-- the result of reading the words is correct: a command that they spell without an error and that is sound (the tableaux of `unrsk` are a pair,
-- `IsSound`), or a correct refusal (`IsRefusal`)
abbrev pub IsRead : List Entry → List (List ℕ) → Result Command WordsFault → Type 0
IsRead entries words (Ok command) =
    SpellsWithoutOffence entries words (command_of command) × IsSound command
IsRead entries words (Err fault) = IsRefusal entries words fault

-- the refusal reports the error `first`, with its kind and its place; nothing is required if memory runs out
abbrev pub IsFirst : Option Offence → WordsFault → Type 0
IsFirst first (Syntax at) = ⊥
IsFirst first (Literal at) = first ≡ Some (at.word, at.byte, literal)
IsFirst first (Range at) = first ≡ Some (at.word, at.byte, range)
IsFirst first (Shape at) = first ≡ Some (at.word, at.byte, shape)
IsFirst first NoMemory = Unit {0}

-- the result is a value with the property P, and there is no error (`first` is `None`); or it is a refusal that reports the error `first` (`IsFirst`)
abbrev pub IsJudged : {A : Type 0} → (A → Type 0) → Option Offence → Result A WordsFault → Type 0
IsJudged P first (Ok answer) = P answer × (first ≡ None)
IsJudged P first (Err fault) = IsFirst first fault

-- the refusal has the kind and the place of the error o
abbrev pub IsFaultOf : Offence → WordsFault → Type 0
IsFaultOf o (Literal at) = o ≡ (at.word, at.byte, literal)
IsFaultOf o (Range at) = o ≡ (at.word, at.byte, range)
IsFaultOf o (Shape at) = o ≡ (at.word, at.byte, shape)
IsFaultOf o _ = ⊥

-- the result is a command that corresponds to the command c of the definitions, unless memory runs out
abbrev pub Accepts : PlainCommand → Result Command WordsFault → Type 0
Accepts c (Ok command) = command_of command ≡ c
Accepts c (Err fault) = fault ≡ NoMemory

-- the result is the refusal with the error o, unless memory runs out
abbrev pub Refuses : {A : Type 0} → Offence → Result A WordsFault → Type 0
Refuses o (Ok answer) = ⊥
Refuses o (Err fault) = IsFaultOf o fault ⊎ (fault ≡ NoMemory)

-- the result is the refusal with an error of syntax at this byte of this word, unless memory runs out
abbrev pub GoesWrong : {A : Type 0} → ℕ → ℕ → Result A WordsFault → Type 0
GoesWrong word byte (Ok answer) = ⊥
GoesWrong word byte (Err fault) =
    (fault ≡ Syntax (record { word = word; byte = byte })) ⊎ (fault ≡ NoMemory)
