-- Correct results of reading a line of a batch.
use Rattle.std.specs.Prelude.{◌≡◌, Option, Some, None, Result, Ok, Err}
use Rattle.sym_model.specs.BatchLine.{BatchLine, too_long, passed_over, spoken, too_long_offence}
use Rattle.sym_model.specs.Command.{Command as PlainCommand}
use Rattle.sym_model.specs.Entry.{SpellsWithoutOffence}
use Rattle.calc_base.specs.declared.words.WordsFault.{WordsFault}
use Rattle.calc_base.specs.declared.words.WordsFault.TheVariants.{NoMemory}
use Rattle.calc_words.specs.Reading.{IsRefusal, IsFaultOf}
use Rattle.sym_model.specs.Grammar.{line_entries}
use Rattle.calc_words.specs.Commands.{IsSound}
use Rattle.calc_words.specs.declared.command.Command.{Command}
use Rattle.calc_language.specs.Reading.{command_of, IsWithinItsLimits}

-- the result of reading a line is correct: the error of a line that is too long, no command for a line that is skipped, and otherwise a correct
-- result of reading its words as a command of a line; nothing is required if memory runs out
abbrev pub IsLineRead : BatchLine → Result (Option Command) WordsFault → Type 0
IsLineRead too_long (Ok answer) = ⊥
IsLineRead too_long (Err NoMemory) = Unit {0}
IsLineRead too_long (Err fault) = IsFaultOf too_long_offence fault
IsLineRead passed_over (Ok None) = Unit {0}
IsLineRead passed_over (Ok (Some command)) = ⊥
IsLineRead passed_over (Err NoMemory) = Unit {0}
IsLineRead passed_over (Err fault) = ⊥
IsLineRead (spoken words) (Ok None) = ⊥
IsLineRead (spoken words) (Ok (Some command)) =
    SpellsWithoutOffence line_entries words (command_of command) × IsSound command
IsLineRead (spoken words) (Err fault) = IsRefusal line_entries words fault

-- the command of a line, if there is one, is within its limits (`KeepsLimits`)
abbrev pub KeepsItsLimits : Option Command → Type 0
KeepsItsLimits None = Unit {0}
KeepsItsLimits (Some command) = IsWithinItsLimits command

-- the result is no command, unless memory runs out
abbrev pub IsPassedOver : Result (Option Command) WordsFault → Type 0
IsPassedOver (Ok None) = Unit {0}
IsPassedOver (Ok (Some command)) = ⊥
IsPassedOver (Err fault) = fault ≡ NoMemory

-- unless memory runs out, the result is a command that `command_of` maps to c
abbrev pub AcceptsInLine : PlainCommand → Result (Option Command) WordsFault → Type 0
AcceptsInLine c (Ok None) = ⊥
AcceptsInLine c (Ok (Some command)) = command_of command ≡ c
AcceptsInLine c (Err fault) = fault ≡ NoMemory
