-- A command that is read from a line of a batch does not run other commands. If it is `unrsk`, its two tableaux are a pair (`IsSound`).
use Rattle.std.proofs.Common.{ℕ, List, [], ◌∷◌, sym, subst, inl, inr}
use Rattle.std.specs.Prelude.{Ok, Some}
use Rattle.calc_words.specs.Commands.{command_of, IsSound}
use Rattle.calc_words.specs.declared.command.Command.{Command as Read}
use Rattle.sym_model.specs.Grammar.{line_entries}
use Rattle.calc_language.specs.Lines.{IsLineRead}
use Rattle.calc_replies.specs.Computed.{RunsNoOther}
use Rattle.sym_model.specs.BatchLine.{BatchLine, too_long, passed_over, spoken}
use Rattle.sym_model.specs.Command.{Command}
use Rattle.sym_model.specs.Entry.{Entry, SpellsWithoutOffence}
use Rattle.sym_model.specs.Form.{Written, EachOf}

some_alone : (entries : List Entry) (words : List (List ℕ)) (command : Command) → EachOf (λ e. (x : Written e.form) → RunsNoOther (e.says x)) entries
    → SpellsWithoutOffence entries words command → RunsNoOther command
some_alone [] words command each spelled = absurd spelled
some_alone (e ∷ entries) words command each (inl h) = subst RunsNoOther (sym h.says_it) (each.0 h.has.written)
some_alone (e ∷ entries) words command each (inr h) = some_alone entries words command each.1 h

each_alone : EachOf (λ e. (x : Written e.form) → RunsNoOther (e.says x)) line_entries
each_alone = search parts 64

pub read_alone : (line : BatchLine) (command : Read) → IsLineRead line (Ok (Some command)) → RunsNoOther (command_of command)
read_alone too_long command read = absurd read
read_alone passed_over command read = absurd read
read_alone (spoken words) command read = some_alone line_entries words (command_of command) each_alone read.0

pub read_sound : (line : BatchLine) (command : Read) → IsLineRead line (Ok (Some command)) → IsSound command
read_sound too_long command read = absurd read
read_sound passed_over command read = absurd read
read_sound (spoken words) command read = read.1
