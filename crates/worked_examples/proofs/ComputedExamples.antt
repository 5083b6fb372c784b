-- Proofs of the worked examples of words: all ways to read the words are computed from the forms of the commands.
use Rattle.std.proofs.Common.{◌≡◌, ℕ, List, [], ◌∷◌, refl, sym, subst, arith, inl, Some}
use Rattle.sym_model.specs.Sum.{Among}
use Rattle.sym_model.specs.Command.{Command}
use Rattle.sym_model.specs.CommandOffence.{Offence}
use Rattle.sym_model.specs.Grammar.{all_entries, line_entries}
use Rattle.sym_model.specs.BatchLine.{words_of_line}
use Rattle.word_laws.specs.Reading.{forms_of, syntax_place}
use Rattle.worked_examples.specs.Examples.{Says, Offends, GoesWrong}
use Rattle.word_laws.proofs.LongestPrefixes.{CanBe}
use Rattle.word_laws.proofs.EntryLists.{syntax_sound}
use Rattle.worked_examples.proofs.ComputedReadings.{offences_found, offends_sound, commands_found, commands_sound}

pub can_be_all : CanBe (forms_of all_entries)
can_be_all = search parts 64

pub can_be_line : CanBe (forms_of line_entries)
can_be_line = search parts 64

pub gone_wrong : (line : List ℕ) (word byte : ℕ) → syntax_place all_entries (words_of_line line) ≡ Some (word, byte)
    → GoesWrong line word byte
gone_wrong line word byte h = syntax_sound all_entries can_be_all (omega arith) (words_of_line line) word byte h

only : {A : Type 0} {x : A} {xs : List A} → xs ≡ x ∷ [] → Among x xs
only h = subst (Among _) (sym h) (inl refl)

pub offended : (line : List ℕ) (first : Offence) → offences_found all_entries (words_of_line line) ≡ Some first ∷ []
    → Offends line first
offended line first h = offends_sound all_entries (words_of_line line) (Some first) (only h)

pub said : (line : List ℕ) (command : Command) → commands_found all_entries (words_of_line line) ≡ command ∷ []
    → Says line command
said line command h = commands_sound all_entries (words_of_line line) command (only h)
