-- The grammar of the commands is a list of entries; each entry gives the form of the words of one command. For any
-- such list: the commands that a list of words spells, the lists of words that begin a command, and the first error of
-- words that spell a command.
use Rattle.std.specs.Prelude.{◌≡◌, ℕ, List, Option, None}
use Rattle.sym_model.specs.Form.{Form, Written, SomeOf, Has, Begins, Awaits}
use Rattle.sym_model.specs.Command.{Command}
use Rattle.sym_model.specs.CommandOffence.{Offence, first_offence}

-- the entry of a command in the grammar: the name of the command, the form of its words, the command that words of
-- this form spell, and the list of all errors of such words
pub record Entry : Type 0 where
  pub name : List ℕ
  pub form : Form
  pub says : Written form → Command
  pub offends : Written form → List Offence

-- the words have the form of the entry e, and `command` is the command that they spell by e
pub record SpellsBy (e : Entry) (words : List (List ℕ)) (command : Command) : Type 0 where
  pub has : Has e.form words
  pub says_it : command ≡ e.says has.written

-- by one of the entries, the words spell the command
abbrev pub SpellsCommand : List Entry → List (List ℕ) → Command → Type 0
SpellsCommand entries words command = SomeOf (λ e. SpellsBy e words command) entries

-- the words have the form of the entry e, and `first` is their first error by e, or None if they have no error
pub record OffendsBy (e : Entry) (words : List (List ℕ)) (first : Option Offence) : Type 0 where
  pub has : Has e.form words
  pub first_is : first ≡ first_offence (e.offends has.written)

-- the words have the form of one of the entries, and `first` is their first error by that entry, or None if they have
-- no error
abbrev pub HasFirstOffence : List Entry → List (List ℕ) → Option Offence → Type 0
HasFirstOffence entries words first = SomeOf (λ e. OffendsBy e words first) entries

-- the words have the form of the entry e, spell `command` by e, and have no error by e
pub record SpellsFreely (e : Entry) (words : List (List ℕ)) (command : Command) : Type 0 where
  pub has : Has e.form words
  pub says_it : command ≡ e.says has.written
  pub no_offence : first_offence (e.offends has.written) ≡ None

-- by one of the entries, the words spell the command and have no error
abbrev pub SpellsWithoutOffence : List Entry → List (List ℕ) → Command → Type 0
SpellsWithoutOffence entries words command = SomeOf (λ e. SpellsFreely e words command) entries

-- the words are a prefix of a list of words that has the form of one of the entries
abbrev pub BeginsCommand : List Entry → List (List ℕ) → Type 0
BeginsCommand entries words = SomeOf (λ e. Begins e.form words) entries

-- by the form of one of the entries, the word that comes next after these words may be an expression
abbrev pub AwaitsExpression : List Entry → List (List ℕ) → Type 0
AwaitsExpression entries words = SomeOf (λ e. Awaits e.form words) entries
