-- The outcomes of a list of words: the texts that a run of a command with these words may write, each with its
-- ending. The commands that the words can spell are given by a list of entries.
use Rattle.std.specs.Prelude.{◌≡◌, ℕ, ◌⊎◌, List, codes, Option, Some, None}
use Rattle.sym_model.specs.GoodTableau.{lattice_readings}
use Rattle.sym_model.specs.TableauList.{later_than}
use Rattle.sym_model.specs.Tableau.{SkewFilling}
use Rattle.sym_model.specs.Insertion.{insertion_pair}
use Rattle.sym_model.specs.Slide.{IsReached}
use Rattle.sym_model.specs.TableauText.{tableau_line, pair_text, word_line, readings_text}
use Rattle.sym_model.specs.TableauText.{grid_text}
use Rattle.sym_model.specs.ExpressionOffence.{OffenceKind, literal, range as beyond, shape}
use Rattle.sym_model.specs.CommandOffence.{Offence}
use Rattle.sym_model.specs.Command.{Command, tab, rsk, unrsk, rect, growth, batch, work}
use Rattle.sym_model.specs.Entry.{Entry, SpellsWithoutOffence, HasFirstOffence}
use Rattle.sym_model.specs.SyntaxPlace.{IsSyntaxPlace}
use Rattle.sym_model.specs.Answer.{Answer, IsPrintable}
use Rattle.sym_model.specs.PrintedForm.{printed_form, answer_text_in}
use Rattle.sym_model.specs.Target.{Meets, HasPastCoefficient, IsHeavy}
use Rattle.sym_model.specs.Ending.{Ending, done, syntax, range, past}
use Rattle.sym_model.specs.RefusalText.{refusal_line, offence_line, large_line}

-- the ending of a command whose words have an error of this kind
abbrev pub ending_of : OffenceKind → Ending
ending_of literal = past
ending_of beyond = range
ending_of shape = range

-- ---- words that are refused: they spell no command, or have an error

-- the words spell no command, and the text is the line `! Syntax` with the place of the first error of syntax
-- (`IsSyntaxPlace`)
pub record IsNoCommand (entries : List Entry) (words : List (List ℕ)) (text : List ℕ) : Type 0 where
  pub word : ℕ
  pub byte : ℕ
  pub place : IsSyntaxPlace entries words word byte
  pub line : text ≡ refusal_line (codes "Syntax") word byte

-- the words spell a command and have an error; the text is the line of their first error, and the ending is the one
-- for the kind of this error (`ending_of`)
pub record IsOffending (entries : List Entry) (words : List (List ℕ)) (text : List ℕ)
    (ending : Ending) : Type 0 where
  pub offence : Offence
  pub first : HasFirstOffence entries words (Some offence)
  pub line : text ≡ offence_line offence
  pub ends : ending ≡ ending_of offence.2

-- ---- commands whose answer is a list of terms

-- the text is a printable answer that the command asks for (`Meets`), printed in the form that the command asks for
pub record PrintsAnswer (command : Command) (text : List ℕ) : Type 0 where
  pub answer : Answer
  pub printable : IsPrintable answer
  pub meets : Meets command answer
  pub printed : text ≡ answer_text_in (printed_form command) answer

-- the command must be refused because its answer is too large: a coefficient that the answer has by its definition
-- exceeds 2^127 - 1 (`HasPastCoefficient`)
abbrev pub MustBeLarge : Command → Type 0
MustBeLarge command = HasPastCoefficient command

-- the command may be refused because its answer is too large: a coefficient that the answer has by its definition
-- exceeds 2^127 - 1 (`HasPastCoefficient`), or a weight of the command, which bounds all numbers of a computation, is
-- 2^127 or more (`IsHeavy`)
abbrev pub MayBeLarge : Command → Type 0
MayBeLarge command = HasPastCoefficient command ⊎ IsHeavy command

-- an outcome of a command whose answer is a list of terms: either the text is the answer that the command asks for,
-- the ending is `done`, and it is not the case that the command must be refused (`MustBeLarge`); or the text is the
-- line `! Large`, the ending is `past`, and the command may be refused (`MayBeLarge`)
abbrev pub Expands : Command → List ℕ → Ending → Type 0
Expands command text ending =
    ((MustBeLarge command → ⊥) × PrintsAnswer command text × (ending ≡ done))
    ⊎ (MayBeLarge command × (text ≡ large_line) × (ending ≡ past))

-- ---- commands that print tableaux or words

-- the column readings of the lattice tableaux of outer/inner; if one column reading is given, only those that come
-- after it in the list
abbrev pub readings_after : List ℕ → List ℕ → Option (List ℕ) → List (List ℕ)
readings_after outer inner None = lattice_readings outer inner
readings_after outer inner (Some last) = later_than last (lattice_readings outer inner)

-- the text is the line of a word whose insertion tableau is p and whose recording tableau is q
pub record PrintsWord (p q : List (List ℕ)) (text : List ℕ) : Type 0 where
  pub word : List ℕ
  pub inserts : insertion_pair word ≡ (p, q)
  pub printed : text ≡ word_line word

-- the text is the line of a tableau of straight shape that is reached from the filling by jeu de taquin slides
pub record PrintsRectified (filling : SkewFilling) (text : List ℕ) : Type 0 where
  pub straight : SkewFilling
  pub reached : IsReached filling straight
  pub printed : text ≡ tableau_line straight.rows

-- ---- the outcomes of commands and of words

-- the text and the ending are an outcome of a command whose words have no error; false for `batch` and `work`, which
-- run other commands (`AnswersWith`)
abbrev pub Answers : Command → List ℕ → Ending → Type 0
Answers (tab outer inner last) text ending =
    (text ≡ readings_text outer inner (readings_after outer inner last)) × (ending ≡ done)
Answers (rsk w) text ending =
    (text ≡ pair_text (insertion_pair w).0 (insertion_pair w).1) × (ending ≡ done)
Answers (unrsk p q) text ending = PrintsWord p q text × (ending ≡ done)
Answers (rect outer inner rows) text ending =
    PrintsRectified (record { outer = outer; inner = inner; rows = rows }) text × (ending ≡ done)
Answers (growth w) text ending = (text ≡ grid_text w) × (ending ≡ done)
Answers batch text ending = ⊥
Answers (work lines seed) text ending = ⊥
Answers command text ending = Expands command text ending

-- the text and the ending are an outcome of the words: the line of a refusal if the words spell no command or have an
-- error, and otherwise an outcome of the command that they spell, as `answers` defines the outcomes of commands
abbrev pub ComesOf : (Command → List ℕ → Ending → Type 0) → List Entry → List (List ℕ) → List ℕ
    → Ending → Type 0
ComesOf answers entries words text ending =
    (IsNoCommand entries words text × (ending ≡ syntax))
    ⊎ IsOffending entries words text ending
    ⊎ ((command : Command) × SpellsWithoutOffence entries words command
    × answers command text ending)

-- the text and the ending are an outcome of the words of a line of a batch; `batch` and `work` have no outcome here
abbrev pub IsLineOutcome : List Entry → List (List ℕ) → List ℕ → Ending → Type 0
IsLineOutcome entries words text ending = ComesOf Answers entries words text ending
