-- The result computed for the words of a command, and the text written for it.
use Rattle.std.specs.Prelude.{◌≡◌, ◌≢◌, ℕ, List, Option, Some, None, Result, Ok, Err, codes}
use Rattle.calc_base.specs.declared.faults.NoMemory.{NoMemory}
use Rattle.calc_base.specs.declared.faults.SumFault.{SumFault}
use Rattle.calc_base.specs.declared.faults.SumFault.TheVariants as sums
use Rattle.calc_base.specs.declared.status.Status.{Status}
use Rattle.calc_base.specs.declared.status.Status.TheVariants as status
use Rattle.calc_base.specs.declared.words.WordsFault.{WordsFault}
use Rattle.calc_base.specs.declared.words.WordsFault.TheVariants as fault
use Rattle.calc_language.specs.Reading.{IsFaultOf}
use Rattle.calc_words.specs.Reading.{IsRefusal}
use Rattle.expansion_printer.specs.declared.answer.Answer.{Answer}
use Rattle.expansion_printer.specs.Answers.{plain_answer}
use Rattle.expansion_printer.specs.Refusal.{refusal_text}
use Rattle.sym_model.specs.Answer.{IsPrintable}
use Rattle.sym_model.specs.PrintedForm.{printed_form, answer_text_in}
use Rattle.sym_model.specs.Command.{Command as PlainCommand, rsk, unrsk, rect, growth, tab, batch}
use Rattle.sym_model.specs.Command.{work}
use Rattle.sym_model.specs.CommandOffence.{Offence}
use Rattle.sym_model.specs.Entry.{Entry, SpellsWithoutOffence}
use Rattle.sym_model.specs.Insertion.{insertion_pair}
use Rattle.sym_model.specs.Outcome.{MustBeLarge, MayBeLarge, readings_after, PrintsWord}
use Rattle.sym_model.specs.Outcome.{PrintsRectified, PrintsAnswer}
use Rattle.sym_model.specs.TableauText.{tableau_line, pair_text, word_line, readings_text}
use Rattle.sym_model.specs.TableauText.{grid_text}
use Rattle.sym_model.specs.RefusalText.{large_line}
use Rattle.sym_model.specs.Target.{Meets}
use Rattle.calc_replies.specs.Forms.{plain_form}
use Rattle.calc_replies.specs.declared.form.Form.{Form}
use Rattle.calc_replies.specs.declared.tableau_answer.TableauAnswer.{TableauAnswer}
use Rattle.calc_replies.specs.declared.tableau_answer.TableauAnswer.TheVariants.{Listed, Paired}
use Rattle.calc_replies.specs.declared.tableau_answer.TableauAnswer.TheVariants.{Spelled, Straight}
use Rattle.calc_replies.specs.declared.tableau_answer.TableauAnswer.TheVariants.{Grown}
use Rattle.calc_replies.specs.declared.listing.Listing.{Listing}
use Rattle.sym_model.specs.Grammar.{all_entries}
use Rattle.calc_replies.specs.declared.outcome.Task.{Task}
use Rattle.calc_replies.specs.declared.outcome.Task.TheVariants.{Lines, Workload, Put}
use Rattle.calc_replies.specs.declared.outcome.Outcome.{Outcome}
use Rattle.calc_replies.specs.declared.outcome.Outcome.TheVariants.{Answered, Written, Refused, Large, Told}

-- the text of the answer to `tab`: a line for each tableau that is still to be listed, or the line 0 if there is no
-- such tableau
abbrev pub listing_text : Option Listing → List ℕ
listing_text None = codes "0\n"
listing_text (Some l) = readings_text l.order.0 l.order.1 l.lattice.rest

-- the text of the answer to a command on tableaux (`tab`, `rsk`, `unrsk`, `rect` or `growth`)
abbrev pub lines_text : TableauAnswer → List ℕ
lines_text (Listed list) = listing_text list
lines_text (Paired p q) = pair_text p.rows q.rows
lines_text (Spelled word) = word_line word
lines_text (Straight t) = tableau_line t.rows
lines_text (Grown w) = grid_text w

-- the command is `tab`, `rsk`, `unrsk`, `rect` or `growth`, and the text is that of its answer
abbrev pub Tells : PlainCommand → List ℕ → Type 0
Tells (tab outer inner last) text =
    text ≡ readings_text outer inner (readings_after outer inner last)
Tells (rsk w) text = text ≡ pair_text (insertion_pair w).0 (insertion_pair w).1
Tells (unrsk p q) text = PrintsWord p q text
Tells (rect outer inner rows) text =
    PrintsRectified (record { outer = outer; inner = inner; rows = rows }) text
Tells (growth w) text = text ≡ grid_text w
Tells _ text = ⊥

-- the outcome of a command that asks for an expansion: the answer that was computed, to be printed in the given form,
-- or `Large`, or out of memory
abbrev pub reply_of : Result Answer SumFault → Form → Result Outcome NoMemory
reply_of (Ok answer) form = Ok (Answered answer form)
reply_of (Err sums.Large) form = Ok Large
reply_of (Err sums.NoMemory) form = Err (record {})

-- The outcome of a command: either the answer to the command in the form that the command asks for, or its text, and the
-- command need not be refused as too large (`MustBeLarge`); or `Large`, and the command may be refused as too large
-- (`MayBeLarge`). Nothing is required if memory runs out.
abbrev pub IsReplyTo : PlainCommand → Result Outcome NoMemory → Type 0
IsReplyTo command (Ok (Answered answer form)) =
    (MustBeLarge command → ⊥) × Meets command (plain_answer answer)
    × (plain_form form ≡ printed_form command)
IsReplyTo command (Ok (Written text)) =
    (MustBeLarge command → ⊥) × PrintsAnswer command text.bytes
IsReplyTo command (Ok (Refused fault)) = ⊥
IsReplyTo command (Ok Large) = MayBeLarge command
IsReplyTo command (Ok (Told lines)) = Tells command (lines_text lines)
IsReplyTo command (Err e) = Unit {0}

-- the words spell a command of the list `entries` without an error, and the result is an outcome of that command
-- (`IsReplyTo`)
pub record RepliesTo (entries : List Entry) (words : List (List ℕ))
    (result : Result Outcome NoMemory) : Type 0 where
  pub command : PlainCommand
  pub spelled : SpellsWithoutOffence entries words command
  pub reply : IsReplyTo command result

-- `reason` is a correct reason for refusing the words, if the commands are those of the list `entries` (`IsRefusal`), and it is not that memory ran
-- out
abbrev pub AreRefused : List Entry → List (List ℕ) → WordsFault → Type 0
AreRefused entries words reason = IsRefusal entries words reason × (reason ≢ fault.NoMemory)

-- The outcome of words: either they spell a command of the list `entries` without an error, and the outcome is one of
-- this command (`RepliesTo`); or they are refused (`AreRefused`). Nothing is required if memory runs out.
abbrev pub Computes : List Entry → List (List ℕ) → Result Outcome NoMemory → Type 0
Computes entries words (Ok (Answered answer form)) =
    RepliesTo entries words (Ok (Answered answer form))
Computes entries words (Ok (Written text)) = RepliesTo entries words (Ok (Written text))
Computes entries words (Ok (Refused reason)) = AreRefused entries words reason
Computes entries words (Ok Large) = RepliesTo entries words (Ok Large)
Computes entries words (Ok (Told lines)) = RepliesTo entries words (Ok (Told lines))
Computes entries words (Err e) = Unit {0}

-- the outcome of words that spell the command without an error: they are refused only as too large, and only if the
-- command may be refused as too large
abbrev pub Accepts : PlainCommand → Result Outcome NoMemory → Type 0
Accepts command (Ok (Answered answer form)) = Unit {0}
Accepts command (Ok (Written text)) = Unit {0}
Accepts command (Ok (Refused reason)) = ⊥
Accepts command (Ok Large) = MayBeLarge command
Accepts command (Ok (Told lines)) = Unit {0}
Accepts command (Err e) = Unit {0}

-- the outcome of words whose first error is `offence`: the refusal that names this error, unless memory runs out
abbrev pub Refuses : Offence → Result Outcome NoMemory → Type 0
Refuses offence (Ok (Answered answer form)) = ⊥
Refuses offence (Ok (Written text)) = ⊥
Refuses offence (Ok (Refused reason)) = IsFaultOf offence reason
Refuses offence (Ok Large) = ⊥
Refuses offence (Ok (Told lines)) = ⊥
Refuses offence (Err e) = Unit {0}

-- the outcome of words that are no command and first fail at byte `byte` of word `word`: the refusal `Syntax` with
-- this place, unless memory runs out
abbrev pub GoesWrong : ℕ → ℕ → Result Outcome NoMemory → Type 0
GoesWrong word byte (Ok (Answered answer form)) = ⊥
GoesWrong word byte (Ok (Written text)) = ⊥
GoesWrong word byte (Ok (Refused reason)) =
    reason ≡ fault.Syntax (record { word = word; byte = byte })
GoesWrong word byte (Ok Large) = ⊥
GoesWrong word byte (Ok (Told lines)) = ⊥
GoesWrong word byte (Err e) = Unit {0}

-- ---- the task for words: lines to be run, or an outcome to be written

-- the command is neither `batch` nor `work`, so it does not run other commands
abbrev pub RunsNoOther : PlainCommand → Type 0
RunsNoOther batch = ⊥
RunsNoOther (work lines seed) = ⊥
RunsNoOther command = Unit {0}

-- the task of a command: to run lines for `batch` and `work`, and to write the outcome for any other command
abbrev pub IsTaskOf : PlainCommand → Result Task NoMemory → Type 0
IsTaskOf command (Ok Lines) = command ≡ batch
IsTaskOf command (Ok (Workload lines seed)) = command ≡ work lines seed
IsTaskOf command (Ok (Put outcome)) = IsReplyTo command (Ok outcome)
IsTaskOf command (Err e) = Unit {0}

-- the task for words: to run lines if the words spell `batch` or `work`, and otherwise to write their outcome
abbrev pub IsTaskFor : List (List ℕ) → Result Task NoMemory → Type 0
IsTaskFor words (Ok Lines) = SpellsWithoutOffence all_entries words batch
IsTaskFor words (Ok (Workload lines seed)) =
    SpellsWithoutOffence all_entries words (work lines seed)
IsTaskFor words (Ok (Put outcome)) = Computes all_entries words (Ok outcome)
IsTaskFor words (Err e) = Unit {0}

-- The task for words that spell the command without an error: to run lines, only if the command is `batch`; to run generated lines, only if it is
-- `work`; or, if it is not `batch`, to write an outcome, which is no refusal except as too large (`Accepts`). Nothing is required if memory runs out.
abbrev pub AcceptsTask : PlainCommand → Result Task NoMemory → Type 0
AcceptsTask command (Ok Lines) = command ≡ batch
AcceptsTask command (Ok (Workload lines seed)) = command ≡ work lines seed
AcceptsTask command (Ok (Put outcome)) = Accepts command (Ok outcome) × (command ≢ batch)
AcceptsTask command (Err e) = Unit {0}

-- the task for words whose first error is `offence`: to write the refusal that names this error, unless memory runs
-- out
abbrev pub RefusesTask : Offence → Result Task NoMemory → Type 0
RefusesTask offence (Ok Lines) = ⊥
RefusesTask offence (Ok (Workload lines seed)) = ⊥
RefusesTask offence (Ok (Put outcome)) = Refuses offence (Ok outcome)
RefusesTask offence (Err e) = Unit {0}

-- the task for words that are no command and first fail at byte `byte` of word `word`: to write the refusal `Syntax`
-- with this place, unless memory runs out
abbrev pub TaskGoesWrong : ℕ → ℕ → Result Task NoMemory → Type 0
TaskGoesWrong word byte (Ok Lines) = ⊥
TaskGoesWrong word byte (Ok (Workload lines seed)) = ⊥
TaskGoesWrong word byte (Ok (Put outcome)) = GoesWrong word byte (Ok outcome)
TaskGoesWrong word byte (Err e) = Unit {0}

-- ---- the text that is written for an outcome, and its status

-- the text of an outcome: the answer in its form, or the line of the refusal
abbrev pub text_of : Outcome → List ℕ
text_of (Answered answer form) = answer_text_in (plain_form form) (plain_answer answer)
text_of (Written text) = text.bytes
text_of (Refused reason) = refusal_text reason
text_of Large = large_line
text_of (Told lines) = lines_text lines

-- the outcome has a text: it is not a refusal for lack of memory
abbrev pub HasText : Outcome → Type 0
HasText (Answered answer form) = Unit {0}
HasText (Written text) = Unit {0}
HasText (Refused reason) = reason ≢ fault.NoMemory
HasText Large = Unit {0}
HasText (Told lines) = Unit {0}

-- if the outcome is an answer whose terms are kept, the answer is printable
abbrev pub HasBlock : Outcome → Type 0
HasBlock (Answered answer form) = IsPrintable (plain_answer answer)
HasBlock (Written text) = Unit {0}
HasBlock (Refused reason) = Unit {0}
HasBlock Large = Unit {0}
HasBlock (Told lines) = Unit {0}

-- the status of words that are refused for the given reason
abbrev pub refusal_status : WordsFault → Status
refusal_status (fault.Syntax at) = status.Syntax
refusal_status (fault.Literal at) = status.Past
refusal_status (fault.Range at) = status.Range
refusal_status (fault.Shape at) = status.Range
refusal_status fault.NoMemory = status.NoMemory

-- the status with which a run ends after the outcome is written, if no call of the sink fails
abbrev pub status_for : Outcome → Status
status_for (Answered answer form) = status.Done
status_for (Written text) = status.Done
status_for (Refused reason) = refusal_status reason
status_for Large = status.Past
status_for (Told lines) = status.Done
