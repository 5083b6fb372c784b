-- The contract of the call `run`, which runs a command, by cases on the status that it returns. An *outcome* of the words of a command is a text with
-- an *ending*, which is `done` or says which kind of refusal occurred. The *block* of a line of a batch is the text of its answer or refusal, with
-- its ending.
use Rattle.std.specs.Prelude.{◌≡◌, ◌≢◌, ◌⊎◌, ◌+◌, ◌≤◌, ℕ, List, [], ◌∷◌, ◌++◌, length, Bool, true}
use Rattle.std.specs.Prelude.{codes, map, Option, Some, IfSome, is_some}
use Rattle.calc_base.specs.declared.status.Status.{Status}
use Rattle.calc_base.specs.declared.status.Status.TheVariants.{Done, SomeRefused, Syntax, Range}
use Rattle.calc_base.specs.declared.status.Status.TheVariants.{Past, SinkFault, SourceFault}
use Rattle.calc_base.specs.declared.status.Status.TheVariants.{NoMemory}
use Rattle.calc_base.specs.Fault.{Rose}
use Rattle.calc_base.specs.Puts.{Puts}
use Rattle.calc_base.specs.Sink.{SinkSeen, Appends, AppendsPrefix, IsPrefix}
use Rattle.calc_base.specs.Source.{SourceSeen}
use Rattle.batch_lines.specs.Ends.{status_where}
use Rattle.batch_lines.specs.Feeds.{HasNoFeed}
use Rattle.batch_lines.specs.Reading.{Took, HasLineAtMost, most_pending}
use Rattle.sym_model.specs.BatchLine.{BatchLine, too_long, passed_over, spoken, batch_line}
use Rattle.sym_model.specs.BatchLine.{lines_of}
use Rattle.sym_model.specs.BatchOutcome.{Block, AreBlocks, batch_text, RunsInput, RunsWorkload}
use Rattle.sym_model.specs.BatchOutcome.{IsOutcomeOf}
use Rattle.sym_model.specs.Command.{Command, quantum, fusion, tab, rsk, unrsk, rect, growth, batch}
use Rattle.sym_model.specs.Command.{work}
use Rattle.sym_model.specs.CommandOffence.{Offence}
use Rattle.sym_model.specs.Ending.{Ending, done, some_refused, syntax, range, past}
use Rattle.sym_model.specs.Entry.{SpellsWithoutOffence, HasFirstOffence}
use Rattle.sym_model.specs.Grammar.{all_entries, line_entries}
use Rattle.calc_replies.specs.Computed.{text_of, HasBlock, status_for}
use Rattle.calc_replies.specs.declared.outcome.Outcome.{Outcome}
use Rattle.sym_model.specs.Headline.{ReadsBack}
use Rattle.sym_model.specs.Outcome.{Answers, MayBeLarge, ending_of}
use Rattle.sym_model.specs.RefusalText.{refusal_line, offence_line}
use Rattle.sym_model.specs.SyntaxPlace.{IsSyntaxPlace}
use Rattle.rim_hooks.specs.PrintedSteps.{ReadsReducedInSteps, ReadsReflectedInSteps}

-- ---- the outcomes of the words of a command, given the input that a source has left

-- the text and the ending are an outcome of the words, if `input` is what the source has left
abbrev pub IsOutcome : List (List ℕ) → List ℕ → List ℕ → Ending → Type 0
IsOutcome words input text ending =
    IsOutcomeOf all_entries line_entries words input text ending

-- the words spell `batch`, the command that runs the lines of its input
abbrev pub RunsLines : List (List ℕ) → Type 0
RunsLines words = SpellsWithoutOffence all_entries words batch

-- `input` is all that the source has left, if the source records what it has left
abbrev pub IsInput : Option (List ℕ) → List ℕ → Type 0
IsInput left input = IfSome left (λ bytes. bytes ≡ input)

-- the lines of `front` are the first lines of what the source has left, if the source records what it has left
abbrev pub IsFrontOf : Option (List ℕ) → List ℕ → Type 0
IsFrontOf left front =
    IfSome left (λ bytes. (more : List (List ℕ)) × (lines_of bytes ≡ lines_of front ++ more))

-- nothing is left in the source, if the source records what it has left
abbrev pub IsEmptied : Option (List ℕ) → Type 0
IsEmptied left = IfSome left (λ rest. rest ≡ [])

-- the text is empty or ends in a line feed
abbrev pub IsWholeLines : List ℕ → Type 0
IsWholeLines text = (text ≡ []) ⊎ ((front : List ℕ) × (text ≡ front ++ 10 ∷ []))

-- the status of a command whose outcome has this ending
abbrev pub status_of : Ending → Status
status_of done = Done
status_of some_refused = SomeRefused
status_of syntax = Syntax
status_of range = Range
status_of past = Past

-- ---- the bytes left in the sink; `Defined input text ending` says that the text and the ending are an outcome over
-- the input

-- the whole text of an outcome with this ending, over the whole input that the source had left, was appended to the sink, and `finish` succeeded
-- after it
pub record PutsWhole (old new : SinkSeen) (source : SourceSeen)
    (Defined : List ℕ → List ℕ → Ending → Type 0) (ending : Ending) : Type 0 where
  pub input : List ℕ
  pub is_input : IsInput source.left input
  pub text : List ℕ
  pub outcome : Defined input text ending
  pub appended : Appends old new text
  pub is_settled : new.settled ≡ true

-- a prefix of the text of an outcome over the first lines of the input was appended
pub record PutsPrefix (old new : SinkSeen) (source : SourceSeen)
    (Defined : List ℕ → List ℕ → Ending → Type 0) : Type 0 where
  pub front : List ℕ
  pub is_front : IsFrontOf source.left front
  pub text : List ℕ
  pub ending : Ending
  pub outcome : Defined front text ending
  pub appended : AppendsPrefix old new text

-- The whole text of an outcome over the first lines of the input was appended, and `finish` succeeded after it. Those lines and a piece after them,
-- which has at most one complete line, were read; each of the lines ends within the bytes read, at a line feed or because nothing is left in the
-- source.
pub record PutsFront (old new : SinkSeen) (source now : SourceSeen)
    (Defined : List ℕ → List ℕ → Ending → Type 0) : Type 0 where
  pub front : List ℕ
  pub piece : List ℕ
  pub took : Took source.left now.left (front ++ piece)
  pub at_most : HasLineAtMost piece
  pub is_ended : IsWholeLines front ⊎ (now.left ≡ Some [])
  pub is_front : IsFrontOf source.left front
  pub text : List ℕ
  pub ending : Ending
  pub outcome : Defined front text ending
  pub appended : Appends old new text
  pub is_settled : new.settled ≡ true

-- The whole text of an outcome over the lines that were read completely was appended, and `finish` succeeded after
-- it. The piece that was read after those lines has no line feed.
pub record PutsRead (old new : SinkSeen) (source now : SourceSeen)
    (Defined : List ℕ → List ℕ → Ending → Type 0) : Type 0 where
  pub front : List ℕ
  pub piece : List ℕ
  pub took : Took source.left now.left (front ++ piece)
  pub no_feed : HasNoFeed piece
  pub is_whole : IsWholeLines front
  pub is_front : IsFrontOf source.left front
  pub text : List ℕ
  pub ending : Ending
  pub outcome : Defined front text ending
  pub appended : Appends old new text
  pub is_settled : new.settled ≡ true

-- The bytes that a command leaves in the sink, by its status. After a fault of the sink: a prefix of the text of an outcome over the first lines of
-- the input. After a fault of the source: the text of an outcome over the lines read completely, with a successful `finish` after it. If memory ran
-- out: no bytes or, if lines are run, the text of an outcome over the first lines, with a successful `finish` after it. For any other status: the
-- whole text of an outcome, with a successful `finish` after it. `Untouched` says that no call of the sink was made, and `Runs` that lines are run; only then can the status be
-- `SomeRefused` or `SourceFault`.
abbrev pub Leaves : (old new : SinkSeen) (source now : SourceSeen) (Untouched Runs : Type 0)
    → (List ℕ → List ℕ → Ending → Type 0) → Status → Type 0
Leaves old new source now Untouched Runs Defined Done = PutsWhole old new source Defined done
Leaves old new source now Untouched Runs Defined SomeRefused =
    Runs × PutsWhole old new source Defined some_refused
Leaves old new source now Untouched Runs Defined Syntax = PutsWhole old new source Defined syntax
Leaves old new source now Untouched Runs Defined Range = PutsWhole old new source Defined range
Leaves old new source now Untouched Runs Defined Past = PutsWhole old new source Defined past
Leaves old new source now Untouched Runs Defined SinkFault = PutsPrefix old new source Defined
Leaves old new source now Untouched Runs Defined SourceFault =
    Runs × PutsRead old new source now Defined
Leaves old new source now Untouched Runs Defined NoMemory =
    Untouched ⊎ (Runs × PutsFront old new source now Defined)

-- The status hides no fault: with `SinkFault` the sink's count of faults is greater by exactly one, or is 2^64 - 1,
-- and with every other status it has not changed. With `SourceFault` the source's count is greater by exactly one, or
-- is 2^64 - 1; with every status but `SourceFault` and `SinkFault` it has not changed. No count decreases.
pub record HidesNoFault (old new : SinkSeen) (source now : SourceSeen)
    (status : Status) : Type 0 where
  pub sink_fault : status ≡ SinkFault → Rose old.faults new.faults
  pub no_fault : status ≢ SinkFault → new.faults ≡ old.faults
  pub later : old.faults ≤ new.faults
  pub source_fault : status ≡ SourceFault → Rose source.faults now.faults
  pub no_source_fault : status ≢ SourceFault → status ≢ SinkFault → now.faults ≡ source.faults
  pub source_later : source.faults ≤ now.faults

-- whether the sink records its bytes and their number, and the source the bytes that it has left, is unchanged
pub record KeepsTold (old new : SinkSeen) (source now : SourceSeen) : Type 0 where
  pub written : is_some new.written ≡ is_some old.written
  pub number : is_some new.length ≡ is_some old.length
  pub left : is_some now.left ≡ is_some source.left

-- ---- the clause `headline`: the text that was written is the answer

-- the text is the only one that reads back as the answer to the command
abbrev pub IsOnlyText : Command → List ℕ → Type 0
IsOnlyText command text = (other : List ℕ) → ReadsBack command other → other ≡ text

-- The meaning of the text of a command that runs no lines. For `tab`, `rsk`, `unrsk`, `rect` and `growth` it is the text of the answer (`Answers`).
-- For any other command the text reads back as a canonical list of terms (labels in the printed order, coefficients in lowest terms and not 0), which
-- is the answer to the command, and no other text reads back as its answer; for `quantum` and `fusion` this list also results if the product is
-- reduced (by rim hooks, or into the alcove) after each factor.
abbrev pub Says : Command → List ℕ → Type 0
Says (quantum rows columns factors) text =
    ReadsBack (quantum rows columns factors) text
    × ReadsReducedInSteps rows (rows + columns) factors text
    × IsOnlyText (quantum rows columns factors) text
Says (fusion rows level factors) text =
    ReadsBack (fusion rows level factors) text
    × ReadsReflectedInSteps rows (rows + level) factors text
    × IsOnlyText (fusion rows level factors) text
Says (tab outer inner last) text = Answers (tab outer inner last) text done
Says (rsk w) text = Answers (rsk w) text done
Says (unrsk p q) text = Answers (unrsk p q) text done
Says (rect outer inner rows) text = Answers (rect outer inner rows) text done
Says (growth w) text = Answers (growth w) text done
Says batch text = ⊥
Says (work lines seed) text = ⊥
Says command text = ReadsBack command text × IsOnlyText command text

-- The meaning of the text of every command. For `batch` it consists of the blocks of the lines of some input, which is what the source had left if
-- the source records that, and no line was refused; for `work` it is the text of the sums over the blocks of its lines; for any other command it is
-- as in `Says`.
abbrev pub SaysOver : Option (List ℕ) → Command → List ℕ → Type 0
SaysOver left batch text =
    (input : List ℕ) × IsInput left input × RunsInput line_entries input text done
SaysOver left (work lines seed) text = RunsWorkload line_entries lines seed text
SaysOver left command text = Says command text

-- The clause `headline`: the words spell a command without an error, and the text that was appended to the bytes written before is the answer to this
-- command. For `tab`, `rsk`, `unrsk`, `rect` and `growth` it is the text of the answer, for `batch` the blocks of its lines, and for `work` the sums
-- over these blocks; for any other command it is the only text that reads back as the answer: a canonical list of terms (labels in order, coefficients
-- in lowest terms and not 0). For
-- `expand m` and an expression, for example, this list, read in the monomial basis, is the expression in every number of variables.
pub record PrintsAnswerTo (words : List (List ℕ)) (before : List ℕ)
    (left now : Option (List ℕ)) : Type 0 where
  pub text : List ℕ
  pub appended : now ≡ Some (before ++ text)
  pub command : Command
  pub spelled : SpellsWithoutOffence all_entries words command
  pub says : SaysOver left command text

-- the words of a line of a batch spell a command without an error, and the text of the block is the answer to this
-- command
pub record SaysLine (words : List (List ℕ)) (text : List ℕ) : Type 0 where
  pub command : Command
  pub spelled : SpellsWithoutOffence line_entries words command
  pub says : Says command text

-- the text of each block whose ending is `done` is the answer to the command of its line
abbrev pub SayLines : List BatchLine → List Block → Type 0
SayLines (spoken words ∷ lines) (b ∷ blocks) =
    (b.1 ≡ done → SaysLine words b.0) × SayLines lines blocks
SayLines (too_long ∷ lines) (b ∷ blocks) = SayLines lines blocks
SayLines (passed_over ∷ lines) blocks = SayLines lines blocks
SayLines _ _ = Unit {0}

-- The clause `lines` for a batch. For some input, which is all that the source had left if the source records that,
-- the blocks of all lines were appended in order to the bytes written before, and the block of each line that was not
-- refused is the answer to the command of this line.
pub record PrintsLines (before : List ℕ) (left now : Option (List ℕ)) : Type 0 where
  pub input : List ℕ
  pub is_input : IsInput left input
  pub blocks : List Block
  pub appended : now ≡ Some (before ++ batch_text blocks)
  pub are_blocks : AreBlocks line_entries (map batch_line (lines_of input)) blocks
  pub say : SayLines (map batch_line (lines_of input)) blocks

-- ---- the clause `cut`: a batch whose sink failed

-- the blocks of all lines but the last were appended whole, and then a prefix of a text T: T is the block of the last line, with the line `--` before
-- it if there are earlier blocks
pub record CutsBlock (old new : SinkSeen) (lines : List BatchLine) : Type 0 where
  pub earlier : List BatchLine
  pub line : BatchLine
  pub lines_are : lines ≡ earlier ++ line ∷ []
  pub blocks : List Block
  pub last : Block
  pub are_blocks : AreBlocks line_entries earlier blocks
  pub is_last : AreBlocks line_entries (line ∷ []) (last ∷ [])
  pub shown : List ℕ
  pub is_shown : IsPrefix (batch_text blocks ++ shown) (batch_text (blocks ++ last ∷ []))
  pub appended : Appends old new (batch_text blocks ++ shown)

-- `blocks` are the blocks of the lines that are not skipped, and they were appended whole, with the line `--` between
-- them
pub record PutsBlocks (old new : SinkSeen) (lines : List BatchLine) : Type 0 where
  pub blocks : List Block
  pub are_blocks : AreBlocks line_entries lines blocks
  pub appended : Appends old new (batch_text blocks)

-- The state after a fault of the sink in a batch. The lines of `front` were read, all completely. Either the blocks
-- of all these lines but the last were written whole, followed by a prefix of the last block, and at most 4,096 bytes
-- were taken from the source after the lines; or the blocks of all lines were written whole, `finish` failed, and at most
-- one complete line was taken from the source after them (one, if memory ran out for it).
pub record CutsLines (old new : SinkSeen) (source now : SourceSeen) : Type 0 where
  pub front : List ℕ
  pub piece : List ℕ
  pub took : Took source.left now.left (front ++ piece)
  pub is_ended : IsWholeLines front ⊎ (now.left ≡ Some [])
  pub puts : (CutsBlock old new (map batch_line (lines_of front)) × (length piece ≤ most_pending))
      ⊎ (PutsBlocks old new (map batch_line (lines_of front)) × HasLineAtMost piece)

-- ---- the clause `answers`: words are answered or refused

-- the status is that of a run in which memory ran out or the sink failed
abbrev pub WasCutOff : Status → Type 0
WasCutOff status = (status ≡ NoMemory) ⊎ (status ≡ SinkFault)

-- the status is `Done` or `SomeRefused`; a batch that ends with it has been read to its end
abbrev pub IsThrough : Status → Type 0
IsThrough status = (status ≡ Done) ⊎ (status ≡ SomeRefused)

-- The status of a command without an error. It is `Done`, unless memory runs out, the sink fails or the command is refused. The command is refused
-- only if a coefficient that its answer has by definition (`IsDefinedCoefficient`) exceeds 2^127 - 1, or a weight of the command, which bounds all
-- numbers of its computation, is 2^127 or more. In a batch some lines can be refused, and the source can fail.
abbrev pub IsAccepted : Command → Status → Type 0
IsAccepted command status =
    (status ≡ Done) ⊎ ((status ≡ Past) × MayBeLarge command) ⊎ WasCutOff status
    ⊎ ((command ≡ batch) × ((status ≡ SomeRefused) ⊎ (status ≡ SourceFault)))

-- The status of words that are refused with this ending: it is the status of the ending, and then `IsPut` holds, which says that the line of the
-- refusal was written; or memory ran out or the sink failed.
pub record IsRefused (ending : Ending) (IsPut : Type 0) (status : Status) : Type 0 where
  pub ends : (status ≡ status_of ending) ⊎ WasCutOff status
  pub puts : status ≡ status_of ending → IsPut

-- The clause `answers`; `IsPut line` says that the line was written. If the words spell a command without an error, it is answered (`IsAccepted`).
-- If they spell a command with an error, the line that names the first error is written (`IsRefused`). If they are no command, the line `! Syntax`
-- is written, with the first place that is wrong.
pub record AnswersWords (words : List (List ℕ)) (IsPut : List ℕ → Type 0)
    (status : Status) : Type 0 where
  pub accepted : (command : Command) → SpellsWithoutOffence all_entries words command
      → IsAccepted command status
  pub offended : (offence : Offence) → HasFirstOffence all_entries words (Some offence)
      → IsRefused (ending_of offence.2) (IsPut (offence_line offence)) status
  pub no_command : (word byte : ℕ) → IsSyntaxPlace all_entries words word byte
      → IsRefused syntax (IsPut (refusal_line (codes "Syntax") word byte)) status

-- ---- an outcome written to the sink

-- The text of the outcome was written, `finish` succeeded, and the result is the status of the outcome; or the sink
-- failed, and the result is `SinkFault`. If the outcome is an answer, it is printable, so that its block can be read
-- back.
pub record PutsOutcome (old new : SinkSeen) (outcome : Outcome) (result : Status) : Type 0 where
  pub well : Bool
  pub puts : Puts true old well new (text_of outcome)
  pub settles : well ≡ true → new.settled ≡ true
  pub printable : HasBlock outcome
  pub is : result ≡ status_where well (status_for outcome)
