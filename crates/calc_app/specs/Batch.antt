-- A batch: its lines are run one after another, and each line that is not skipped has an outcome; and the state at the end of the batch. *Pending*
-- bytes are bytes that were taken from the source and not yet read as part of a line.
use Rattle.std.specs.Prelude.{◌≡◌, ℕ, List, Bool, false, Option, Some, None, Result, Ok, Err}
use Rattle.std.specs.Prelude.{is_some}
use Rattle.batch_lines.specs.declared.next.LineFault.{LineFault}
use Rattle.batch_lines.specs.declared.next.LineFault.TheVariants as line_fault
use Rattle.batch_lines.specs.declared.next.Next.{Next}
use Rattle.batch_lines.specs.declared.next.Next.TheVariants as next
use Rattle.batch_lines.specs.Reading.{ReadsNext, TookPart, TookLineAtMost}
use Rattle.calc_base.specs.declared.status.Status.{Status}
use Rattle.calc_base.specs.declared.status.Status.TheVariants as status
use Rattle.calc_base.specs.declared.words.WordsFault.{WordsFault}
use Rattle.calc_base.specs.Fault.{Rose}
use Rattle.calc_base.specs.Sink.{SinkSeen}
use Rattle.calc_base.specs.Source.{SourceSeen}
use Rattle.sym_model.specs.Grammar.{line_entries}
use Rattle.calc_language.specs.Reading.{IsFaultOf}
use Rattle.sym_model.specs.BatchLine.{BatchLine, too_long, passed_over, spoken, batch_line}
use Rattle.sym_model.specs.BatchLine.{too_long_offence}
use Rattle.sym_model.specs.BatchOutcome.{RunsInput}
use Rattle.calc_replies.specs.declared.outcome.Outcome.{Outcome}
use Rattle.calc_replies.specs.declared.outcome.Outcome.TheVariants.{Refused}
use Rattle.calc_app.specs.declared.batch.Turn.{Turn}
use Rattle.calc_app.specs.declared.batch.Turn.TheVariants.{Passed, Block, Last}
use Rattle.calc_replies.specs.Computed.{Computes}
use Rattle.calc_app.specs.Top.{Leaves, HidesNoFault, IsEmptied, IsThrough, CutsLines}

-- ---- the outcome of one line

-- the outcome is the refusal of a line that is too long
pub record RefusesLong (outcome : Outcome) : Type 0 where
  pub reason : WordsFault
  pub is : outcome ≡ Refused reason
  pub names : IsFaultOf too_long_offence reason

-- the outcome of a line: `None` if it is skipped, its refusal if it is too long, and otherwise an outcome of its
-- words
abbrev pub ComesOfLine : BatchLine → Option Outcome → Type 0
ComesOfLine too_long None = ⊥
ComesOfLine too_long (Some outcome) = RefusesLong outcome
ComesOfLine passed_over None = Unit {0}
ComesOfLine passed_over (Some outcome) = ⊥
ComesOfLine (spoken words) None = ⊥
ComesOfLine (spoken words) (Some outcome) = Computes line_entries words (Ok outcome)

-- the result `turn` of reading a line: `Passed` for a skipped line, `Block` with the outcome of a line that is not
-- skipped, also if it is too long, and `Last` at the end
abbrev pub IsTurn : Next → List ℕ → Turn → Type 0
IsTurn next.Line line Passed = ComesOfLine (batch_line line) None
IsTurn next.Line line (Block outcome) = ComesOfLine (batch_line line) (Some outcome)
IsTurn next.Line line Last = ⊥
IsTurn next.TooLong line Passed = ⊥
IsTurn next.TooLong line (Block outcome) = ComesOfLine too_long (Some outcome)
IsTurn next.TooLong line Last = ⊥
IsTurn next.End line Passed = ⊥
IsTurn next.End line (Block outcome) = ⊥
IsTurn next.End line Last = Unit {0}

-- the next line was read (`ReadsNext`), and `turn` is the result: the line is skipped, or it has an outcome, or there is no line left
pub record TakesTurn (before now : SourceSeen) (pending left_pending : List ℕ) (has_ended : Bool)
    (turn : Turn) : Type 0 where
  pub line : List ℕ
  pub read : Next
  pub reads : ReadsNext before now pending left_pending line has_ended read
  pub is : IsTurn read line turn

-- if the result is `SourceFault`, the source had not ended before, and neither the pending bytes nor those that were
-- taken from the source have a line feed; if it is `NoMemory`, they have at most one complete line
abbrev pub CutsTurn : (before now : Option (List ℕ)) → List ℕ → (had_ended : Bool)
    → Result Turn LineFault → Type 0
CutsTurn before now pending had_ended (Ok turn) = Unit {0}
CutsTurn before now pending had_ended (Err line_fault.SourceFault) =
    (had_ended ≡ false) × TookPart before now pending
CutsTurn before now pending had_ended (Err line_fault.NoMemory) = TookLineAtMost before now pending

-- the source's count of faults is one more (`Rose`) if the result is `SourceFault`, and unchanged otherwise
abbrev pub CountsTurn : (before now : ℕ) → Result Turn LineFault → Type 0
CountsTurn before now (Ok turn) = now ≡ before
CountsTurn before now (Err line_fault.SourceFault) = Rose before now
CountsTurn before now (Err line_fault.NoMemory) = now ≡ before

-- ---- the end of a batch

-- The state at the end of a batch. Which bytes were written to the sink depends on the status (`Leaves`), and the counts of faults agree with the
-- status (`HidesNoFault`). If the status is that of a batch read to its end, the whole input was read. After a fault of the sink, `CutsLines` relates
-- the lines that were read to those whose blocks were written. Whether the source records the bytes that it has left is unchanged.
pub record EndsBatch (old new : SinkSeen) (source now : SourceSeen) (Untouched : Type 0)
    (result : Status) : Type 0 where
  pub leaves : Leaves old new source now Untouched (Unit {0}) (RunsInput line_entries) result
  pub faults : HidesNoFault old new source now result
  pub all_read : IsThrough result → IsEmptied now.left
  pub cut : result ≡ status.SinkFault → CutsLines old new source now
  pub told : is_some now.left ≡ is_some source.left
