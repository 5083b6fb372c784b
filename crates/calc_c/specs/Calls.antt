-- The result of a call from C, and the text that it leaves in the caller's buffer.
use Rattle.std.specs.Prelude.{◌≡◌, ◌≢◌, zero, suc, ◌≤◌, ◌<◌, ◌⊎◌, ◌++◌, ℕ, List, [], Some, drop, length, take}
use Rattle.calc_app.specs.Top.{IsFrontOf, IsOutcome, RunsLines}
use Rattle.calc_base.specs.Sink.{IsPrefix}
use Rattle.calc_base.specs.Source.{SourceSeen}
use Rattle.calc_base.specs.declared.status.Status.{Status}
use Rattle.calc_base.specs.declared.status.Status.TheVariants.{Done, SomeRefused, Syntax, Range}
use Rattle.calc_base.specs.declared.status.Status.TheVariants.{Past, SinkFault, SourceFault}
use Rattle.calc_base.specs.declared.status.Status.TheVariants.{NoMemory}
use Rattle.sym_model.specs.Ending.{Ending, done, some_refused, syntax, range, past}

-- the visible state of a source of bytes that has the bytes `rest` left: these bytes are known, and no call has failed. The allowance, a number that
-- decreases by at least the number of bytes read, is the length of `rest`.
abbrev pub slice_seen : List ℕ → SourceSeen
slice_seen rest = record { left = Some rest; allowance = length rest; faults = 0 }

-- the text is that of an outcome of the words (`IsOutcome`) over the first lines of the input
pub record IsTextOfFirst (words : List (List ℕ)) (input text : List ℕ) : Type 0 where
  pub front : List ℕ
  pub is_front : IsFrontOf (Some input) front
  pub ending : Ending
  pub outcome : IsOutcome words front text ending

-- The text that a call leaves, by its status. `SinkFault`, if memory ran out while the text was stored: a prefix, which is not empty, of the text of
-- an outcome over the first lines of the input. `NoMemory`, if memory ran out before any of the text was stored: no text or, in a batch, the text of
-- an outcome over the first lines of the input. `SourceFault`: impossible. Any other status: the whole text of an outcome of the words over the input.
abbrev pub IsLeft : (words : List (List ℕ)) → (input text : List ℕ) → Status → Type 0
IsLeft words input text Done = IsOutcome words input text done
IsLeft words input text SomeRefused = RunsLines words × IsOutcome words input text some_refused
IsLeft words input text Syntax = IsOutcome words input text syntax
IsLeft words input text Range = IsOutcome words input text range
IsLeft words input text Past = IsOutcome words input text past
IsLeft words input text SinkFault =
    (text ≢ []) × ((whole : List ℕ) × IsPrefix text whole × IsTextOfFirst words input whole)
IsLeft words input text SourceFault = ⊥
IsLeft words input text NoMemory = (text ≡ []) ⊎ (RunsLines words × IsTextOfFirst words input text)

-- the status of a call that leaves a text of this length: out of memory for the text is out of memory if none of it was stored
abbrev pub status_left : Status → ℕ → Status
status_left SinkFault zero = NoMemory
status_left status length = status

-- A call has produced a text (`IsLeft`), and `needed` is the length of this text. If the buffer has room for the text, it is at the front of the
-- buffer, and the bytes after it are unchanged; if not, all bytes of the buffer are unchanged.
pub record LeavesText (words : List (List ℕ)) (input : List ℕ) (needed : ℕ) (old_out out : List ℕ)
    (status : Status) : Type 0 where
  pub text : List ℕ
  pub is_left : IsLeft words input text status
  pub needs : needed ≡ length text
  pub stands : length text ≤ length out → out ≡ text ++ drop (length text) old_out
  pub untouched : length out < length text → out ≡ old_out

-- if the buffer `out` has at least `needed` bytes, its first `needed` bytes are `line`
abbrev pub StandsIn : (needed : ℕ) → (out line : List ℕ) → Type 0
StandsIn needed out line = needed ≤ length out → take needed out ≡ line
