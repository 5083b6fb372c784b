-- The visible states of a source over a reader and of a sink over a writer, in terms of which contracts describe the program's input and output.
use Rattle.std.specs.Prelude.{ℕ, List, [], ◌∷◌, Bool, true, false, ◌&&◌, Option}
use Rattle.std.specs.Io.KnownBytes.{append_known}
use Rattle.calc_base.specs.Sink.{SinkSeen, seen_bytes}
use Rattle.calc_base.specs.Source.{SourceSeen}

-- a source over a reader: the reader, the number of bytes that may still be read, and the number of reads that failed
pub record Intake (R : Type 0) : Type 0 where
  pub reader : R
  pub allowance : ℕ
  pub failed : ℕ

-- the visible state of a source over a reader; its bytes are those that the reader has left, if these are known
abbrev pub intake_seen : {R : Type 0} → (R → Option (List ℕ)) → Intake R → SourceSeen
intake_seen remaining s =
    record { left = remaining s.reader; allowance = s.allowance; faults = s.failed }

-- a sink over a writer: the writer, the bytes that wait for it in a buffer, the number of writes and flushes that failed, and whether the last call
-- was a `finish` that succeeded
pub record Outlet (W : Type 0) : Type 0 where
  pub writer : W
  pub waiting : List ℕ
  pub failed : ℕ
  pub finished : Bool

-- the bytes written to the sink: those of the writer, if they are known, followed by those that wait in the buffer
abbrev pub told_bytes : {W : Type 0} → (W → Option (List ℕ)) → Outlet W → Option (List ℕ)
told_bytes contents s = append_known (contents s.writer) s.waiting

-- whether the list is empty
abbrev pub is_none : List ℕ → Bool
is_none [] = true
is_none (byte ∷ bytes) = false

-- whether the last call was a `finish` that succeeded, and no byte waits in the buffer
abbrev pub is_handed_on : {W : Type 0} → Outlet W → Bool
is_handed_on s = s.finished && is_none s.waiting

-- the visible state of a sink over a writer; its bytes are those of the writer, if these are known, followed by those that wait in the buffer
abbrev pub outlet_seen : {W : Type 0} → (W → Option (List ℕ)) → Outlet W → SinkSeen
outlet_seen contents s = seen_bytes (told_bytes contents s) s.failed (is_handed_on s)
