-- The state of a sink that counts the bytes and keeps none, as contracts describe it.
use Rattle.std.specs.Prelude.{ℕ, ◌+◌, List, length, min, None, Some, Bool, false}
use Rattle.calc_base.specs.Sink.{SinkSeen, greatest_length}

-- the number of bytes written (or 2^128 - 1 if it is greater), and whether the last call was a `finish`
pub record Tally : Type 0 where
  pub count : ℕ
  pub finished : Bool

-- a counting sink after a call of `put` with this piece
abbrev pub tally_after_put : Tally → List ℕ → Tally
tally_after_put t piece =
    record { count = min (t.count + length piece) greatest_length; finished = false }

-- the visible state of a counting sink: the number of its bytes is recorded, and no call fails
abbrev pub tally_seen : Tally → SinkSeen
tally_seen t = record { written = None; length = Some t.count; faults = 0; settled = t.finished }
