-- The state of a sink into memory that grows, as contracts describe it.
use Rattle.std.specs.Prelude.{ℕ, List, Some, Bool}
use Rattle.calc_base.specs.Sink.{SinkSeen, seen_bytes}

-- the bytes so far, the number of calls that failed, and whether the last call was a `finish`
pub record Growing : Type 0 where
  pub bytes : List ℕ
  pub failed : ℕ
  pub finished : Bool

-- the visible state of a growing sink: its bytes are recorded
abbrev pub growing_seen : Growing → SinkSeen
growing_seen s = seen_bytes (Some s.bytes) s.failed s.finished
