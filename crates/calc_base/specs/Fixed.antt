-- The state of a sink into a borrowed buffer, as contracts describe it.
use Rattle.std.specs.Prelude.{ℕ, ◌-◌, List, ◌++◌, length, take, Some, Bool, false, nat_lt}
use Rattle.calc_base.specs.Fault.{faults_after}
use Rattle.calc_base.specs.Sink.{SinkSeen, seen_bytes}

-- the bytes so far, the greatest number of bytes that fit into the buffer, the number of calls that failed, and whether the last call was a `finish`
pub record Fixed : Type 0 where
  pub bytes : List ℕ
  pub room : ℕ
  pub failed : ℕ
  pub finished : Bool

-- whether a call of `put` with this piece fails, that is, whether the piece is longer than the room left
abbrev pub is_too_long : Fixed → List ℕ → Bool
is_too_long s piece = nat_lt (s.room - length s.bytes) (length piece)

-- a fixed sink after a call of `put` with this piece: the bytes of the piece that fit are appended
abbrev pub fixed_after_put : Fixed → List ℕ → Fixed
fixed_after_put s piece = record s {
  bytes = s.bytes ++ take (s.room - length s.bytes) piece;
  failed = faults_after s.failed (is_too_long s piece);
  finished = false;
}

-- the visible state of a fixed sink: its bytes are recorded
abbrev pub fixed_seen : Fixed → SinkSeen
fixed_seen s = seen_bytes (Some s.bytes) s.failed s.finished
