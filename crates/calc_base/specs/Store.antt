-- The state of a sink in memory, as contracts describe it.
use Rattle.std.specs.Prelude.{ℕ, ◌-◌, List, [], ◌++◌, length, take, Some, cond, Bool, false, not}
use Rattle.std.specs.Prelude.{◌||◌, nat_lt}
use Rattle.calc_base.specs.Fault.{counted_up, faults_after}
use Rattle.calc_base.specs.Sink.{SinkSeen, seen_bytes}
use Rattle.calc_base.specs.Supply.{is_listed}

-- the bytes so far, the number of bytes for which there is room in all, the numbers of the calls that fail, counted from 0, the numbers of calls and
-- of faults so far, and whether the last call was a `finish` that succeeded
pub record Store : Type 0 where
  pub bytes : List ℕ
  pub room : ℕ
  pub fails : List ℕ
  pub calls : ℕ
  pub failed : ℕ
  pub finished : Bool

-- the visible state of a sink in memory: its bytes are recorded
abbrev pub store_seen : Store → SinkSeen
store_seen s = seen_bytes (Some s.bytes) s.failed s.finished

-- whether the next call is one of those that fail, that is, whether its number is in `fails`
abbrev pub fails_now : Store → Bool
fails_now s = is_listed s.fails s.calls

-- the number of further bytes for which there is room
abbrev pub room_left : Store → ℕ
room_left s = s.room - length s.bytes

-- whether a call of `put` with this piece fails: the number of the call is in `fails`, or the piece is longer than the room left
abbrev pub put_fails : Store → List ℕ → Bool
put_fails s piece = fails_now s || nat_lt (room_left s) (length piece)

-- the bytes that a call of `put` with this piece appends: none if the number of the call is in `fails`, otherwise those that fit
abbrev pub fitting_front : Store → List ℕ → List ℕ
fitting_front s piece = cond (fails_now s) [] (take (room_left s) piece)

-- the sink in memory after a call of `put` with this piece
abbrev pub after_put : Store → List ℕ → Store
after_put s piece = record s {
  bytes = s.bytes ++ fitting_front s piece;
  calls = counted_up s.calls;
  failed = faults_after s.failed (put_fails s piece);
  finished = false;
}

-- the sink in memory after a call of `finish`
abbrev pub after_finish : Store → Store
after_finish s = record s {
  calls = counted_up s.calls;
  failed = faults_after s.failed (fails_now s);
  finished = not (fails_now s);
}
