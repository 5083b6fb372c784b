-- A text that is collected in a buffer and written to a sink.
use Rattle.std.specs.Prelude.{◌≡◌, ℕ, List, ◌++◌, Bool, true}
use Rattle.calc_base.specs.Puts.{Puts}
use Rattle.calc_base.specs.Sink.{SinkSeen}

-- a buffer: its bytes, and whether no write has failed so far
pub record Waiting : Type 0 where
  pub bytes : List ℕ
  pub well : Bool

-- The text was collected from the state `start` of the sink on. If no write has failed, the text except for its last part was written to the sink,
-- and the last part is in the buffer; if a write has failed, only a prefix of the text was written (`Puts`).
pub record HasPut (start : SinkSeen) (text : List ℕ) (now : Waiting)
    (sink : SinkSeen) : Type 0 where
  pub front : List ℕ
  pub last : List ℕ
  pub joined : front ++ last ≡ text
  pub waits : now.well ≡ true → now.bytes ≡ last
  pub goes : Puts true start now.well sink front

-- the text was collected from the old to the new state of the buffer and the sink: if the text `before` had been collected in the old state
-- (`HasPut`), then `before` followed by this text has been collected in the new state
pub record Gathers (old : Waiting) (old_sink : SinkSeen) (new : Waiting) (new_sink : SinkSeen)
    (text : List ℕ) : Type 0 where
  pub behind : (start : SinkSeen) (before : List ℕ) → HasPut start before old old_sink
      → HasPut start (before ++ text) new new_sink
