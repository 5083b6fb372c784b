-- The state of a source in memory, as contracts describe it.
use Rattle.std.specs.Prelude.{ℕ, List, ◌++◌, length, take, drop, min, Bool, Some, Result, Ok, Err}
use Rattle.std.specs.Prelude.{◌==◌}
use Rattle.std.specs.List.{list_any}
use Rattle.calc_base.specs.Fault.{counted_up}
use Rattle.calc_base.specs.Source.{SourceSeen}

-- the bytes that are left, the greatest number of bytes that a call gives, the numbers of the calls that fail, counted from 0, and the numbers of
-- calls and of faults so far
pub record Supply : Type 0 where
  pub rest : List ℕ
  pub piece : ℕ
  pub fails : List ℕ
  pub calls : ℕ
  pub failed : ℕ

-- the visible state of a source in memory: the bytes that are left are recorded, and their number is the allowance
abbrev pub supply_seen : Supply → SourceSeen
supply_seen s = record { left = Some s.rest; allowance = length s.rest; faults = s.failed }

-- whether the number of the call is in the list of the calls that fail
abbrev pub is_listed : List ℕ → ℕ → Bool
is_listed fails call = list_any (λ k. k == call) fails

-- the number of bytes that a call that succeeds writes into a buffer of the length `room`
abbrev pub given_count : Supply → ℕ → ℕ
given_count s room = min room (min s.piece (length s.rest))

-- a source in memory after a call of `take` with this result
abbrev pub after_take : {E : Type 0} → Supply → Result ℕ E → Supply
after_take s (Ok count) = record s { rest = drop count s.rest; calls = counted_up s.calls }
after_take s (Err e) = record s { calls = counted_up s.calls; failed = counted_up s.failed }

-- a buffer after a call of `take` with this result: the bytes given are at its front, and the bytes after them are unchanged
abbrev pub filled_buffer : {E : Type 0} → Supply → Result ℕ E → List ℕ → List ℕ
filled_buffer s (Ok count) buffer = take count s.rest ++ drop count buffer
filled_buffer s (Err e) buffer = buffer
