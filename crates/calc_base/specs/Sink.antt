-- The visible state of a sink, and its change when a call appends a text. The bytes are compared only if the sink
-- records them.
use Rattle.std.specs.Prelude.{◌≡◌, ℕ, ◌+◌, ◌-◌, ◌^◌, min, max, List, ◌++◌, length, Bool, Option}
use Rattle.std.specs.Prelude.{IfSome, Some}
use Rattle.std.specs.Option.{option_map}
use Rattle.std.specs.Io.KnownBytes.{append_known}

-- The visible state of a sink: the bytes so far, if they are recorded; the number of these bytes, capped at `greatest_length`, which is recorded
-- whenever the bytes are; the number of calls that failed; and whether the last call was a finish that succeeded, so that no byte waits in a buffer.
pub record SinkSeen : Type 0 where
  pub written : Option (List ℕ)
  pub length : Option ℕ
  pub faults : ℕ
  pub settled : Bool

-- the greatest number of bytes that a sink records: a greater number is recorded as this one
abbrev pub greatest_length : ℕ
greatest_length = 2 ^ 128 - 1

-- the recorded number of bytes, if there is one, increased by the length of the text, and capped at `greatest_length`; because of `max`, the empty
-- text changes no recorded number
abbrev pub number_after : Option ℕ → List ℕ → Option ℕ
number_after told text = option_map (λ n. max n (min (n + length text) greatest_length)) told

-- the number of the recorded bytes, capped at `greatest_length`; None if no bytes are recorded
abbrev pub number_told : Option (List ℕ) → Option ℕ
number_told told = option_map (λ bytes. min (length bytes) greatest_length) told

-- the visible state of a sink with the bytes `told`, if they are recorded. Their number is also recorded then; it is capped at `greatest_length`.
abbrev pub seen_bytes : Option (List ℕ) → (faults : ℕ) → (settled : Bool) → SinkSeen
seen_bytes told faults settled =
    record { written = told; length = number_told told; faults = faults; settled = settled }

-- a call appended the text: the bytes, if recorded, are now followed by the text, and their number, if recorded, is increased by the length of the
-- text, and capped at `greatest_length`; what was not recorded before is not recorded now
pub record Appends (old new : SinkSeen) (text : List ℕ) : Type 0 where
  pub bytes : new.written ≡ append_known old.written text
  pub number : new.length ≡ number_after old.length text

-- `front` is a prefix of `text`
pub record IsPrefix (front text : List ℕ) : Type 0 where
  pub rest : List ℕ
  pub joined : front ++ rest ≡ text

-- a call appended a prefix of the text
pub record AppendsPrefix (old new : SinkSeen) (text : List ℕ) : Type 0 where
  pub front : List ℕ
  pub is_prefix : IsPrefix front text
  pub appends : Appends old new front

-- if the bytes are recorded, so is their number
abbrev pub IsCounted : Option (List ℕ) → Option ℕ → Type 0
IsCounted bytes number = IfSome bytes (λ told. number ≡ Some (min (length told) greatest_length))
