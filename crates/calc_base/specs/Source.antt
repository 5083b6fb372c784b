-- The visible state of a source, and its change by a call of `take`.
use Rattle.std.specs.Prelude.{◌≡◌, ℕ, ◌+◌, ◌≤◌, List, length, take, Option, Result, MatchResult}
use Rattle.std.specs.Io.KnownBytes.{prepend_known, IsAtEnd}

-- The visible state of a source: the bytes that are left, if it records them; an allowance, which decreases by at least the number of bytes read, so
-- that a loop in which each call reads some bytes ends; and the number of calls that failed.
pub record SourceSeen : Type 0 where
  pub left : Option (List ℕ)
  pub allowance : ℕ
  pub faults : ℕ

-- `count` is at most the length of the buffer, and the first `count` bytes of the buffer are the next bytes of the source, which were removed from
-- it, if it records the bytes that are left; whether it does is unchanged. If `count` is 0, the source has no byte left.
pub record Takes (before now : Option (List ℕ)) (buffer : List ℕ) (count : ℕ) : Type 0 where
  pub fits : count ≤ length buffer
  pub given : before ≡ prepend_known (take count buffer) now
  pub ended : count ≡ 0 → IsAtEnd now

-- the allowance decreases by at least the number of bytes given, if the call succeeds, and never increases
abbrev pub Spends : {E : Type 0} → (before now : ℕ) → Result ℕ E → Type 0
Spends before now result = MatchResult result (λ count. now + count ≤ before) (λ _. now ≤ before)
