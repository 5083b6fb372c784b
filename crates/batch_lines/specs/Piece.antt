-- The bytes of a buffer that are not yet read: those from `start` to `end`.
use Rattle.std.specs.Prelude.{ℕ, ◌≤◌, List, length}

-- the indices satisfy start ≤ end, and `end` is at most the number of bytes
pub record IsPart (bytes : List ℕ) (start end : ℕ) : Type 0 where
  pub order : start ≤ end
  pub within : end ≤ length bytes
