-- The bytes of a line that are stored while it is read: at most 4,096.
use Rattle.std.specs.Prelude.{◌≡◌, ◌≤◌, ℕ, nat_lt, Bool, true, false, List, [], ◌∷◌, ◌++◌, length}
use Rattle.sym_model.specs.BatchLine.{most_bytes}
use Rattle.batch_lines.specs.Feeds.{HasNoFeed}
use Rattle.batch_lines.specs.declared.heard.Heard.{Heard}

-- The state after the first bytes `text` of a line have been read: `is_long` says whether `text` has more than 4,096 bytes. If it has not, `kept` is
-- `text`; if it has, at most 4,096 bytes are kept.
pub record IsHeard (text kept : List ℕ) (is_long : Bool) : Type 0 where
  pub long : is_long ≡ nat_lt most_bytes (length text)
  pub whole : is_long ≡ false → kept ≡ text
  pub little : length kept ≤ most_bytes

-- `part` are the bytes that were read from the front of `before`, and `now` are the bytes that are left. For `true`, `before` has a line feed after
-- `part`, which was dropped; for `false`, `part` is all of `before`.
abbrev pub IsTaken : List ℕ → List ℕ → List ℕ → Bool → Type 0
IsTaken part before now true = before ≡ part ++ 10 ∷ now
IsTaken part before now false = (before ≡ part) × (now ≡ [])

-- after the bytes `text` of a line, the bytes `part` of the same line were read from `before`: `now` are the bytes of
-- `before` after them, and `kept` are the bytes of the line that are stored
pub record Hears (text before now kept : List ℕ) (h : Heard) : Type 0 where
  pub part : List ℕ
  pub no_feed : HasNoFeed part
  pub taken : IsTaken part before now h.has_ended
  pub heard : IsHeard (text ++ part) kept h.is_long
