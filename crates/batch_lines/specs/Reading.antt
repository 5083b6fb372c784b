-- The state of a reader of lines, and the reading of the next line.
use Rattle.std.specs.Prelude.{◌≡◌, ◌⊎◌, ◌<◌, ◌≤◌, ℕ, ◌+◌, Bool, true, false, List, [], ◌∷◌, ◌++◌}
use Rattle.std.specs.Prelude.{length, Option, IfSome, Result, Ok, Err}
use Rattle.std.specs.Io.KnownBytes.{prepend_known}
use Rattle.sym_model.specs.BatchLine.{most_bytes}
use Rattle.calc_base.specs.Fault.{Rose}
use Rattle.calc_base.specs.Source.{SourceSeen}
use Rattle.batch_lines.specs.Feeds.{HasNoFeed}
use Rattle.batch_lines.specs.declared.next.Next.{Next}
use Rattle.batch_lines.specs.declared.next.Next.TheVariants.{Line, TooLong, End}
use Rattle.batch_lines.specs.declared.next.LineFault.{LineFault}
use Rattle.batch_lines.specs.declared.next.LineFault.TheVariants.{SourceFault, NoMemory}

-- the greatest number of bytes that one call takes from the source; at most this number of bytes are taken and not yet read
abbrev pub most_pending : ℕ
most_pending = 4096

-- The state of a reader: the bytes that were taken from the source and not yet read, the last line, and whether the
-- source has ended.
pub record Reading : Type 0 where
  pub pending : List ℕ
  pub line : List ℕ
  pub has_ended : Bool

-- the bytes `taken` were taken from the source, if it records its bytes; whether it does is unchanged
abbrev pub Took : Option (List ℕ) → Option (List ℕ) → List ℕ → Type 0
Took before now taken = before ≡ prepend_known taken now

-- the bytes `all` are the text of a line, a line feed, and the bytes `pending` after it
abbrev pub EndsAtFeed : List ℕ → List ℕ → List ℕ → Type 0
EndsAtFeed all text pending = all ≡ text ++ 10 ∷ pending

-- the bytes `all` are the text of a line without a line feed, no bytes are pending after it, and nothing is left in
-- the source
pub record EndsAtEnd (all text pending : List ℕ) (left : Option (List ℕ)) : Type 0 where
  pub whole : all ≡ text
  pub none_pending : pending ≡ []
  pub none_left : IfSome left (λ rest. rest ≡ [])

-- if the flag says that the source has ended, nothing is left in it
abbrev pub IsAtEnd : Bool → Option (List ℕ) → Type 0
IsAtEnd false left = Unit {0}
IsAtEnd true left = IfSome left (λ rest. rest ≡ [])

-- the line `text` at the front of the bytes `all` ends at a line feed (`false`), or at the end of the source (`true`)
abbrev pub EndsBy : Bool → (all text pending : List ℕ) → Option (List ℕ) → Type 0
EndsBy false all text pending left = EndsAtFeed all text pending
EndsBy true all text pending left = EndsAtEnd all text pending left

-- the result of reading the line `text`: `Line` if it has at most 4,096 bytes, `TooLong` if it has more, and `End` if
-- the source has ended and there are no bytes after the last line feed
abbrev pub IsNext : Next → (all text pending : List ℕ) → Option (List ℕ) → (line : List ℕ) → Type 0
IsNext Line all text pending left line =
    (line ≡ text) × (length text ≤ most_bytes)
    × (EndsAtFeed all text pending ⊎ (EndsAtEnd all text pending left × (0 < length text)))
IsNext TooLong all text pending left line =
    (most_bytes < length text) × (EndsAtFeed all text pending ⊎ EndsAtEnd all text pending left)
IsNext End all text pending left line = (text ≡ []) × EndsAtEnd all text pending left

-- the bytes `taken` were taken from the source, and the next line was read from the pending bytes followed by `taken`
pub record ReadsNext (before now : SourceSeen) (pending left_pending line : List ℕ)
    (has_ended : Bool) (next : Next) : Type 0 where
  pub taken : List ℕ
  pub took : Took before.left now.left taken
  pub spent : now.allowance + length taken ≤ before.allowance
  pub text : List ℕ
  pub no_feed : HasNoFeed text
  pub ends : EndsBy has_ended (pending ++ taken) text left_pending now.left
  pub is_next : IsNext next (pending ++ taken) text left_pending now.left line

-- the result of reading a line that ends at a line feed, given whether the line is too long
abbrev pub next_at_feed : Bool → Next
next_at_feed true = TooLong
next_at_feed false = Line

-- the result of reading a line after which the source has ended, given the bytes of the line and whether it is too
-- long
abbrev pub next_at_end : List ℕ → Bool → Next
next_at_end line true = TooLong
next_at_end [] false = End
next_at_end (byte ∷ line) false = Line

-- the source's count of faults is one more (`Rose`) if the result is `SourceFault`, and unchanged otherwise
abbrev pub CountsLine : (before now : ℕ) → Result Next LineFault → Type 0
CountsLine before now (Ok next) = now ≡ before
CountsLine before now (Err SourceFault) = Rose before now
CountsLine before now (Err NoMemory) = now ≡ before

-- bytes were taken from the source, and neither these nor the pending ones have a line feed
pub record TookPart (before now : Option (List ℕ)) (pending : List ℕ) : Type 0 where
  pub taken : List ℕ
  pub took : Took before now taken
  pub no_feed : HasNoFeed (pending ++ taken)

-- the bytes are a line with its line feed, and at most 4,096 bytes after it
pub record HasOneLine (bytes : List ℕ) : Type 0 where
  pub line : List ℕ
  pub rest : List ℕ
  pub whole : bytes ≡ line ++ 10 ∷ rest
  pub no_feed : HasNoFeed line
  pub short : length rest ≤ most_pending

-- the bytes have no complete line; or they are one complete line, and at most 4,096 bytes after it
abbrev pub HasLineAtMost : List ℕ → Type 0
HasLineAtMost bytes = HasNoFeed bytes ⊎ HasOneLine bytes

-- bytes were taken from the source; these and the pending ones have at most one complete line, with at most 4,096 bytes after it
pub record TookLineAtMost (before now : Option (List ℕ)) (pending : List ℕ) : Type 0 where
  pub taken : List ℕ
  pub took : Took before now taken
  pub at_most : HasLineAtMost (pending ++ taken)

-- if the result is `SourceFault`, the source had not ended before, and neither the pending bytes nor those that were
-- taken from the source have a line feed; if it is `NoMemory`, they have at most one complete line
abbrev pub CutsLine : (before now : Option (List ℕ)) → List ℕ → (had_ended : Bool)
    → Result Next LineFault → Type 0
CutsLine before now pending had_ended (Ok next) = Unit {0}
CutsLine before now pending had_ended (Err SourceFault) =
    (had_ended ≡ false) × TookPart before now pending
CutsLine before now pending had_ended (Err NoMemory) = TookLineAtMost before now pending
