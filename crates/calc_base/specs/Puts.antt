-- Writing a text to a sink piece by piece, while a truth value records whether no call has failed so far.
use Rattle.std.specs.Prelude.{◌≡◌, ℕ, ◌≤◌, List, Bool, true, false, Result, OnOk, OnErr}
use Rattle.calc_base.specs.Fault.{Rose, CountsFaults}
use Rattle.calc_base.specs.Sink.{SinkSeen, Appends, AppendsPrefix}

-- `before` and `now` say whether no call has failed before the text is written, and whether none has failed after it. If `now` is true, the text was
-- appended whole. If `before` is true and `now` false, a prefix of it was appended, and the count of faults increased by 1, or remained at 2^64 - 1.
-- If `before` is false, so is `now`, and the sink is unchanged.
pub record Puts (before : Bool) (old : SinkSeen) (now : Bool) (new : SinkSeen)
    (text : List ℕ) : Type 0 where
  pub whole : now ≡ true → Appends old new text
  pub still : now ≡ true → new.faults ≡ old.faults
  pub cut : before ≡ true → now ≡ false → AppendsPrefix old new text
  pub rose : before ≡ true → now ≡ false → Rose old.faults new.faults
  pub later : old.faults ≤ new.faults
  pub untouched : before ≡ false → new ≡ old
  pub ill : before ≡ false → now ≡ false

-- the outcome of a printer: after `Ok` the text was appended whole and the count of faults is unchanged; otherwise a prefix of the text was appended,
-- and the count of faults increased by 1, or remained at 2^64 - 1
pub record Prints {E : Type 0} (old new : SinkSeen) (text : List ℕ)
    (result : Result (Unit {0}) E) : Type 0 where
  pub whole : OnOk result (Appends old new text)
  pub cut : OnErr result (AppendsPrefix old new text)
  pub counted : CountsFaults old.faults new.faults result
