-- The progress of a batch, the status at its end, and the call of `finish` on its sink. A batch is a text with one command in each line; the block of
-- a line is the text of its answer or refusal.
use Rattle.std.specs.Prelude.{◌≡◌, ℕ, List, [], Bool, true, false, ◌&&◌, codes, cond}
use Rattle.calc_base.specs.declared.status.Status.{Status}
use Rattle.calc_base.specs.declared.status.Status.TheVariants as status
use Rattle.calc_base.specs.Puts.{Puts}
use Rattle.calc_base.specs.Sink.{SinkSeen}
use Rattle.batch_lines.specs.declared.progress.Progress.{Progress}

-- the text before a block: empty before the first one, and the line `--` before each later one
abbrev pub separator : Bool → List ℕ
separator true = []
separator false = codes "--\n"

-- whether the status is `Done`
abbrev pub is_done_status : Status → Bool
is_done_status status.Done = true
is_done_status status.SomeRefused = false
is_done_status status.Syntax = false
is_done_status status.Range = false
is_done_status status.Past = false
is_done_status status.SinkFault = false
is_done_status status.SourceFault = false
is_done_status status.NoMemory = false

-- the progress of a batch after one more block, whose line ended with the status `answer`
abbrev pub progress_after : Progress → Status → Progress
progress_after progress answer =
    record { is_first = false; is_done = progress.is_done && is_done_status answer }

-- the status at the end of a batch with this progress, if neither the source nor the sink fails
abbrev pub end_status : Progress → Status
end_status progress = cond progress.is_done status.Done status.SomeRefused

-- the given status if no call of the sink failed, otherwise `SinkFault`
abbrev pub status_where : Bool → Status → Status
status_where well answer = cond well answer status.SinkFault

-- `finish` succeeded and the result is the status `answer`; or `finish` failed, and the result is `SinkFault`.
pub record Finishes (old new : SinkSeen) (answer result : Status) : Type 0 where
  pub well : Bool
  pub puts : Puts true old well new []
  pub settles : well ≡ true → new.settled ≡ true
  pub is : result ≡ status_where well answer
