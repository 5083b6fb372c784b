-- The command `work`: its generated lines are run one after another, the numbers of their blocks (the texts of answers or refusals), of terms and of
-- bytes are added up, and the sums are written at the end.
use Rattle.std.specs.Prelude.{◌≡◌, ◌⊎◌, ℕ, ◌+◌, ◌≤◌, List, [], ◌∷◌, Bool, true, map}
use Rattle.calc_base.specs.declared.status.Status.{Status}
use Rattle.calc_base.specs.declared.status.Status.TheVariants as status
use Rattle.calc_base.specs.Puts.{Puts}
use Rattle.calc_base.specs.Sink.{SinkSeen}
use Rattle.batch_lines.specs.Ends.{status_where}
use Rattle.sym_model.specs.Grammar.{line_entries}
use Rattle.sym_model.specs.BatchLine.{BatchLine, batch_line}
use Rattle.sym_model.specs.BatchOutcome.{Block, AreBlocks}
use Rattle.sym_model.specs.Workload.{work_lines}
use Rattle.batch_lines.specs.declared.sums.Sums.{Sums}
use Rattle.batch_lines.specs.Totals.{sums_over, sums_with, AreSmall, sums_text}

-- the texts of the blocks of a list
abbrev pub texts_of : List Block → List (List ℕ)
texts_of blocks = map (λ (b : Block). b.0) blocks

-- the sums s with the blocks of the given texts added
abbrev pub sums_more : Sums → List (List ℕ) → Sums
sums_more s [] = s
sums_more s (text ∷ texts) = sums_more (sums_with s text) texts

-- the block of the line was added to the sums; nothing was added if the line is skipped
pub record AddsLine (line : BatchLine) (old new : Sums) : Type 0 where
  pub blocks : List Block
  pub are : AreBlocks line_entries (line ∷ []) blocks
  pub added : new ≡ sums_more old (texts_of blocks)
  pub small : AreSmall new
  pub one : new.lines ≤ old.lines + 1

-- `sums` are the sums over the blocks of the first `lines` lines that are generated from `seed`
pub record AreSumsOf (lines seed : ℕ) (sums : Sums) : Type 0 where
  pub blocks : List Block
  pub are : AreBlocks line_entries (map batch_line (work_lines lines seed)) blocks
  pub sum_up : sums ≡ sums_over (texts_of blocks)

-- The text of the sums was written, `finish` succeeded, and the result is `Done`; or the sink failed, and the result
-- is `SinkFault`.
pub record PutsSums (old new : SinkSeen) (sums : Sums) (result : Status) : Type 0 where
  pub well : Bool
  pub puts : Puts true old well new (sums_text sums)
  pub settles : well ≡ true → new.settled ≡ true
  pub is : result ≡ status_where well status.Done

-- the sums over the blocks of the first `lines` lines generated from `seed` were written, and the result is `Done`;
-- or the sink failed, and the result is `SinkFault`
pub record PutsWork (old new : SinkSeen) (lines seed : ℕ) (result : Status) : Type 0 where
  pub sums : Sums
  pub are : AreSumsOf lines seed sums
  pub put : PutsSums old new sums result

-- the end of `work`: memory ran out and the sink was not called; or the sums were written, or the sink failed
abbrev pub EndsWork : (old new : SinkSeen) → (Untouched : Type 0) → (lines seed : ℕ) → Status
    → Type 0
EndsWork old new Untouched lines seed result =
    ((result ≡ status.NoMemory) × Untouched) ⊎ PutsWork old new lines seed result
