-- The outcomes of the commands that run other commands: `batch` runs the lines of its input, and `work` runs lines
-- that it generates. An outcome is a text that a run may write, with its ending. A batch writes a block for each line
-- that it runs. `IsOutcomeOf` defines the outcomes of every list of words, for these commands and all others.
use Rattle.std.specs.Prelude.{◌≡◌, ℕ, Bool, true, false, ◌&&◌, cond, List, [], ◌∷◌, map, codes}
use Rattle.sym_model.specs.TableauText.{separated}
use Rattle.sym_model.specs.Workload.{work_lines, summary_text}
use Rattle.sym_model.specs.BatchLine.{BatchLine, too_long, passed_over, spoken, batch_line}
use Rattle.sym_model.specs.BatchLine.{lines_of, too_long_offence}
use Rattle.sym_model.specs.Command.{Command, batch, work}
use Rattle.sym_model.specs.Entry.{Entry}
use Rattle.sym_model.specs.RefusalText.{offence_line}
use Rattle.sym_model.specs.Ending.{Ending, done, some_refused}
use Rattle.sym_model.specs.Outcome.{ending_of, Answers, ComesOf, IsLineOutcome}

-- a block of a batch: the text that the command of one line writes, and its ending (`Ending`)
abbrev pub Block : Type 0
Block = List ℕ × Ending

-- there is one block for each line that is not skipped, in the order of the lines: the block of a line is an outcome
-- of its words; if the line is too long, the text of its block is the line of the error `too_long_offence`, and the
-- ending is the one of this error. `entries` are the commands that a line may be.
abbrev pub AreBlocks : List Entry → List BatchLine → List Block → Type 0
AreBlocks entries [] [] = Unit {0}
AreBlocks entries (passed_over ∷ lines) blocks = AreBlocks entries lines blocks
AreBlocks entries (too_long ∷ lines) (b ∷ blocks) =
    (b ≡ (offence_line too_long_offence, ending_of too_long_offence.2))
    × AreBlocks entries lines blocks
AreBlocks entries (spoken words ∷ lines) (b ∷ blocks) =
    IsLineOutcome entries words b.0 b.1 × AreBlocks entries lines blocks
AreBlocks entries _ _ = ⊥

-- the text of a batch: the texts of its blocks, with the line `--` between any two neighbours
abbrev pub batch_text : List Block → List ℕ
batch_text blocks = separated (codes "--\n") (map (λ (b : Block). b.0) blocks)

-- whether the ending is `done`
abbrev pub is_done : Ending → Bool
is_done done = true
is_done _ = false

-- whether each block has the ending `done`
abbrev pub are_done : List Block → Bool
are_done [] = true
are_done (b ∷ blocks) = is_done b.1 && are_done blocks

-- the ending of a batch: `done` if each block has the ending `done`, otherwise `some_refused`
abbrev pub batch_ending : List Block → Ending
batch_ending blocks = cond (are_done blocks) done some_refused

-- the text and the ending are an outcome of the command `batch` with this input: the text consists of blocks of the
-- lines of the input (`AreBlocks`, `batch_text`), and the ending is that of the blocks (`batch_ending`); `entries`
-- are the commands that a line may be
pub record RunsInput (entries : List Entry) (input text : List ℕ) (ending : Ending) : Type 0 where
  pub blocks : List Block
  pub are_blocks : AreBlocks entries (map batch_line (lines_of input)) blocks
  pub joined : text ≡ batch_text blocks
  pub ends : ending ≡ batch_ending blocks

-- the text is the summary (`summary_text`) of the blocks (`AreBlocks`) of the first `lines` lines that the generator
-- of `work` makes from `seed`; `entries` are the commands that a line may be
pub record RunsWorkload (entries : List Entry) (lines seed : ℕ) (text : List ℕ) : Type 0 where
  pub blocks : List Block
  pub are_blocks : AreBlocks entries (map batch_line (work_lines lines seed)) blocks
  pub summed : text ≡ summary_text (map (λ (b : Block). b.0) blocks)

-- for the given input, the text and the ending are an outcome of a command that was read without an error; `entries`
-- are the commands that a line of `batch` or `work` may be
abbrev pub AnswersWith : List Entry → List ℕ → Command → List ℕ → Ending → Type 0
AnswersWith entries input batch text ending = RunsInput entries input text ending
AnswersWith entries input (work lines seed) text ending =
    RunsWorkload entries lines seed text × (ending ≡ done)
AnswersWith entries input command text ending = Answers command text ending

-- for the given input, the text and the ending are an outcome of the words; `entries` are the commands that the words
-- may spell, and `line_entries` those that a line of `batch` or `work` may be
abbrev pub IsOutcomeOf : List Entry → List Entry → List (List ℕ) → List ℕ → List ℕ → Ending → Type 0
IsOutcomeOf entries line_entries words input text ending =
    ComesOf (AnswersWith line_entries input) entries words text ending
