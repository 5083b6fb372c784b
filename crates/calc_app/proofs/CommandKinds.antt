-- The three kinds of commands: those that ask for an expansion (a number or a list of terms), those that print other lines
-- (tableaux, words, grids), and those that run other commands. An outcome of a command is a text with an *ending*, which is
-- `done` or says which kind of refusal occurred.
use Rattle.std.proofs.Common.{ℕ, List, Option, inl, inr, ◌⊎◌, refl, arith}
use Rattle.std.specs.Prelude.{ℤ}
use Rattle.sym_model.specs.Answer.{Answer as PlainAnswer}
use Rattle.sym_model.specs.BatchOutcome.{AnswersWith}
use Rattle.sym_model.specs.Command.{Command, quantum, fusion, expand, plethysm, tab, rsk, unrsk, rect, growth, batch, work}
use Rattle.sym_model.specs.Ending.{Ending, done}
use Rattle.sym_model.specs.Form.{EachOf}
use Rattle.sym_model.specs.Headline.{ReadsBack}
use Rattle.one_answer_laws.specs.OneAnswer.{IsDefinite}
use Rattle.one_answer_laws.proofs.OneAnswer.{one_text}
use Rattle.sym_model.specs.Target.{IsDefinedCoefficient, HasWeight, Meets}
use Rattle.sym_model.specs.Outcome.{Answers, Expands, MayBeLarge}
use Rattle.rim_hooks.proofs.TextsInSteps.{quantum_reads-steps, fusion_reads-steps}
use Rattle.calc_words.specs.Commands.{KeepsLimits}
use Rattle.calc_words.specs.WrittenLimits.{IsWritten}
use Rattle.word_laws.proofs.LongestPrefixes.{each_in}
use Rattle.sym_model.specs.Grammar.{line_entries}
use Rattle.calc_replies.specs.Computed.{Tells}
use Rattle.calc_app.specs.Top.{IsInput, Says, SaysOver, IsOnlyText}
use Rattle.sym_model.specs.Partition.{ArePartitions}

-- the command asks for an expansion: its outcomes (`Answers`), each a text and an ending, are the outcomes of an expansion (`Expands`)
pub record NamesExpansion (command : Command) : Type 0 where
  pub answers : (text : List ℕ) (ending : Ending) → Expands command text ending → Answers command text ending
  pub expands : (text : List ℕ) (ending : Ending) → Answers command text ending → Expands command text ending
  pub over : (input text : List ℕ) (ending : Ending) → Answers command text ending → AnswersWith line_entries input command text ending
  pub alone : (input text : List ℕ) (ending : Ending) → AnswersWith line_entries input command text ending → Answers command text ending
  pub untold : (text : List ℕ) → Tells command text → ⊥
  pub says : (text : List ℕ) → KeepsLimits command → ReadsBack command text → Says command text
  pub says_over : (left : Option (List ℕ)) (text : List ℕ) → Says command text → SaysOver left command text

-- the command prints lines that are not terms: tableaux, words or grids (`tab`, `rsk`, `unrsk`, `rect` or `growth`)
pub record TellsLines (command : Command) : Type 0 where
  pub answers : (text : List ℕ) → Tells command text → Answers command text done
  pub over : (input text : List ℕ) (ending : Ending) → Answers command text ending → AnswersWith line_entries input command text ending
  pub alone : (input text : List ℕ) (ending : Ending) → AnswersWith line_entries input command text ending → Answers command text ending
  pub unnamed : (answer : PlainAnswer) → Meets command answer → ⊥
  pub small : MayBeLarge command → ⊥
  pub says : (text : List ℕ) → Answers command text done → Says command text
  pub says_over : (left : Option (List ℕ)) (text : List ℕ) → Says command text → SaysOver left command text

-- the command runs other commands, as `batch` and `work` do: it has no answer of its own, and it cannot be refused as too large
pub record RunsOthers (command : Command) : Type 0 where
  pub unanswered : (text : List ℕ) (ending : Ending) → Answers command text ending → ⊥
  pub unnamed : (answer : PlainAnswer) → Meets command answer → ⊥
  pub small : MayBeLarge command → ⊥
  pub untold : (text : List ℕ) → Tells command text → ⊥
  pub says_over : (left : Option (List ℕ)) (input text : List ℕ) → IsInput left input
      → AnswersWith line_entries input command text done → SaysOver left command text

not_large : (command : Command) → ((c : ℤ) → IsDefinedCoefficient command c → ⊥) → ((weight : ℕ) → HasWeight command weight → ⊥)
    → MayBeLarge command → ⊥
not_large command h k (inl large) = h large.0 large.1
not_large command h k (inr heavy) = k heavy.0 heavy.1

are_partitions : (factors : List (List ℕ)) → EachOf IsWritten factors → ArePartitions factors
are_partitions factors written parts among = (each_in IsWritten parts factors written among).partition

definite : (command : Command) → KeepsLimits command → IsDefinite command
definite (quantum rows columns factors) l = let p = l.0.positive in omega arith
definite (expand target one_line e) l = l.1
definite (plethysm target outer inner) l = l.4
definite command l = tt

-- a text that reads back as the answer to a command within its limits is the only one
only : (command : Command) (text : List ℕ) → KeepsLimits command → ReadsBack command text → IsOnlyText command text
only command text l h other o = one_text command other text (definite command l) o h

-- every command asks for an expansion (`NamesExpansion`), prints tableaux, words or grids (`TellsLines`), or runs other commands (`RunsOthers`)
pub kind : (command : Command) → NamesExpansion command ⊎ TellsLines command ⊎ RunsOthers command
kind (tab outer inner last) = inr (inl (record { answers = λ t h. (h, refl); over = λ i t e h. h; alone = λ i t e h. h; unnamed = λ a h. h; small = not_large (tab outer inner last) (λ c h. h) (λ w h. h); says = λ t h. h; says_over = λ l t h. h }))
kind (rsk w) = inr (inl (record { answers = λ t h. (h, refl); over = λ i t e h. h; alone = λ i t e h. h; unnamed = λ a h. h; small = not_large (rsk w) (λ c h. h) (λ w h. h); says = λ t h. h; says_over = λ l t h. h }))
kind (unrsk p q) = inr (inl (record { answers = λ t h. (h, refl); over = λ i t e h. h; alone = λ i t e h. h; unnamed = λ a h. h; small = not_large (unrsk p q) (λ c h. h) (λ w h. h); says = λ t h. h; says_over = λ l t h. h }))
kind (rect outer inner rows) = inr (inl (record { answers = λ t h. (h, refl); over = λ i t e h. h; alone = λ i t e h. h; unnamed = λ a h. h; small = not_large (rect outer inner rows) (λ c h. h) (λ w h. h); says = λ t h. h; says_over = λ l t h. h }))
kind (growth w) = inr (inl (record { answers = λ t h. (h, refl); over = λ i t e h. h; alone = λ i t e h. h; unnamed = λ a h. h; small = not_large (growth w) (λ c h. h) (λ w h. h); says = λ t h. h; says_over = λ l t h. h }))
kind batch = inr (inr (record { unanswered = λ t e h. h; unnamed = λ a h. h; small = not_large batch (λ c h. h) (λ w h. h); untold = λ t h. h; says_over = λ l i t is h. (i, is, h) }))
kind (work lines seed) = inr (inr (record { unanswered = λ t e h. h; unnamed = λ a h. h; small = not_large (work lines seed) (λ c h. h) (λ w h. h); untold = λ t h. h; says_over = λ l i t is h. h.0 }))
kind (quantum rows columns factors) = inl (record {
  answers = λ t e h. h;
  expands = λ t e h. h;
  over = λ i t e h. h;
  alone = λ i t e h. h;
  untold = λ t h. h;
  says = λ t l h. (
    h,
    quantum_reads-steps rows columns factors t l.0.positive l.2.some (are_partitions factors l.2.written) h,
    only (quantum rows columns factors) t l h,
  );
  says_over = λ l t h. h;
})
kind (fusion rows level factors) = inl (record {
  answers = λ t e h. h;
  expands = λ t e h. h;
  over = λ i t e h. h;
  alone = λ i t e h. h;
  untold = λ t h. h;
  says = λ t l h. (
    h,
    fusion_reads-steps rows level factors t l.0.positive l.2.some (are_partitions factors l.2.written) h,
    only (fusion rows level factors) t l h,
  );
  says_over = λ l t h. h;
})
kind command = inl (record { answers = λ t e h. h; expands = λ t e h. h; over = λ i t e h. h; alone = λ i t e h. h; untold = λ t h. h; says = λ t l h. (h, only command t l h); says_over = λ l t h. h })
