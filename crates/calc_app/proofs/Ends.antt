-- The clauses of the contract of `run`, after an outcome was written, and after the lines of a batch were run. An outcome is a text with an *ending*,
-- which is `done` or says which kind of refusal occurred.
use Rattle.std.proofs.Common.{◌≡◌, ◌⊎◌, ℕ, List, [], ◌∷◌, ◌++◌, Bool, true, false, cond, map, Option, Some, None, refl, sym, ◌∙◌, ap, subst, inl, inr, arith}
use Rattle.std.specs.Prelude.{Ok, is_some}
use Rattle.std.specs.Io.KnownBytes.{append_known}
use Rattle.calc_base.specs.declared.status.Status.{Status}
use Rattle.calc_base.specs.declared.status.Status.TheVariants as status
use Rattle.calc_base.specs.Puts.{Puts}
use Rattle.calc_base.proofs.PutsLaws.{Appends-told}
use Rattle.calc_base.specs.Sink.{SinkSeen, number_after, Appends}
use Rattle.calc_base.specs.Source.{SourceSeen}
use Rattle.calc_words.proofs.WrittenCommands.{words_keep}
use Rattle.calc_words.specs.Commands.{KeepsLimits}
use Rattle.word_laws.proofs.LongestPrefixes.{some_in, some_out}
use Rattle.sym_model.proofs.Sums.{Among-append_left}
use Rattle.sym_model.specs.BatchLine.{BatchLine, too_long, passed_over, spoken, batch_line, lines_of}
use Rattle.sym_model.specs.BatchOutcome.{Block, AreBlocks, are_done, batch_ending, RunsInput}
use Rattle.sym_model.specs.Command.{Command, batch}
use Rattle.sym_model.specs.CommandOffence.{Offence}
use Rattle.sym_model.specs.Ending.{Ending, done, some_refused, syntax, range, past}
use Rattle.sym_model.specs.Entry.{Entry, SpellsFreely, SpellsWithoutOffence, HasFirstOffence}
use Rattle.sym_model.specs.Grammar.{all_entries, line_entries, batch_entry, work_entry}
use Rattle.sym_model.specs.Outcome.{IsLineOutcome}
use Rattle.sym_model.specs.SyntaxPlace.{IsSyntaxPlace}
use Rattle.calc_replies.specs.declared.outcome.Outcome.{Outcome}
use Rattle.calc_replies.specs.declared.outcome.Task.{Task}
use Rattle.calc_replies.specs.declared.outcome.Task.TheVariants.{Lines, Put}
use Rattle.calc_replies.specs.Computed.{IsTaskFor, AcceptsTask, RefusesTask, TaskGoesWrong, status_for, text_of}
use Rattle.calc_app.specs.Top.{IsOutcome, RunsLines, Leaves, PutsWhole, PutsOutcome, PrintsAnswerTo, SaysLine, SayLines, PrintsLines, CutsLines, HidesNoFault, KeepsTold, IsEmptied, IsThrough, IsAccepted, AnswersWords}
use Rattle.calc_app.specs.Batch.{EndsBatch}
use Rattle.calc_app.proofs.Faults.{no_faults, sink_failed, ends_well}
use Rattle.calc_app.proofs.Outcomes.{has_outcome, headline, leaves_whole, leaves_prefix, answers_say, not_done, accepted, refuses_offence, refuses_place, cut_answers}
use Rattle.std.proofs.lemmas.Bool.{cases_cond}

-- the clauses that `task_of` ensures of the task that it returns for the words
pub record HasTask (words : List (List ℕ)) (task : Task) : Type 0 where
  pub computes : IsTaskFor words (Ok task)
  pub accepts : (command : Command) → SpellsWithoutOffence all_entries words command → AcceptsTask command (Ok task)
  pub refuses : (offence : Offence) → HasFirstOffence all_entries words (Some offence) → RefusesTask offence (Ok task)
  pub goes_wrong : (word byte : ℕ) → IsSyntaxPlace all_entries words word byte → TaskGoesWrong word byte (Ok task)

pub task_is : {words : List (List ℕ)} {found task : Task} → found ≡ task → IsTaskFor words (Ok found)
    → ((command : Command) → SpellsWithoutOffence all_entries words command → AcceptsTask command (Ok found))
    → ((offence : Offence) → HasFirstOffence all_entries words (Some offence) → RefusesTask offence (Ok found))
    → ((word byte : ℕ) → IsSyntaxPlace all_entries words word byte → TaskGoesWrong word byte (Ok found)) → HasTask words task
task_is {words = words} is computes accepts refuses goes_wrong =
    subst (HasTask words) is (record { computes = computes; accepts = accepts; refuses = refuses; goes_wrong = goes_wrong })

-- the clauses of the contract of `run`, except the clause that the source is unchanged
pub record Ran (words : List (List ℕ)) (old new : SinkSeen) (source now : SourceSeen) (Untouched : Type 0) (result : Status) : Type 0 where
  pub headline : result ≡ status.Done → (before : List ℕ) → old.written ≡ Some before → PrintsAnswerTo words before source.left new.written
  pub lines : RunsLines words → IsThrough result → (before : List ℕ) → old.written ≡ Some before → PrintsLines before source.left new.written
  pub cut : RunsLines words → result ≡ status.SinkFault → CutsLines old new source now
  pub leaves : Leaves old new source now Untouched (RunsLines words) (IsOutcome words) result
  pub answers : AnswersWords words (Appends old new) result
  pub faults : HidesNoFault old new source now result
  pub all_read : RunsLines words → IsThrough result → IsEmptied now.left

-- ---- the clauses of `run` after an outcome was written

put_leaves : (words : List (List ℕ)) (old new : SinkSeen) (source : SourceSeen) (Untouched : Type 0) (outcome : Outcome) (result : Status)
    → HasTask words (Put outcome) → PutsOutcome old new outcome result
    → Leaves old new source source Untouched (RunsLines words) (IsOutcome words) result
put_leaves words old new source Untouched outcome result task p = by p.well p.puts p.settles p.is
  where
    by : (well : Bool) → Puts true old well new (text_of outcome) → (well ≡ true → new.settled ≡ true)
        → result ≡ cond well (status_for outcome) status.SinkFault
        → Leaves old new source source Untouched (RunsLines words) (IsOutcome words) result
    by true puts settles is =
        leaves_whole old new source source Untouched words outcome result task.computes p.printable is (puts.whole refl) (settles refl)
    by false puts settles is =
        subst (Leaves old new source source Untouched (RunsLines words) (IsOutcome words)) (sym is)
        (leaves_prefix old new source words outcome task.computes p.printable (puts.cut refl refl))

put_answers : (words : List (List ℕ)) (old new : SinkSeen) (outcome : Outcome) (result : Status)
    → HasTask words (Put outcome) → PutsOutcome old new outcome result → AnswersWords words (Appends old new) result
put_answers words old new outcome result task p = by p.well p.puts p.is
  where
    by : (well : Bool) → Puts true old well new (text_of outcome) → result ≡ cond well (status_for outcome) status.SinkFault
        → AnswersWords words (Appends old new) result
    by true puts is = subst (AnswersWords words (Appends old new)) (sym is) (record {
      accepted = λ command spelled. accepted command outcome (task.accepts command spelled).0;
      offended = λ offence first. refuses_offence (Appends old new) offence outcome (task.refuses offence first) (puts.whole refl);
      no_command = λ word byte place. refuses_place (Appends old new) word byte outcome (task.goes_wrong word byte place) (puts.whole refl);
    })
    by false puts is = cut_answers words (Appends old new) result (inr is)

put_faults : (words : List (List ℕ)) (old new : SinkSeen) (source : SourceSeen) (outcome : Outcome) (result : Status)
    → HasTask words (Put outcome) → PutsOutcome old new outcome result → HidesNoFault old new source source result
put_faults words old new source outcome result task p = by p.well p.puts p.is
  where
    by : (well : Bool) → Puts true old well new (text_of outcome) → result ≡ cond well (status_for outcome) status.SinkFault
        → HidesNoFault old new source source result
    by true puts is =
        let has = has_outcome all_entries words outcome task.computes p.printable in
        subst (HidesNoFault old new source source) (sym (is ∙ has.same)) (no_faults (ends_well has.ending) (puts.still refl) refl)
    by false puts is = subst (HidesNoFault old new source source) (sym is) (sink_failed (puts.rose refl refl) puts.later (omega arith))

pub put_ran : (words : List (List ℕ)) (old new : SinkSeen) (source : SourceSeen) (Untouched : Type 0) (outcome : Outcome) (result : Status)
    → HasTask words (Put outcome) → PutsOutcome old new outcome result → Ran words old new source source Untouched result
put_ran words old new source Untouched outcome result task p =
    let leaves = put_leaves words old new source Untouched outcome result task p in
    record {
      headline = headline old new source source Untouched words result leaves;
      lines = λ runs. absurd ((task.accepts batch runs).1 refl);
      cut = λ runs. absurd ((task.accepts batch runs).1 refl);
      leaves = leaves;
      answers = put_answers words old new outcome result task p;
      faults = put_faults words old new source outcome result task p;
      all_read = λ runs. absurd ((task.accepts batch runs).1 refl);
    }

-- ---- the clauses of `run` after lines were run

runs_outcome : (words : List (List ℕ)) (input text : List ℕ) (ending : Ending) → RunsLines words → RunsInput line_entries input text ending
    → IsOutcome words input text ending
runs_outcome words input text ending spelled runs = inr (inr (batch, spelled, runs))

whole_leave : (words : List (List ℕ)) {old new : SinkSeen} {source : SourceSeen} (ending : Ending) → RunsLines words
    → PutsWhole old new source (RunsInput line_entries) ending → PutsWhole old new source (IsOutcome words) ending
whole_leave words ending runs l = record {
  input = l.input;
  is_input = l.is_input;
  text = l.text;
  outcome = runs_outcome words l.input l.text ending runs l.outcome;
  appended = l.appended;
  is_settled = l.is_settled;
}

lines_leave : (words : List (List ℕ)) (old new : SinkSeen) (source now : SourceSeen) (Untouched : Type 0) (result : Status) → RunsLines words
    → Leaves old new source now Untouched (Unit {0}) (RunsInput line_entries) result
    → Leaves old new source now Untouched (RunsLines words) (IsOutcome words) result
lines_leave words old new source now Untouched status.Done runs l = whole_leave words done runs l
lines_leave words old new source now Untouched status.SomeRefused runs l = (runs, whole_leave words some_refused runs l.1)
lines_leave words old new source now Untouched status.Syntax runs l = whole_leave words syntax runs l
lines_leave words old new source now Untouched status.Range runs l = whole_leave words range runs l
lines_leave words old new source now Untouched status.Past runs l = whole_leave words past runs l
lines_leave words old new source now Untouched status.SinkFault runs l = record {
  front = l.front;
  is_front = l.is_front;
  text = l.text;
  ending = l.ending;
  outcome = runs_outcome words l.front l.text l.ending runs l.outcome;
  appended = l.appended;
}
lines_leave words old new source now Untouched status.SourceFault runs l = (
  runs,
  record {
    front = l.1.front;
    piece = l.1.piece;
    took = l.1.took;
    no_feed = l.1.no_feed;
    is_whole = l.1.is_whole;
    is_front = l.1.is_front;
    text = l.1.text;
    ending = l.1.ending;
    outcome = runs_outcome words l.1.front l.1.text l.1.ending runs l.1.outcome;
    appended = l.1.appended;
    is_settled = l.1.is_settled;
  },
)
lines_leave words old new source now Untouched status.NoMemory runs (inl same) = inl same
lines_leave words old new source now Untouched status.NoMemory runs (inr l) = inr (
  runs,
  record {
    front = l.1.front;
    piece = l.1.piece;
    took = l.1.took;
    at_most = l.1.at_most;
    is_ended = l.1.is_ended;
    is_front = l.1.is_front;
    text = l.1.text;
    ending = l.1.ending;
    outcome = runs_outcome words l.1.front l.1.text l.1.ending runs l.1.outcome;
    appended = l.1.appended;
    is_settled = l.1.is_settled;
  },
)

not_so : (blocks : List Block) (ending : Ending) → ending ≡ batch_ending blocks → (ending ≡ done) ⊎ (ending ≡ some_refused)
not_so blocks ending is = cases_cond (are_done blocks) done some_refused ending is

no_syntax : (syntax ≡ done) ⊎ (syntax ≡ some_refused) → ⊥
no_syntax (inl e) = cc
no_syntax (inr e) = cc

no_range : (range ≡ done) ⊎ (range ≡ some_refused) → ⊥
no_range (inl e) = cc
no_range (inr e) = cc

no_past : (past ≡ done) ⊎ (past ≡ some_refused) → ⊥
no_past (inl e) = cc
no_past (inr e) = cc

lines_end : (old new : SinkSeen) (source now : SourceSeen) (Untouched : Type 0) (result : Status)
    → Leaves old new source now Untouched (Unit {0}) (RunsInput line_entries) result → IsAccepted batch result
lines_end old new source now Untouched status.Done l = inl refl
lines_end old new source now Untouched status.SomeRefused l = inr (inr (inr (refl, inl refl)))
lines_end old new source now Untouched status.Syntax l = absurd (no_syntax (not_so l.outcome.blocks syntax l.outcome.ends))
lines_end old new source now Untouched status.Range l = absurd (no_range (not_so l.outcome.blocks range l.outcome.ends))
lines_end old new source now Untouched status.Past l = absurd (no_past (not_so l.outcome.blocks past l.outcome.ends))
lines_end old new source now Untouched status.SinkFault l = inr (inr (inl (inr refl)))
lines_end old new source now Untouched status.SourceFault l = inr (inr (inr (refl, inr refl)))
lines_end old new source now Untouched status.NoMemory l = inr (inr (inl (inl refl)))

-- ---- the blocks of the lines of a batch are the answers to the commands of the lines

kept_in_line : (words : List (List ℕ)) (command : Command) → SpellsWithoutOffence line_entries words command → KeepsLimits command
kept_in_line words command spelled =
    let spells : Entry → Type 0 = λ e. SpellsFreely e words command in
    let at = some_out spells line_entries spelled in
    words_keep words command (some_in spells at.0 all_entries (Among-append_left at.0 line_entries (batch_entry ∷ work_entry ∷ []) at.1) at.2)

line_says : (words : List (List ℕ)) (text : List ℕ) → IsLineOutcome line_entries words text done → SaysLine words text
line_says words text (inl wrong) = let clash : done ≡ syntax = wrong.1 in cc
line_says words text (inr (inl offends)) = absurd (not_done offends.offence.2 offends.ends)
line_says words text (inr (inr comes)) = record { command = comes.0; spelled = comes.1; says = answers_say comes.0 text (kept_in_line words comes.0 comes.1) comes.2 }

say_lines : (lines : List BatchLine) (blocks : List Block) → AreBlocks line_entries lines blocks → SayLines lines blocks
say_lines [] [] are = tt
say_lines [] (b ∷ blocks) are = tt
say_lines (passed_over ∷ lines) blocks are = say_lines lines blocks are
say_lines (too_long ∷ lines) [] are = tt
say_lines (too_long ∷ lines) (b ∷ blocks) are = say_lines lines blocks are.1
say_lines (spoken words ∷ lines) [] are = tt
say_lines (spoken words ∷ lines) (b ∷ blocks) are =
    ((λ is. line_says words b.0 (subst (IsLineOutcome line_entries words b.0) is are.0)), say_lines lines blocks are.1)

whole_prints : {old new : SinkSeen} {source : SourceSeen} (ending : Ending) (before : List ℕ) → PutsWhole old new source (RunsInput line_entries) ending
    → old.written ≡ Some before → PrintsLines before source.left new.written
whole_prints ending before l told = record {
  input = l.input;
  is_input = l.is_input;
  blocks = l.outcome.blocks;
  appended = Appends-told before l.appended told ∙ ap (λ t. Some (before ++ t)) l.outcome.joined;
  are_blocks = l.outcome.are_blocks;
  say = say_lines (map batch_line (lines_of l.input)) l.outcome.blocks l.outcome.are_blocks;
}

lines_print : (old new : SinkSeen) (source now : SourceSeen) (Untouched : Type 0) (result : Status)
    → Leaves old new source now Untouched (Unit {0}) (RunsInput line_entries) result
    → IsThrough result → (before : List ℕ) → old.written ≡ Some before → PrintsLines before source.left new.written
lines_print old new source now Untouched result leaves (inl is) before told =
    whole_prints done before (subst (Leaves old new source now Untouched (Unit {0}) (RunsInput line_entries)) is leaves) told
lines_print old new source now Untouched result leaves (inr is) before told =
    whole_prints some_refused before (subst (Leaves old new source now Untouched (Unit {0}) (RunsInput line_entries)) is leaves).1 told

pub lines_ran : (words : List (List ℕ)) (old new : SinkSeen) (source now : SourceSeen) (Untouched : Type 0) (result : Status)
    → HasTask words Lines → EndsBatch old new source now Untouched result → Ran words old new source now Untouched result
lines_ran words old new source now Untouched result task e =
    let leaves = lines_leave words old new source now Untouched result task.computes e.leaves in
    record {
      headline = headline old new source now Untouched words result leaves;
      lines = λ runs. lines_print old new source now Untouched result e.leaves;
      cut = λ runs. e.cut;
      leaves = leaves;
      answers = record {
        accepted = λ command spelled.
            subst (λ c. IsAccepted c result) (sym (task.accepts command spelled)) (lines_end old new source now Untouched result e.leaves);
        offended = λ offence first. absurd (task.refuses offence first);
        no_command = λ word byte place. absurd (task.goes_wrong word byte place);
      };
      faults = e.faults;
      all_read = λ runs. e.all_read;
    }

-- ---- the clause `told` of `run`

appends_kept : {old new : SinkSeen} {source now : SourceSeen} {text : List ℕ} → is_some now.left ≡ is_some source.left
    → Appends old new text → KeepsTold old new source now
appends_kept {old = old} {new = new} {text = text} left appended = record {
  written = ap is_some appended.bytes ∙ bytes_kept old.written;
  number = ap is_some appended.number ∙ number_kept old.length;
  left = left;
}
  where
    bytes_kept : (told : Option (List ℕ)) → is_some (append_known told text) ≡ is_some told
    bytes_kept None = refl
    bytes_kept (Some bytes) = refl

    number_kept : (told : Option ℕ) → is_some (number_after told text) ≡ is_some told
    number_kept None = refl
    number_kept (Some n) = refl

-- if the clause `leaves` holds for a status, and the source records the bytes that it has left if and only if it did before, what is recorded is
-- unchanged
pub kept_told : {old new : SinkSeen} {source now : SourceSeen} (Untouched Runs : Type 0) (Defined : List ℕ → List ℕ → Ending → Type 0) (result : Status)
    → Leaves old new source now Untouched Runs Defined result → (Untouched → new ≡ old) → is_some now.left ≡ is_some source.left
    → KeepsTold old new source now
kept_told Untouched Runs Defined status.Done l same left = appends_kept left l.appended
kept_told Untouched Runs Defined status.SomeRefused l same left = appends_kept left l.1.appended
kept_told Untouched Runs Defined status.Syntax l same left = appends_kept left l.appended
kept_told Untouched Runs Defined status.Range l same left = appends_kept left l.appended
kept_told Untouched Runs Defined status.Past l same left = appends_kept left l.appended
kept_told Untouched Runs Defined status.SinkFault l same left = appends_kept left l.appended.appends
kept_told Untouched Runs Defined status.SourceFault l same left = appends_kept left l.1.appended
kept_told Untouched Runs Defined status.NoMemory (inl h) same left = record {
  written = ap (λ (s : SinkSeen). is_some s.written) (same h);
  number = ap (λ (s : SinkSeen). is_some s.length) (same h);
  left = left;
}
kept_told Untouched Runs Defined status.NoMemory (inr l) same left = appends_kept left l.1.appended
