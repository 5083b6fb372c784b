-- If the program computes an outcome for a command, the text that it prints and its *ending* (`done`, or which kind of refusal occurred) are among
-- the outcomes that the specification allows for the words of the command (`IsOutcome`).
use Rattle.std.proofs.Common.{◌≡◌, ℕ, List, ◌++◌, true, Option, Some, refl, sym, ◌∙◌, ap, subst, inl, inr, ◌⊎◌}
use Rattle.std.specs.Prelude.{codes, None, Ok, []}
use Rattle.calc_base.specs.declared.status.Status.{Status}
use Rattle.calc_base.specs.declared.status.Status.TheVariants as status
use Rattle.calc_base.specs.declared.words.WordsFault.{WordsFault}
use Rattle.calc_base.specs.declared.words.WordsFault.TheVariants as fault
use Rattle.calc_base.proofs.PutsLaws.{Appends-told}
use Rattle.calc_base.specs.Sink.{SinkSeen, Appends, AppendsPrefix}
use Rattle.calc_base.specs.Source.{SourceSeen}
use Rattle.sym_model.specs.Grammar.{all_entries, line_entries}
use Rattle.calc_words.proofs.WrittenCommands.{words_keep}
use Rattle.calc_words.specs.Commands.{KeepsLimits}
use Rattle.calc_language.specs.Reading.{IsFaultOf}
use Rattle.expansion_printer.specs.declared.answer.Answer.{Answer}
use Rattle.expansion_printer.specs.Answers.{plain_answer}
use Rattle.expansion_printer.specs.Refusal.{refusal_text}
use Rattle.printing_laws.proofs.PrintedForms.{read_in-text}
use Rattle.sym_model.specs.Answer.{Answer as PlainAnswer, answer as listed, IsPrintable}
use Rattle.sym_model.specs.PrintedForm.{PrintedForm, printed_form, answer_text_in}
use Rattle.calc_replies.specs.declared.form.Form.{Form}
use Rattle.calc_replies.specs.Forms.{plain_form}
use Rattle.sym_model.specs.Command.{Command}
use Rattle.calc_app.proofs.CommandKinds.{NamesExpansion, TellsLines, RunsOthers, kind}
use Rattle.sym_model.specs.CommandOffence.{Offence}
use Rattle.sym_model.specs.Ending.{Ending, done, some_refused, syntax, range, past}
use Rattle.sym_model.specs.ExpressionOffence as offences
use Rattle.sym_model.specs.Headline.{ReadsBack}
use Rattle.sym_model.specs.BatchLine.{lines_of}
use Rattle.sym_model.specs.BatchOutcome.{AnswersWith}
use Rattle.sym_model.specs.Entry.{Entry}
use Rattle.sym_model.specs.Outcome.{Answers, Expands, PrintsAnswer, IsLineOutcome, MustBeLarge, MayBeLarge, ending_of}
use Rattle.sym_model.specs.RefusalText.{refusal_line, offence_line, large_line}
use Rattle.sym_model.specs.Target.{Meets}
use Rattle.calc_replies.specs.declared.outcome.Outcome.{Outcome}
use Rattle.calc_replies.specs.declared.outcome.Outcome.TheVariants.{Answered, Written, Refused, Large, Told}
use Rattle.calc_replies.specs.Computed.{Computes, AreRefused, Accepts, Refuses, GoesWrong, Tells, lines_text, text_of, HasBlock, refusal_status, status_for}
use Rattle.calc_app.specs.Top.{IsOutcome, IsInput, IsFrontOf, RunsLines, Says, SaysOver, status_of, PutsPrefix, Leaves, PrintsAnswerTo, WasCutOff, IsAccepted, IsRefused, AnswersWords}

-- ---- the text of the answer to a command

prints : (command : Command) (answer : Answer) (form : Form) → Meets command (plain_answer answer) → plain_form form ≡ printed_form command
    → IsPrintable (plain_answer answer) → PrintsAnswer command (answer_text_in (plain_form form) (plain_answer answer))
prints command answer form meets asked printable = record {
  answer = plain_answer answer;
  printable = printable;
  meets = meets;
  printed = ap (λ (f : PrintedForm). answer_text_in f (plain_answer answer)) asked;
}

answers_text : (command : Command) (text : List ℕ) → (MustBeLarge command → ⊥) → PrintsAnswer command text → Answers command text done
answers_text command text small prints = by (kind command)
  where
    by : NamesExpansion command ⊎ TellsLines command ⊎ RunsOthers command → Answers command text done
    by (inl k) = k.answers _ _ (inl (small, prints, refl))
    by (inr (inl k)) = absurd (k.unnamed prints.answer prints.meets)
    by (inr (inr k)) = absurd (k.unnamed prints.answer prints.meets)

answers_large : (command : Command) → MayBeLarge command → Answers command large_line past
answers_large command large = by (kind command)
  where
    by : NamesExpansion command ⊎ TellsLines command ⊎ RunsOthers command → Answers command large_line past
    by (inl k) = k.answers _ _ (inr (large, refl, refl))
    by (inr (inl k)) = absurd (k.small large)
    by (inr (inr k)) = absurd (k.small large)

tells_answer : (command : Command) (text : List ℕ) → Tells command text → Answers command text done
tells_answer command text tells = by (kind command)
  where
    by : NamesExpansion command ⊎ TellsLines command ⊎ RunsOthers command → Answers command text done
    by (inl k) = absurd (k.untold text tells)
    by (inr (inl k)) = k.answers text tells
    by (inr (inr k)) = absurd (k.untold text tells)

-- ---- the text of the answer to the words, or of their refusal

-- the text and some ending are an outcome of the words, by the commands of the list `entries`, and `answer` is the status of this ending
pub record HasOutcome (entries : List Entry) (words : List (List ℕ)) (text : List ℕ) (answer : Status) : Type 0 where
  pub ending : Ending
  pub outcome : IsLineOutcome entries words text ending
  pub same : answer ≡ status_of ending

offending : (entries : List Entry) (words : List (List ℕ)) (reason : WordsFault) → AreRefused entries words reason
    → HasOutcome entries words (refusal_text reason) (refusal_status reason)
offending entries words (fault.Syntax at) are = record {
  ending = syntax;
  outcome = inl (record { word = at.word; byte = at.byte; place = are.0; line = refl }, refl);
  same = refl;
}
offending entries words (fault.Literal at) are = record {
  ending = past;
  outcome = inr (inl (record { offence = (at.word, at.byte, offences.literal); first = are.0; line = refl; ends = refl }));
  same = refl;
}
offending entries words (fault.Range at) are = record {
  ending = range;
  outcome = inr (inl (record { offence = (at.word, at.byte, offences.range); first = are.0; line = refl; ends = refl }));
  same = refl;
}
offending entries words (fault.Shape at) are = record {
  ending = range;
  outcome = inr (inl (record { offence = (at.word, at.byte, offences.shape); first = are.0; line = refl; ends = refl }));
  same = refl;
}
offending entries words fault.NoMemory are = absurd (are.1 refl)

pub has_outcome : (entries : List Entry) (words : List (List ℕ)) (outcome : Outcome) → Computes entries words (Ok outcome)
    → HasBlock outcome → HasOutcome entries words (text_of outcome) (status_for outcome)
has_outcome entries words (Answered answer form) computes block = record {
  ending = done;
  outcome = inr (inr (
    computes.command,
    computes.spelled,
    answers_text computes.command (answer_text_in (plain_form form) (plain_answer answer)) computes.reply.0
        (prints computes.command answer form computes.reply.1 computes.reply.2 block),
  ));
  same = refl;
}
has_outcome entries words (Written text) computes block = record {
  ending = done;
  outcome = inr (inr (computes.command, computes.spelled, answers_text computes.command text.bytes computes.reply.0 computes.reply.1));
  same = refl;
}
has_outcome entries words (Refused reason) computes block = offending entries words reason computes
has_outcome entries words Large computes block = record {
  ending = past;
  outcome = inr (inr (computes.command, computes.spelled, answers_large computes.command computes.reply));
  same = refl;
}
has_outcome entries words (Told lines) computes block = record {
  ending = done;
  outcome = inr (inr (computes.command, computes.spelled, tells_answer computes.command (lines_text lines) computes.reply));
  same = refl;
}

answers_alone : (input : List ℕ) (command : Command) (text : List ℕ) (ending : Ending) → Answers command text ending
    → AnswersWith line_entries input command text ending
answers_alone input command text ending answers = by (kind command)
  where
    by : NamesExpansion command ⊎ TellsLines command ⊎ RunsOthers command → AnswersWith line_entries input command text ending
    by (inl k) = k.over input text ending answers
    by (inr (inl k)) = k.over input text ending answers
    by (inr (inr k)) = absurd (k.unanswered text ending answers)

alone : (words : List (List ℕ)) (input text : List ℕ) (ending : Ending) → IsLineOutcome all_entries words text ending
    → IsOutcome words input text ending
alone words input text ending (inl wrong) = inl wrong
alone words input text ending (inr (inl offends)) = inr (inl offends)
alone words input text ending (inr (inr comes)) = inr (inr (comes.0, comes.1, answers_alone input comes.0 text ending comes.2))

-- ---- the bytes that a command leaves in the sink

no_some_refused : (outcome : Outcome) → status_for outcome ≡ status.SomeRefused → ⊥
no_some_refused (Answered answer form) is = cc
no_some_refused (Written text) is = cc
no_some_refused (Refused (fault.Syntax at)) is = cc
no_some_refused (Refused (fault.Literal at)) is = cc
no_some_refused (Refused (fault.Range at)) is = cc
no_some_refused (Refused (fault.Shape at)) is = cc
no_some_refused (Refused fault.NoMemory) is = cc
no_some_refused Large is = cc
no_some_refused (Told lines) is = cc

-- if the whole text of an outcome over the input was written and `finish` succeeded, the clause `Leaves` holds with the status of the ending; if this
-- status is `SomeRefused`, it is also required that lines are run
pub leaves_ending : (old new : SinkSeen) (source now : SourceSeen) (Untouched Runs : Type 0) (Defined : List ℕ → List ℕ → Ending → Type 0)
    (input text : List ℕ) (ending : Ending) → IsInput source.left input → Defined input text ending → (status_of ending ≡ status.SomeRefused → Runs)
    → Appends old new text → new.settled ≡ true → Leaves old new source now Untouched Runs Defined (status_of ending)
leaves_ending old new source now Untouched Runs Defined input text done is_input outcome runs appended is_settled =
    record { input = input; is_input = is_input; text = text; outcome = outcome; appended = appended; is_settled = is_settled }
leaves_ending old new source now Untouched Runs Defined input text some_refused is_input outcome runs appended is_settled = (
  runs refl,
  record { input = input; is_input = is_input; text = text; outcome = outcome; appended = appended; is_settled = is_settled },
)
leaves_ending old new source now Untouched Runs Defined input text syntax is_input outcome runs appended is_settled =
    record { input = input; is_input = is_input; text = text; outcome = outcome; appended = appended; is_settled = is_settled }
leaves_ending old new source now Untouched Runs Defined input text range is_input outcome runs appended is_settled =
    record { input = input; is_input = is_input; text = text; outcome = outcome; appended = appended; is_settled = is_settled }
leaves_ending old new source now Untouched Runs Defined input text past is_input outcome runs appended is_settled =
    record { input = input; is_input = is_input; text = text; outcome = outcome; appended = appended; is_settled = is_settled }

-- there is an input that is all that the source has left, if the source records its bytes
pub told_input : (left : Option (List ℕ)) → (input : List ℕ) × IsInput left input
told_input None = ([], tt)
told_input (Some bytes) = (bytes, refl)

-- the empty text consists of the first 0 lines of every input
pub no_front : (left : Option (List ℕ)) → IsFrontOf left []
no_front None = tt
no_front (Some bytes) = (lines_of bytes, refl)

pub leaves_whole : (old new : SinkSeen) (source now : SourceSeen) (Untouched : Type 0) (words : List (List ℕ)) (outcome : Outcome) (answer : Status)
    → Computes all_entries words (Ok outcome) → HasBlock outcome
    → answer ≡ status_for outcome → Appends old new (text_of outcome) → new.settled ≡ true
    → Leaves old new source now Untouched (RunsLines words) (IsOutcome words) answer
leaves_whole old new source now Untouched words outcome answer computes block is appended is_settled =
    let has = has_outcome all_entries words outcome computes block in
    let told = told_input source.left in
    subst (Leaves old new source now Untouched (RunsLines words) (IsOutcome words)) (sym (is ∙ has.same))
    (leaves_ending old new source now Untouched (RunsLines words) (IsOutcome words) told.0 (text_of outcome) has.ending
    told.1 (alone words told.0 (text_of outcome) has.ending has.outcome)
    (λ e. absurd (no_some_refused outcome (has.same ∙ e))) appended is_settled)

pub leaves_prefix : (old new : SinkSeen) (source : SourceSeen) (words : List (List ℕ)) (outcome : Outcome)
    → Computes all_entries words (Ok outcome) → HasBlock outcome → AppendsPrefix old new (text_of outcome)
    → PutsPrefix old new source (IsOutcome words)
leaves_prefix old new source words outcome computes block appended =
    let has = has_outcome all_entries words outcome computes block in
    record {
      front = [];
      is_front = no_front source.left;
      text = text_of outcome;
      ending = has.ending;
      outcome = alone words [] (text_of outcome) has.ending has.outcome;
      appended = appended;
    }

-- ---- the clause `headline`: the text that was written is the answer

says_text : (command : Command) (answer : PlainAnswer) → Meets command answer → IsPrintable answer
    → ReadsBack command (answer_text_in (printed_form command) answer)
says_text command (listed kind terms) meets printable = record {
  kind = kind;
  terms = terms;
  reads = read_in-text (printed_form command) kind terms printable.0 printable.1;
  canonical = printable.0;
  meets = meets;
}

expands_say : (command : Command) (text : List ℕ) → Expands command text done → ReadsBack command text
expands_say command text (inl expands) =
    let prints = expands.1 in
    subst (ReadsBack command) (sym prints.printed) (says_text command prints.answer prints.meets prints.printable)
expands_say command text (inr refused) = let clash : done ≡ past = refused.2 in cc

-- if a command is within its limits, and the text with the ending `done` is an outcome of the command (`Answers`), the text satisfies `Says`
pub answers_say : (command : Command) (text : List ℕ) → KeepsLimits command → Answers command text done → Says command text
answers_say command text keeps answers = by (kind command)
  where
    by : NamesExpansion command ⊎ TellsLines command ⊎ RunsOthers command → Says command text
    by (inl k) = k.says text keeps (expands_say command text (k.expands text done answers))
    by (inr (inl k)) = k.says text answers
    by (inr (inr k)) = absurd (k.unanswered text done answers)

answers_with_say : (told : Option (List ℕ)) (input : List ℕ) (command : Command) (text : List ℕ) → IsInput told input → KeepsLimits command
    → AnswersWith line_entries input command text done → SaysOver told command text
answers_with_say told input command text is_input keeps answers = by (kind command)
  where
    by : NamesExpansion command ⊎ TellsLines command ⊎ RunsOthers command → SaysOver told command text
    by (inl k) = k.says_over told text (answers_say command text keeps (k.alone input text done answers))
    by (inr (inl k)) = k.says_over told text (answers_say command text keeps (k.alone input text done answers))
    by (inr (inr k)) = k.says_over told input text is_input answers

pub not_done : (kind : offences.OffenceKind) → done ≡ ending_of kind → ⊥
not_done offences.literal is = cc
not_done offences.range is = cc
not_done offences.shape is = cc

-- if the clause `Leaves` holds with the status `Done`, the text that was written is the answer to the command of the words
pub headline : (old new : SinkSeen) (source now : SourceSeen) (Untouched : Type 0) (words : List (List ℕ)) (answer : Status)
    → Leaves old new source now Untouched (RunsLines words) (IsOutcome words) answer
    → answer ≡ status.Done → (before : List ℕ) → old.written ≡ Some before → PrintsAnswerTo words before source.left new.written
headline old new source now Untouched words answer leaves ended before told =
    let whole = subst (Leaves old new source now Untouched (RunsLines words) (IsOutcome words)) ended leaves in
    by whole.text whole.input whole.is_input (Appends-told before whole.appended told) whole.outcome
  where
    by : (text input : List ℕ) → IsInput source.left input → new.written ≡ Some (before ++ text) → IsOutcome words input text done
        → PrintsAnswerTo words before source.left new.written
    by text input is_input appended (inl wrong) = let clash : done ≡ syntax = wrong.1 in cc
    by text input is_input appended (inr (inl offends)) = absurd (not_done offends.offence.2 offends.ends)
    by text input is_input appended (inr (inr comes)) = record {
      text = text;
      appended = appended;
      command = comes.0;
      spelled = comes.1;
      says = answers_with_say source.left input comes.0 text is_input (words_keep words comes.0 comes.1) comes.2;
    }

-- ---- the clause `answers`: the words are accepted, or the line that is written names their first error

pub accepted : (command : Command) (outcome : Outcome) → Accepts command (Ok outcome) → IsAccepted command (status_for outcome)
accepted command (Answered answer form) accepts = inl refl
accepted command (Written text) accepts = inl refl
accepted command (Refused reason) accepts = absurd accepts
accepted command Large accepts = inr (inl (refl, accepts))
accepted command (Told lines) accepts = inl refl

names : (offence : Offence) (reason : WordsFault) → IsFaultOf offence reason
    → (refusal_status reason ≡ status_of (ending_of offence.2)) × (refusal_text reason ≡ offence_line offence)
names offence (fault.Syntax at) is = absurd is
names offence (fault.Literal at) is =
    (ap (λ (o : Offence). status_of (ending_of o.2)) (sym is), ap (λ (o : Offence). offence_line o) (sym is))
names offence (fault.Range at) is =
    (ap (λ (o : Offence). status_of (ending_of o.2)) (sym is), ap (λ (o : Offence). offence_line o) (sym is))
names offence (fault.Shape at) is =
    (ap (λ (o : Offence). status_of (ending_of o.2)) (sym is), ap (λ (o : Offence). offence_line o) (sym is))
names offence fault.NoMemory is = absurd is

pub refuses_offence : (IsPut : List ℕ → Type 0) (offence : Offence) (outcome : Outcome) → Refuses offence (Ok outcome) → IsPut (text_of outcome)
    → IsRefused (ending_of offence.2) (IsPut (offence_line offence)) (status_for outcome)
refuses_offence IsPut offence (Answered answer form) refuses put = absurd refuses
refuses_offence IsPut offence (Written text) refuses put = absurd refuses
refuses_offence IsPut offence (Refused reason) refuses put =
    let both = names offence reason refuses in record { ends = inl both.0; puts = λ ended. subst IsPut both.1 put }
refuses_offence IsPut offence Large refuses put = absurd refuses
refuses_offence IsPut offence (Told lines) refuses put = absurd refuses

pub refuses_place : (IsPut : List ℕ → Type 0) (word byte : ℕ) (outcome : Outcome) → GoesWrong word byte (Ok outcome) → IsPut (text_of outcome)
    → IsRefused syntax (IsPut (refusal_line (codes "Syntax") word byte)) (status_for outcome)
refuses_place IsPut word byte (Answered answer form) wrong put = absurd wrong
refuses_place IsPut word byte (Written text) wrong put = absurd wrong
refuses_place IsPut word byte (Refused reason) wrong put =
    record { ends = inl (ap refusal_status wrong); puts = λ ended. subst IsPut (ap refusal_text wrong) put }
refuses_place IsPut word byte Large wrong put = absurd wrong
refuses_place IsPut word byte (Told lines) wrong put = absurd wrong

no_ending : (ending : Ending) (answer : Status) → WasCutOff answer → answer ≡ status_of ending → ⊥
no_ending done answer (inl cut) ended = let clash : status.NoMemory ≡ status.Done = sym cut ∙ ended in cc
no_ending done answer (inr cut) ended = let clash : status.SinkFault ≡ status.Done = sym cut ∙ ended in cc
no_ending some_refused answer (inl cut) ended = let clash : status.NoMemory ≡ status.SomeRefused = sym cut ∙ ended in cc
no_ending some_refused answer (inr cut) ended = let clash : status.SinkFault ≡ status.SomeRefused = sym cut ∙ ended in cc
no_ending syntax answer (inl cut) ended = let clash : status.NoMemory ≡ status.Syntax = sym cut ∙ ended in cc
no_ending syntax answer (inr cut) ended = let clash : status.SinkFault ≡ status.Syntax = sym cut ∙ ended in cc
no_ending range answer (inl cut) ended = let clash : status.NoMemory ≡ status.Range = sym cut ∙ ended in cc
no_ending range answer (inr cut) ended = let clash : status.SinkFault ≡ status.Range = sym cut ∙ ended in cc
no_ending past answer (inl cut) ended = let clash : status.NoMemory ≡ status.Past = sym cut ∙ ended in cc
no_ending past answer (inr cut) ended = let clash : status.SinkFault ≡ status.Past = sym cut ∙ ended in cc

was_cut_off : (ending : Ending) (IsPut : Type 0) (answer : Status) → WasCutOff answer → IsRefused ending IsPut answer
was_cut_off ending IsPut answer cut = record { ends = inr cut; puts = λ ended. absurd (no_ending ending answer cut ended) }

-- if the status is `NoMemory` or `SinkFault`, the clause `AnswersWords` holds for all words
pub cut_answers : (words : List (List ℕ)) (IsPut : List ℕ → Type 0) (answer : Status) → WasCutOff answer → AnswersWords words IsPut answer
cut_answers words IsPut answer cut = record {
  accepted = λ command spelled. inr (inr (inl cut));
  offended = λ offence first. was_cut_off (ending_of offence.2) (IsPut (offence_line offence)) answer cut;
  no_command = λ word byte place. was_cut_off syntax (IsPut (refusal_line (codes "Syntax") word byte)) answer cut;
}

-- if P implies Q, the clause `AnswersWords` with P for the line that was written implies the clause with Q
pub answers_as : {words : List (List ℕ)} {status : Status} (P Q : List ℕ → Type 0) → ((line : List ℕ) → P line → Q line) → AnswersWords words P status
    → AnswersWords words Q status
answers_as P Q carry a = record {
  accepted = a.accepted;
  offended = λ offence first.
      let r = a.offended offence first in record { ends = r.ends; puts = λ ended. carry (offence_line offence) (r.puts ended) };
  no_command = λ word byte place.
      let r = a.no_command word byte place in record { ends = r.ends; puts = λ ended. carry (refusal_line (codes "Syntax") word byte) (r.puts ended) };
}
