-- A batch. Its lines are read one after another. The *block* of a line is the text of its answer or refusal, with an *ending*: `done` for an answer,
-- or the kind of the refusal. The block is written before the next line is read. The last part of the file is on the ways in which a batch ends.
use Rattle.std.proofs.Common.{◌≡◌, ◌⊎◌, ℕ, ◌+◌, ◌≤◌, ◌<◌, Bool, true, false, ◌&&◌, cond, List, [], ◌∷◌, ◌++◌, append_assoc, append-nil, map, length, length-append, refl, sym, ap, ◌∙◌, subst, arith, Option, Some, None, inl, inr}
use Rattle.std.specs.Prelude.{Ok}
use Rattle.std.proofs.lemmas.List.{map-append}
use Rattle.batch_lines.proofs.Lines.{long_is, more_blocks, more_text, more_done}
use Rattle.batch_lines.proofs.NextLines.{took_nothing, took_told}
use Rattle.batch_lines.specs.declared.next.Next.{Next}
use Rattle.batch_lines.specs.declared.next.Next.TheVariants as next
use Rattle.batch_lines.specs.Feeds.{HasNoFeed}
use Rattle.batch_lines.specs.Reading.{Took, EndsAtFeed, EndsAtEnd, EndsBy, IsNext, TookPart, TookLineAtMost, HasLineAtMost, most_pending}
use Rattle.calc_base.proofs.PutsLaws.{Appends-then, Appends-nothing, AppendsPrefix-then}
use Rattle.calc_base.specs.declared.status.Status.{Status}
use Rattle.calc_base.specs.declared.status.Status.TheVariants as status
use Rattle.calc_base.specs.declared.words.WordsFault.{WordsFault}
use Rattle.calc_base.specs.declared.words.WordsFault.TheVariants as fault
use Rattle.calc_base.specs.Fault.{Rose, counted_up}
use Rattle.calc_base.specs.Puts.{Puts}
use Rattle.calc_base.specs.Sink.{SinkSeen, Appends, AppendsPrefix}
use Rattle.calc_base.specs.Source.{SourceSeen}
use Rattle.sym_model.specs.Grammar.{line_entries}
use Rattle.calc_words.specs.declared.command.Command.{Command}
use Rattle.calc_language.specs.Lines.{IsLineRead}
use Rattle.calc_language.specs.Reading.{IsFaultOf, command_of}
use Rattle.sym_model.specs.BatchLine.{BatchLine, too_long, passed_over, spoken, batch_line, lines_of, most_bytes, too_long_offence}
use Rattle.sym_model.specs.BatchOutcome.{Block, AreBlocks, batch_text, is_done, are_done, batch_ending, RunsInput}
use Rattle.sym_model.specs.CommandOffence.{Offence}
use Rattle.sym_model.specs.Ending.{Ending, done, some_refused, syntax, range, past}
use Rattle.sym_model.specs.Outcome.{ending_of}
use Rattle.sym_model.specs.RefusalText.{offence_line}
use Rattle.batch_lines.specs.declared.progress.Progress.{Progress}
use Rattle.calc_app.specs.declared.batch.Turn.{Turn}
use Rattle.calc_app.specs.declared.batch.Turn.TheVariants as turn
use Rattle.calc_replies.specs.declared.outcome.Outcome.{Outcome}
use Rattle.calc_replies.specs.declared.outcome.Outcome.TheVariants.{Refused}
use Rattle.batch_lines.specs.Ends.{separator, is_done_status, progress_after, end_status, Finishes}
use Rattle.calc_app.specs.Batch.{ComesOfLine, IsTurn, TakesTurn, EndsBatch}
use Rattle.calc_replies.specs.Computed.{IsReplyTo, text_of, HasBlock, status_for}
use Rattle.calc_app.specs.Top.{status_of, IsThrough, IsWholeLines, CutsBlock, PutsBlocks}
use Rattle.calc_app.proofs.LinesRead.{IsEnded, ReadsTold, EndsLine, begin_read, begin_spelled, spelled_more, whole_more, read_more, read_whole, Cut, read_cut, read_part}
use Rattle.calc_app.proofs.Faults.{no_faults, sink_failed, source_failed, ends_well, is_full}
use Rattle.calc_app.proofs.Outcomes.{has_outcome, leaves_ending}
use Rattle.calc_replies.proofs.Replies.{computes_reply}

-- ---- the outcome of one line, and its block

pub line_reply : (line : BatchLine) (command : Command) (outcome : Outcome) → IsLineRead line (Ok (Some command))
    → IsReplyTo (command_of command) (Ok outcome) → ComesOfLine line (Some outcome)
line_reply too_long command outcome read reply = absurd read
line_reply passed_over command outcome read reply = absurd read
line_reply (spoken words) command outcome read reply = computes_reply line_entries words (command_of command) (Ok outcome) read.0 reply

-- the line has the block that consists of `text` and of an ending with the status `answer`
pub record HasBlockOf (line : BatchLine) (text : List ℕ) (answer : Status) : Type 0 where
  pub ending : Ending
  pub are : AreBlocks line_entries (line ∷ []) ((text, ending) ∷ [])
  pub same : answer ≡ status_of ending

long_block : (reason : WordsFault) → IsFaultOf too_long_offence reason → HasBlockOf too_long (text_of (Refused reason)) (status_for (Refused reason))
long_block (fault.Syntax at) names = absurd names
long_block (fault.Literal at) names = let clash : ending_of too_long_offence.2 ≡ past = ap (λ (o : Offence). ending_of o.2) names in cc
long_block (fault.Range at) names = record {
  ending = range;
  are = (ap (λ (o : Offence). (offence_line o, ending_of o.2)) (sym names), tt);
  same = refl;
}
long_block (fault.Shape at) names = record {
  ending = range;
  are = (ap (λ (o : Offence). (offence_line o, ending_of o.2)) (sym names), tt);
  same = refl;
}
long_block fault.NoMemory names = absurd names

pub comes_block : (line : BatchLine) (outcome : Outcome) → ComesOfLine line (Some outcome) → HasBlock outcome
    → HasBlockOf line (text_of outcome) (status_for outcome)
comes_block too_long outcome comes block =
    subst (λ o. HasBlockOf too_long (text_of o) (status_for o)) (sym comes.is) (long_block comes.reason comes.names)
comes_block passed_over outcome comes block = absurd comes
comes_block (spoken words) outcome comes block =
    let has = has_outcome line_entries words outcome comes block in
    record { ending = has.ending; are = (has.outcome, tt); same = has.same }

pub comes_nothing : (line : BatchLine) → ComesOfLine line None → AreBlocks line_entries (line ∷ []) []
comes_nothing too_long comes = absurd comes
comes_nothing passed_over comes = tt
comes_nothing (spoken words) comes = absurd comes

-- ---- the lines that were read so far, and their blocks

abbrev pub is_none : List Block → Bool
is_none [] = true
is_none (b ∷ blocks) = false

-- the lines `lines` of the source have been read, their blocks have been written, and no fault has been counted; `pending` has the bytes that were
-- taken from the source after these lines
pub record Runs (first now : SinkSeen) (source here : SourceSeen) (pending : List ℕ) (has_ended : Bool) (progress : Progress) : Type 0 where
  pub lines : List (List ℕ)
  pub spelled : List ℕ
  pub is_spelled : IsEnded spelled lines
  pub is_whole : IsWholeLines spelled
  pub read : ReadsTold source.left here.left lines pending has_ended
  pub blocks : List Block
  pub are_blocks : AreBlocks line_entries (map batch_line lines) blocks
  pub is_first : progress.is_first ≡ is_none blocks
  pub is_done : progress.is_done ≡ are_done blocks
  pub appended : Appends first now (batch_text blocks)
  pub still : now.faults ≡ first.faults
  pub source_still : here.faults ≡ source.faults

pub begins : (sink : SinkSeen) (source : SourceSeen) → Runs sink sink source source [] false (record { is_first = true; is_done = true })
begins sink source = record {
  lines = [];
  spelled = [];
  is_spelled = begin_spelled;
  is_whole = inl refl;
  read = begin_read source.left;
  blocks = [];
  are_blocks = tt;
  is_first = refl;
  is_done = refl;
  appended = Appends-nothing sink;
  still = refl;
  source_still = refl;
}

-- a line was read, from the pending bytes and from bytes that were taken from the source, and `comes` is its outcome, or `None` if the line is
-- skipped
pub record TookLine (before now : SourceSeen) (pending behind : List ℕ) (ended : Bool) (comes : Option Outcome) : Type 0 where
  pub taken : List ℕ
  pub took : Took before.left now.left taken
  pub spent : now.allowance + length taken ≤ before.allowance
  pub text : List ℕ
  pub no_feed : HasNoFeed text
  pub ends : EndsLine ended (pending ++ taken) text behind now.left
  pub is : ComesOfLine (batch_line text) comes

abbrev Comes : Turn → Option Outcome → Type 0
Comes turn comes = (read : Next) (line text : List ℕ) → IsTurn read line turn → (read ≡ next.Line → line ≡ text)
    → (read ≡ next.TooLong → batch_line text ≡ too_long) → ComesOfLine (batch_line text) comes

block_comes : (outcome : Outcome) → Comes (turn.Block outcome) (Some outcome)
block_comes outcome next.Line line text is same long = subst (λ l. ComesOfLine (batch_line l) (Some outcome)) (same refl) is
block_comes outcome next.TooLong line text is same long = subst (λ l. ComesOfLine l (Some outcome)) (sym (long refl)) is
block_comes outcome next.End line text is same long = absurd is

passed_comes : Comes turn.Passed None
passed_comes next.Line line text is same long = subst (λ l. ComesOfLine (batch_line l) None) (same refl) is
passed_comes next.TooLong line text is same long = absurd is
passed_comes next.End line text is same long = absurd is

long_ends : (ended : Bool) (all text behind : List ℕ) (now : Option (List ℕ)) → most_bytes < length text
    → EndsBy ended all text behind now → EndsLine ended all text behind now
long_ends false all text behind now long e = e
long_ends true all text behind now long e = (e, omega (arith, long))

line_ends : (ended : Bool) (all text behind : List ℕ) (now : Option (List ℕ)) → EndsBy ended all text behind now
    → EndsAtFeed all text behind ⊎ (EndsAtEnd all text behind now × (0 < length text)) → EndsLine ended all text behind now
line_ends false all text behind now e is = e
line_ends true all text behind now e (inr is) = (e, is.1)
line_ends true all text behind now e (inl feed) =
    let w = ap length e.whole in let l = ap length feed in let t = length-append text (10 ∷ behind) in absurd (omega (arith, w, l, t))

took_line : {before now : SourceSeen} {pending behind : List ℕ} {ended : Bool} {turn : Turn} (comes : Option Outcome)
    → (t : TakesTurn before now pending behind ended turn) → (t.read ≡ next.End → ⊥) → Comes turn comes
    → TookLine before now pending behind ended comes
took_line {before = before} {now = now} {pending = pending} {behind = behind} {ended = ended} comes t not_end says = by t.read refl t.reads.is_next
  where
    by : (read : Next) → t.read ≡ read → IsNext read (pending ++ t.reads.taken) t.reads.text behind now.left t.line
        → TookLine before now pending behind ended comes
    by next.Line same is = record {
      taken = t.reads.taken;
      took = t.reads.took;
      spent = t.reads.spent;
      text = t.reads.text;
      no_feed = t.reads.no_feed;
      ends = line_ends ended (pending ++ t.reads.taken) t.reads.text behind now.left t.reads.ends is.2;
      is = says t.read t.line t.reads.text t.is (λ e. is.0) (λ e. let clash : next.Line ≡ next.TooLong = sym same ∙ e in cc);
    }
    by next.TooLong same is = record {
      taken = t.reads.taken;
      took = t.reads.took;
      spent = t.reads.spent;
      text = t.reads.text;
      no_feed = t.reads.no_feed;
      ends = long_ends ended (pending ++ t.reads.taken) t.reads.text behind now.left is.0 t.reads.ends;
      is = says t.read t.line t.reads.text t.is (λ e. let clash : next.TooLong ≡ next.Line = sym same ∙ e in cc) (λ e. long_is t.reads.text is.0);
    }
    by next.End same is = absurd (not_end same)

pub block_took : {before now : SourceSeen} {pending behind : List ℕ} {ended : Bool} (outcome : Outcome)
    → TakesTurn before now pending behind ended (turn.Block outcome) → TookLine before now pending behind ended (Some outcome)
block_took outcome t =
    took_line (Some outcome) t (λ e. subst (λ r. IsTurn r t.line (turn.Block outcome)) e t.is) (block_comes outcome)

pub passed_took : {before now : SourceSeen} {pending behind : List ℕ} {ended : Bool}
    → TakesTurn before now pending behind ended turn.Passed → TookLine before now pending behind ended None
passed_took t = took_line None t (λ e. subst (λ r. IsTurn r t.line turn.Passed) e t.is) passed_comes

-- the source was read to its end, and there was no further line
pub record TookEnd (before now : SourceSeen) (pending behind : List ℕ) : Type 0 where
  pub taken : List ℕ
  pub took : Took before.left now.left taken
  pub ends : EndsAtEnd (pending ++ taken) [] behind now.left

pub last_took : {before now : SourceSeen} {pending behind : List ℕ} {ended : Bool}
    → TakesTurn before now pending behind ended turn.Last → TookEnd before now pending behind
last_took {before = before} {now = now} {pending = pending} {behind = behind} t = by t.read t.is t.reads.is_next
  where
    by : (read : Next) → IsTurn read t.line turn.Last → IsNext read (pending ++ t.reads.taken) t.reads.text behind now.left t.line
        → TookEnd before now pending behind
    by next.Line is e = absurd is
    by next.TooLong is e = absurd is
    by next.End is e = record {
      taken = t.reads.taken;
      took = t.reads.took;
      ends = subst (λ x. EndsAtEnd (pending ++ t.reads.taken) x behind now.left) e.0 e.1;
    }

-- ---- the state of a batch after one more line was read and its block written

map_more : (lines : List (List ℕ)) (line : List ℕ) → map batch_line (lines ++ line ∷ []) ≡ map batch_line lines ++ batch_line line ∷ []
map_more lines line = map-append batch_line lines (line ∷ [])

blocks_more : (lines : List (List ℕ)) (line : List ℕ) (blocks others : List Block) → AreBlocks line_entries (map batch_line lines) blocks
    → AreBlocks line_entries (batch_line line ∷ []) others → AreBlocks line_entries (map batch_line (lines ++ line ∷ [])) (blocks ++ others)
blocks_more lines line blocks others h k =
    subst (λ ls. AreBlocks line_entries ls (blocks ++ others)) (sym (map_more lines line))
    (more_blocks line_entries (map batch_line lines) (batch_line line ∷ []) blocks others h k)

text_more : (blocks : List Block) (b : Block) → batch_text (blocks ++ b ∷ []) ≡ batch_text blocks ++ (separator (is_none blocks) ++ b.0)
text_more [] b = refl
text_more (first ∷ blocks) b = more_text first blocks b

done_same : (ending : Ending) → is_done_status (status_of ending) ≡ is_done ending
done_same done = refl
done_same some_refused = refl
done_same syntax = refl
done_same range = refl
done_same past = refl

is_some_block : (blocks : List Block) (b : Block) → false ≡ is_none (blocks ++ b ∷ [])
is_some_block [] b = refl
is_some_block (first ∷ blocks) b = refl

pub runs_passed : {first sink : SinkSeen} {source before now : SourceSeen} {pending behind : List ℕ} {had ended : Bool} {progress : Progress}
    → Runs first sink source before pending had progress → TookLine before now pending behind ended None → now.faults ≡ before.faults
    → Runs first sink source now behind ended progress
runs_passed {source = source} {before = before} {now = now} {pending = pending} {behind = behind} {had = had} {ended = ended} r t same = record {
  lines = r.lines ++ t.text ∷ [];
  spelled = r.spelled ++ (t.text ++ 10 ∷ []);
  is_spelled = spelled_more r.spelled r.lines t.text r.is_spelled t.no_feed;
  is_whole = whole_more r.spelled t.text;
  read = read_more source.left before.left now.left t.taken pending t.text behind r.lines had ended r.read t.took t.no_feed t.ends;
  blocks = r.blocks;
  are_blocks =
      subst (AreBlocks line_entries (map batch_line (r.lines ++ t.text ∷ []))) (append-nil r.blocks)
      (blocks_more r.lines t.text r.blocks [] r.are_blocks (comes_nothing (batch_line t.text) t.is));
  is_first = r.is_first;
  is_done = r.is_done;
  appended = r.appended;
  still = r.still;
  source_still = same ∙ r.source_still;
}

pub runs_block : {first sink next_sink : SinkSeen} {source before now : SourceSeen} {pending behind : List ℕ} {had ended : Bool} {progress : Progress}
    (outcome : Outcome) → Runs first sink source before pending had progress
    → TookLine before now pending behind ended (Some outcome) → HasBlock outcome → now.faults ≡ before.faults
    → Puts true sink true next_sink (separator progress.is_first ++ text_of outcome)
    → Runs first next_sink source now behind ended (progress_after progress (status_for outcome))
runs_block {first = first} {sink = sink} {next_sink = next_sink} {source = source} {before = before} {now = now} {pending = pending} {behind = behind} {had = had} {ended = ended} outcome r t block same puts =
    let has = comes_block (batch_line t.text) outcome t.is block in
    let b : Block = (text_of outcome, has.ending) in
    record {
      lines = r.lines ++ t.text ∷ [];
      spelled = r.spelled ++ (t.text ++ 10 ∷ []);
      is_spelled = spelled_more r.spelled r.lines t.text r.is_spelled t.no_feed;
      is_whole = whole_more r.spelled t.text;
      read = read_more source.left before.left now.left t.taken pending t.text behind r.lines had ended r.read t.took t.no_feed t.ends;
      blocks = r.blocks ++ b ∷ [];
      are_blocks = blocks_more r.lines t.text r.blocks (b ∷ []) r.are_blocks has.are;
      is_first = is_some_block r.blocks b;
      is_done =
          ap (λ x. x && is_done_status (status_for outcome)) r.is_done
          ∙ ap (λ x. are_done r.blocks && x) (ap is_done_status has.same ∙ done_same has.ending)
          ∙ sym (more_done r.blocks b);
      appended =
          subst (Appends first next_sink) (sym (text_more r.blocks b))
          (Appends-then r.appended (subst (λ x. Appends sink next_sink (separator x ++ text_of outcome)) r.is_first (puts.whole refl)));
      still = puts.still refl ∙ r.still;
      source_still = same ∙ r.source_still;
    }

-- ---- the ways in which a batch ends

is_cut : IsThrough status.SinkFault → ⊥
is_cut (inl e) = cc
is_cut (inr e) = cc

is_full_not_through : IsThrough status.NoMemory → ⊥
is_full_not_through (inl e) = cc
is_full_not_through (inr e) = cc

is_source_fault : IsThrough status.SourceFault → ⊥
is_source_fault (inl e) = cc
is_source_fault (inr e) = cc

no_end : {answer : Status} {Read : Type 0} → (IsThrough answer → ⊥) → IsThrough answer → Read
no_end none through = absurd (none through)

runs_input : (input : List ℕ) (lines : List (List ℕ)) (blocks : List Block) → AreBlocks line_entries (map batch_line lines) blocks → lines_of input ≡ lines
    → RunsInput line_entries input (batch_text blocks) (batch_ending blocks)
runs_input input lines blocks are same = record {
  blocks = blocks;
  are_blocks = subst (λ ls. AreBlocks line_entries (map batch_line ls) blocks) (sym same) are;
  joined = refl;
  ends = refl;
}

cuts_block : (first sink next_sink : SinkSeen) (lines : List (List ℕ)) (line : List ℕ) (blocks : List Block) (b : Block) → AreBlocks line_entries (map batch_line lines) blocks → AreBlocks line_entries (batch_line line ∷ []) (b ∷ [])
    → Appends first sink (batch_text blocks) → AppendsPrefix sink next_sink (separator (is_none blocks) ++ b.0)
    → CutsBlock first next_sink (map batch_line (lines ++ line ∷ []))
cuts_block first sink next_sink lines line blocks b are is_last appended cut = record {
  earlier = map batch_line lines;
  line = batch_line line;
  lines_are = map_more lines line;
  blocks = blocks;
  last = b;
  are_blocks = are;
  is_last = is_last;
  shown = cut.front;
  is_shown = record {
    rest = cut.is_prefix.rest;
    joined =
        append_assoc (batch_text blocks) cut.front cut.is_prefix.rest ∙ ap (λ xs. batch_text blocks ++ xs) cut.is_prefix.joined
        ∙ sym (text_more blocks b);
  };
  appended = Appends-then appended cut.appends;
}

-- if the sink fails while the block of a line is written, the batch ends with `SinkFault`
pub ends_cut : {first sink next_sink : SinkSeen} {source before now : SourceSeen} (Untouched : Type 0) {pending behind : List ℕ} {had ended : Bool}
    {progress : Progress} (outcome : Outcome) → Runs first sink source before pending had progress
    → TookLine before now pending behind ended (Some outcome) → HasBlock outcome → now.faults ≡ before.faults
    → length behind ≤ most_pending → Puts true sink false next_sink (separator progress.is_first ++ text_of outcome)
    → EndsBatch first next_sink source now Untouched status.SinkFault
ends_cut {first = first} {sink = sink} {next_sink = next_sink} {source = source} {before = before} {now = now} Untouched {pending = pending} {behind = behind} {had = had} {ended = ended} outcome r t block same short puts =
    let has = comes_block (batch_line t.text) outcome t.is block in
    let b : Block = (text_of outcome, has.ending) in
    let read = read_more source.left before.left now.left t.taken pending t.text behind r.lines had ended r.read t.took t.no_feed t.ends in
    let lines = r.lines ++ t.text ∷ [] in
    let blocks = r.blocks ++ b ∷ [] in
    let front = read_cut source.left now.left now.left [] behind (r.spelled ++ (t.text ++ 10 ∷ [])) lines ended read (spelled_more r.spelled r.lines t.text r.is_spelled t.no_feed)
    (whole_more r.spelled t.text) (took_nothing now.left) in
    let cut = subst (λ x. AppendsPrefix sink next_sink (separator x ++ text_of outcome)) r.is_first (puts.cut refl refl) in
    record {
      leaves = record {
        front = front.front;
        is_front = front.is_front;
        text = batch_text blocks;
        ending = batch_ending blocks;
        outcome = runs_input front.front lines blocks (blocks_more r.lines t.text r.blocks (b ∷ []) r.are_blocks has.are) front.are;
        appended = subst (AppendsPrefix first next_sink) (sym (text_more r.blocks b)) (AppendsPrefix-then r.appended cut);
      };
      faults = sink_failed (puts.rose refl refl ∙ ap counted_up r.still)
          (let l = puts.later in let s = r.still in omega (arith, l, s)) (let s = same ∙ r.source_still in omega (arith, s));
      all_read = no_end is_cut;
      cut = λ e. record {
        front = front.front;
        piece = behind ++ [];
        took = front.took;
        is_ended = front.is_ended;
        puts = inl (
          subst (λ ls. CutsBlock first next_sink (map batch_line ls)) (sym front.are)
              (cuts_block first sink next_sink r.lines t.text r.blocks b r.are_blocks has.are r.appended cut),
          subst (λ xs. length xs ≤ most_pending) (sym (append-nil behind)) short,
        );
      };
      told = took_told source.left now.left _ front.took;
    }

no_front : (front rest : List ℕ) → front ++ rest ≡ [] → front ≡ []
no_front [] rest h = refl
no_front (b ∷ front) rest h = cc

put_nothing : (first sink next_sink : SinkSeen) (text : List ℕ)
    → Appends first sink text → AppendsPrefix sink next_sink [] → Appends first next_sink text
put_nothing first sink next_sink text appended cut =
    subst (Appends first next_sink)
    (ap (λ xs. text ++ xs) (no_front cut.front cut.is_prefix.rest cut.is_prefix.joined) ∙ append-nil text) (Appends-then appended cut.appends)

finish_cut : {first sink next_sink : SinkSeen} {source now : SourceSeen} (Untouched : Type 0) {lines : List (List ℕ)} {piece : List ℕ} (blocks : List Block)
    → AreBlocks line_entries (map batch_line lines) blocks → Appends first sink (batch_text blocks) → sink.faults ≡ first.faults
    → Puts true sink false next_sink [] → Cut source.left now.left lines piece → HasLineAtMost piece → source.faults ≤ now.faults
    → EndsBatch first next_sink source now Untouched status.SinkFault
finish_cut {first = first} {sink = sink} {next_sink = next_sink} {source = source} {now = now} Untouched {lines = lines} {piece = piece} blocks are appended still puts front at_most later = record {
  leaves = record {
    front = front.front;
    is_front = front.is_front;
    text = batch_text blocks;
    ending = batch_ending blocks;
    outcome = runs_input front.front lines blocks are front.are;
    appended = subst (AppendsPrefix first next_sink) (append-nil (batch_text blocks)) (AppendsPrefix-then appended (puts.cut refl refl));
  };
  faults = sink_failed (puts.rose refl refl ∙ ap counted_up still) (let l = puts.later in let s = still in omega (arith, l, s)) later;
  all_read = no_end is_cut;
  cut = λ e. record {
    front = front.front;
    piece = piece;
    took = front.took;
    is_ended = front.is_ended;
    puts = inr (
      subst (λ ls. PutsBlocks first next_sink (map batch_line ls)) (sym front.are)
          (record { blocks = blocks; are_blocks = are; appended = put_nothing first sink next_sink (batch_text blocks) appended (puts.cut refl refl) }),
      at_most,
    );
  };
  told = took_told source.left now.left _ front.took;
}

finished_text : (first sink next_sink : SinkSeen) (text : List ℕ) → Appends first sink text → Puts true sink true next_sink [] → Appends first next_sink text
finished_text first sink next_sink text appended puts =
    subst (Appends first next_sink) (append-nil text) (Appends-then appended (puts.whole refl))

-- if `finish` of the sink succeeds, the state `Runs` of the batch is kept: the blocks of the lines read so far have been written
pub runs_handed : {first sink next_sink : SinkSeen} {source now : SourceSeen} {pending : List ℕ} {had : Bool} {progress : Progress}
    → Runs first sink source now pending had progress → Puts true sink true next_sink [] → Runs first next_sink source now pending had progress
runs_handed {first = first} {sink = sink} {next_sink = next_sink} r puts = record {
  lines = r.lines;
  spelled = r.spelled;
  is_spelled = r.is_spelled;
  is_whole = r.is_whole;
  read = r.read;
  blocks = r.blocks;
  are_blocks = r.are_blocks;
  is_first = r.is_first;
  is_done = r.is_done;
  appended = finished_text first sink next_sink (batch_text r.blocks) r.appended puts;
  still = puts.still refl ∙ r.still;
  source_still = r.source_still;
}

-- if the pending bytes have no line feed, and `finish` of the sink fails, the batch ends with `SinkFault`
pub ends_held : {first sink next_sink : SinkSeen} {source now : SourceSeen} (Untouched : Type 0) {pending : List ℕ} {had : Bool} {progress : Progress}
    → Runs first sink source now pending had progress → HasNoFeed pending → Puts true sink false next_sink []
    → EndsBatch first next_sink source now Untouched status.SinkFault
ends_held {source = source} {now = now} Untouched {pending = pending} {had = had} r none puts =
    finish_cut Untouched r.blocks r.are_blocks r.appended r.still puts
    (read_cut source.left now.left now.left [] pending r.spelled r.lines had r.read r.is_spelled r.is_whole (took_nothing now.left))
    (inl (subst HasNoFeed (sym (append-nil pending)) none)) (let s = r.source_still in omega (arith, s))

end_same : (progress : Progress) (blocks : List Block) → progress.is_done ≡ are_done blocks → end_status progress ≡ status_of (batch_ending blocks)
end_same progress blocks same = ap (λ x. cond x status.Done status.SomeRefused) same ∙ by (are_done blocks)
  where
    by : (x : Bool) → cond x status.Done status.SomeRefused ≡ status_of (cond x done some_refused)
    by true = refl
    by false = refl

-- if the source was read to its end without a further line, the batch ends with `Done` or, if a line was refused, `SomeRefused` (`end_status`);
-- or it ends with `SinkFault` if `finish` failed
pub ends_last : {first sink next_sink : SinkSeen} {source before now : SourceSeen} (Untouched : Type 0) {pending behind : List ℕ} {had : Bool}
    {progress : Progress} {answer result : Status} → Runs first sink source before pending had progress
    → TookEnd before now pending behind → now.faults ≡ before.faults → answer ≡ end_status progress
    → Finishes sink next_sink answer result → EndsBatch first next_sink source now Untouched result
ends_last {first = first} {sink = sink} {next_sink = next_sink} {source = source} {before = before} {now = now} Untouched {pending = pending} {behind = behind} {had = had} {progress = progress} {answer = answer} {result = result} r t same is f =
    by f.well f.puts f.settles f.is
  where
    by : (well : Bool) → Puts true sink well next_sink [] → (well ≡ true → next_sink.settled ≡ true)
        → result ≡ cond well answer status.SinkFault → EndsBatch first next_sink source now Untouched result
    by true puts settles same_status =
        let whole = read_whole source.left before.left now.left t.taken pending behind r.spelled r.lines had r.read r.is_spelled t.took t.ends in
        let ending = batch_ending r.blocks in
        let cut = read_cut source.left before.left now.left t.taken pending r.spelled r.lines had r.read r.is_spelled r.is_whole t.took in
        subst (EndsBatch first next_sink source now Untouched) (sym (same_status ∙ is ∙ end_same progress r.blocks r.is_done))
        (record {
          leaves = leaves_ending first next_sink source now Untouched (Unit {0}) (RunsInput line_entries) whole.input (batch_text r.blocks) ending
              whole.is_input (runs_input whole.input r.lines r.blocks r.are_blocks whole.are) (λ e. tt)
              (finished_text first sink next_sink (batch_text r.blocks) r.appended puts) (settles refl);
          faults = no_faults (ends_well ending) (puts.still refl ∙ r.still) (same ∙ r.source_still);
          all_read = λ e. t.ends.none_left;
          cut = λ e. absurd ((ends_well ending).0 e);
          told = took_told source.left now.left _ cut.took;
        })
    by false puts settles same_status =
        subst (EndsBatch first next_sink source now Untouched) (sym same_status)
        (finish_cut Untouched r.blocks r.are_blocks r.appended r.still puts
        (read_cut source.left before.left now.left t.taken pending r.spelled r.lines had r.read r.is_spelled r.is_whole t.took)
        (inl (subst HasNoFeed (sym t.ends.whole) tt)) (let s = same ∙ r.source_still in omega (arith, s)))

-- if the source failed, the batch ends with `SourceFault`, or with `SinkFault` if `finish` failed
pub ends_source : {first sink next_sink : SinkSeen} {source before now : SourceSeen} (Untouched : Type 0) {pending : List ℕ} {progress : Progress}
    {result : Status} → Runs first sink source before pending false progress
    → TookPart before.left now.left pending → Rose before.faults now.faults → before.faults ≤ now.faults
    → Finishes sink next_sink status.SourceFault result → EndsBatch first next_sink source now Untouched result
ends_source {first = first} {sink = sink} {next_sink = next_sink} {source = source} {before = before} {now = now} Untouched {pending = pending} {result = result} r t rose later f =
    by f.well f.puts f.settles f.is
  where
    by : (well : Bool) → Puts true sink well next_sink [] → (well ≡ true → next_sink.settled ≡ true)
        → result ≡ cond well status.SourceFault status.SinkFault → EndsBatch first next_sink source now Untouched result
    by true puts settles same_status =
        let part = read_part source.left before.left now.left pending r.spelled r.lines r.read r.is_spelled r.is_whole t in
        subst (EndsBatch first next_sink source now Untouched) (sym same_status)
        (record {
          leaves = (
            tt,
            record {
              front = part.front;
              piece = part.piece;
              took = part.took;
              no_feed = part.no_feed;
              is_whole = part.is_whole;
              is_front = part.is_front;
              text = batch_text r.blocks;
              ending = batch_ending r.blocks;
              outcome = runs_input part.front r.lines r.blocks r.are_blocks part.are;
              appended = finished_text first sink next_sink (batch_text r.blocks) r.appended puts;
              is_settled = settles refl;
            },
          );
          faults = source_failed (puts.still refl ∙ r.still) (rose ∙ ap counted_up r.source_still) (let s = r.source_still in omega (arith, s, later));
          all_read = no_end is_source_fault;
          cut = λ e. let clash : status.SourceFault ≡ status.SinkFault = e in cc;
          told = took_told source.left now.left _ part.took;
        })
    by false puts settles same_status =
        subst (EndsBatch first next_sink source now Untouched) (sym same_status)
        (finish_cut Untouched r.blocks r.are_blocks r.appended r.still puts
        (read_cut source.left before.left now.left t.taken pending r.spelled r.lines false r.read r.is_spelled r.is_whole t.took)
        (inl t.no_feed) (let s = r.source_still in omega (arith, s, later)))

-- if memory runs out for a further line, the batch ends with `NoMemory`, or with `SinkFault` if `finish` failed
pub ends_full : {first sink next_sink : SinkSeen} {source before now : SourceSeen} (Untouched : Type 0) {pending : List ℕ} {had : Bool}
    {progress : Progress} {result : Status} → Runs first sink source before pending had progress
    → TookLineAtMost before.left now.left pending → now.faults ≡ before.faults
    → Finishes sink next_sink status.NoMemory result → EndsBatch first next_sink source now Untouched result
ends_full {first = first} {sink = sink} {next_sink = next_sink} {source = source} {before = before} {now = now} Untouched {pending = pending} {had = had} {result = result} r t same f =
    by f.well f.puts f.settles f.is
  where
    front : Cut source.left now.left r.lines (pending ++ t.taken)
    front = read_cut source.left before.left now.left t.taken pending r.spelled r.lines had r.read r.is_spelled r.is_whole t.took

    by : (well : Bool) → Puts true sink well next_sink [] → (well ≡ true → next_sink.settled ≡ true)
        → result ≡ cond well status.NoMemory status.SinkFault → EndsBatch first next_sink source now Untouched result
    by true puts settles same_status =
        subst (EndsBatch first next_sink source now Untouched) (sym same_status)
        (record {
          leaves = inr (
            tt,
            record {
              front = front.front;
              piece = pending ++ t.taken;
              took = front.took;
              at_most = t.at_most;
              is_ended = front.is_ended;
              is_front = front.is_front;
              text = batch_text r.blocks;
              ending = batch_ending r.blocks;
              outcome = runs_input front.front r.lines r.blocks r.are_blocks front.are;
              appended = finished_text first sink next_sink (batch_text r.blocks) r.appended puts;
              is_settled = settles refl;
            },
          );
          faults = no_faults is_full (puts.still refl ∙ r.still) (same ∙ r.source_still);
          all_read = no_end is_full_not_through;
          cut = λ e. absurd (is_full.0 e);
          told = took_told source.left now.left _ front.took;
        })
    by false puts settles same_status =
        subst (EndsBatch first next_sink source now Untouched) (sym same_status)
        (finish_cut Untouched r.blocks r.are_blocks r.appended r.still puts front t.at_most (let s = same ∙ r.source_still in omega (arith, s)))
