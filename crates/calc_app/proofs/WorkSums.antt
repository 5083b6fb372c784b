-- The lines that `work` generates are run one after another. The *block* of a line is the text of its answer or refusal. Lemmas on the sums (the
-- numbers of blocks, terms and bytes) over the blocks of these lines, and on the ways in which `work` ends.
use Rattle.std.proofs.Common.{◌≡◌, ℕ, zero, suc, ◌+◌, ◌<◌, ◌≤◌, Bool, true, false, cond, List, [], ◌∷◌, ◌++◌, append_assoc, append-nil, map, length, refl, sym, ap, ◌∙◌, subst, arith, Some, None, inl, inr}
use Rattle.std.specs.Prelude.{Result, Ok, Err, IfOk}
use Rattle.std.proofs.lemmas.List.{map-append}
use Rattle.batch_lines.proofs.Lines.{more_blocks}
use Rattle.calc_base.specs.declared.faults.NoMemory.{NoMemory}
use Rattle.calc_base.specs.declared.status.Status.{Status}
use Rattle.calc_base.specs.declared.status.Status.TheVariants as status
use Rattle.calc_base.specs.Puts.{Puts}
use Rattle.calc_base.specs.Sink.{SinkSeen}
use Rattle.calc_base.specs.Source.{SourceSeen}
use Rattle.calc_words.proofs.WrittenCommands.{words_keep}
use Rattle.sym_model.specs.Grammar.{all_entries, line_entries}
use Rattle.sym_model.specs.BatchLine.{BatchLine, batch_line}
use Rattle.sym_model.specs.BatchOutcome.{Block, AreBlocks, RunsWorkload}
use Rattle.sym_model.specs.Command.{Command, batch, work}
use Rattle.sym_model.specs.Ending.{done}
use Rattle.sym_model.specs.Entry.{SpellsWithoutOffence}
use Rattle.sym_model.specs.Partition.{size}
use Rattle.sym_model.specs.Workload.{terms_in, work_line, after_line, work_lines}
use Rattle.batch_lines.specs.declared.sums.Sums.{Sums}
use Rattle.batch_lines.specs.Totals.{sums_over, sums_with, AreSmall, sums_text}
use Rattle.calc_replies.specs.declared.outcome.Outcome.{Outcome}
use Rattle.calc_app.specs.Batch.{ComesOfLine}
use Rattle.calc_replies.specs.Computed.{text_of, HasBlock}
use Rattle.calc_replies.specs.declared.outcome.Task.TheVariants.{Workload}
use Rattle.calc_app.specs.Top.{IsOutcome, RunsLines, Leaves, HidesNoFault, IsAccepted}
use Rattle.calc_app.specs.Work.{texts_of, sums_more, AddsLine, AreSumsOf, EndsWork}
use Rattle.calc_app.proofs.Batches.{comes_block, comes_nothing}
use Rattle.calc_app.proofs.Ends.{HasTask, Ran}
use Rattle.calc_app.proofs.Faults.{no_faults, sink_failed, ends_well, is_full}
use Rattle.calc_app.proofs.Outcomes.{headline, told_input, no_front}

pub add_some : (line : BatchLine) (outcome : Outcome) (result : Result (Unit {0}) NoMemory) (old new : Sums) → ComesOfLine line (Some outcome)
    → IfOk result (λ _. new ≡ sums_with old (text_of outcome)) → IfOk result (λ _. AreSmall new) → IfOk result (λ _. HasBlock outcome)
    → IfOk result (λ _. AddsLine line old new)
add_some line outcome (Ok x) old new comes sums small block =
    let has = comes_block line outcome comes block in
    record {
      blocks = (text_of outcome, has.ending) ∷ [];
      are = has.are;
      added = sums;
      small = small;
      one = let e = ap (λ (s : Sums). s.lines) sums in omega (arith, e);
    }
add_some line outcome (Err e) old new comes sums small block = tt

pub add_none : (line : BatchLine) (sums : Sums) → ComesOfLine line None → AreSmall sums → AddsLine line sums sums
add_none line sums comes small = record { blocks = []; are = comes_nothing line comes; added = refl; small = small; one = omega arith }

-- ---- the sums over the blocks of the lines run so far

pub record SoFar (lines seed index state : ℕ) (sums : Sums) : Type 0 where
  pub ran : List (List ℕ)
  pub rest : ℕ
  pub count : rest + index ≡ lines
  pub all : ran ++ work_lines rest state ≡ work_lines lines seed
  pub blocks : List Block
  pub are : AreBlocks line_entries (map batch_line ran) blocks
  pub added : sums ≡ sums_more (sums_over []) (texts_of blocks)
  pub small : AreSmall sums
  pub few : sums.lines ≤ index
  pub within : state ≤ 65536

pub none_ran : (lines seed : ℕ) (sums : Sums) → seed ≤ 65536 → sums ≡ sums_over [] → AreSmall sums → SoFar lines seed 0 seed sums
none_ran lines seed sums within none small = record {
  ran = [];
  rest = lines;
  count = omega arith;
  all = refl;
  blocks = [];
  are = tt;
  added = none;
  small = small;
  few = let e : sums.lines ≡ 0 = ap (λ (s : Sums). s.lines) none in omega (arith, e);
  within = within;
}

sums_more-append : (s : Sums) (xs ys : List (List ℕ)) → sums_more (sums_more s xs) ys ≡ sums_more s (xs ++ ys)
sums_more-append s [] ys = refl
sums_more-append s (x ∷ xs) ys = sums_more-append (sums_with s x) xs ys

pub one_ran : (lines seed index state : ℕ) (sums : Sums) (line : List ℕ) (next : ℕ) (more : Sums) → SoFar lines seed index state sums → index < lines
    → line ≡ work_line state → next ≡ after_line state → next ≤ 65536 → AddsLine (batch_line line) sums more → SoFar lines seed (index + 1) next more
one_ran lines seed index state sums line next more s below is after within adds = by s.rest s.count s.all
  where
    by : (rest : ℕ) → rest + index ≡ lines → s.ran ++ work_lines rest state ≡ work_lines lines seed → SoFar lines seed (index + 1) next more
    by zero count all = absurd (omega (arith, count, below))
    by (suc rest) count all = record {
      ran = s.ran ++ line ∷ [];
      rest = rest;
      count = omega (arith, count);
      all =
          ap (λ (x : List (List ℕ)). x ++ work_lines rest next) (ap (λ l. s.ran ++ l ∷ []) is)
          ∙ append_assoc s.ran (work_line state ∷ []) (work_lines rest next)
          ∙ ap (λ x. s.ran ++ work_line state ∷ work_lines rest x) after
          ∙ all;
      blocks = s.blocks ++ adds.blocks;
      are =
          subst (λ ls. AreBlocks line_entries ls (s.blocks ++ adds.blocks)) (sym (map-append batch_line s.ran (line ∷ [])))
          (more_blocks line_entries (map batch_line s.ran) (batch_line line ∷ []) s.blocks adds.blocks s.are adds.are);
      added =
          adds.added ∙ ap (λ (x : Sums). sums_more x (texts_of adds.blocks)) s.added
          ∙ sums_more-append (sums_over []) (texts_of s.blocks) (texts_of adds.blocks)
          ∙ ap (sums_more (sums_over [])) (sym (map-append (λ (b : Block). b.0) s.blocks adds.blocks));
      small = adds.small;
      few = let o = adds.one in let f = s.few in omega (arith, o, f);
      within = within;
    }

lines_more : (s : Sums) (xs : List (List ℕ)) → (sums_more s xs).lines ≡ s.lines + length xs
lines_more s [] = omega arith
lines_more s (x ∷ xs) = let h = lines_more (sums_with s x) xs in omega (arith, h)

terms_more : (s : Sums) (xs : List (List ℕ)) → (sums_more s xs).terms ≡ s.terms + size (map terms_in xs)
terms_more s [] = omega arith
terms_more s (x ∷ xs) = let h = terms_more (sums_with s x) xs in omega (arith, h)

bytes_more : (s : Sums) (xs : List (List ℕ)) → (sums_more s xs).bytes ≡ s.bytes + size (map length xs)
bytes_more s [] = omega arith
bytes_more s (x ∷ xs) = let h = bytes_more (sums_with s x) xs in omega (arith, h)

same_sums : (a b : Sums) → a.lines ≡ b.lines → a.terms ≡ b.terms → a.bytes ≡ b.bytes → a ≡ b
same_sums a b l t y =
    let make : ℕ → ℕ → ℕ → Sums = λ lines terms bytes. record { lines = lines; terms = terms; bytes = bytes } in
    ap (λ x. make x a.terms a.bytes) l ∙ ap (λ x. make b.lines x a.bytes) t ∙ ap (λ x. make b.lines b.terms x) y

over_all : (texts : List (List ℕ)) → sums_more (sums_over []) texts ≡ sums_over texts
over_all texts =
    same_sums (sums_more (sums_over []) texts) (sums_over texts)
    (let e = lines_more (sums_over []) texts in omega (arith, e))
    (let e = terms_more (sums_over []) texts in omega (arith, e))
    (let e = bytes_more (sums_over []) texts in omega (arith, e))

pub all_ran : (lines seed index state : ℕ) (sums : Sums) → SoFar lines seed index state sums → lines ≤ index → AreSumsOf lines seed sums
all_ran lines seed index state sums s above = by s.rest s.count s.all
  where
    by : (rest : ℕ) → rest + index ≡ lines → s.ran ++ work_lines rest state ≡ work_lines lines seed → AreSumsOf lines seed sums
    by zero count all = record {
      blocks = s.blocks;
      are = subst (λ ls. AreBlocks line_entries (map batch_line ls) s.blocks) (sym (append-nil s.ran) ∙ all) s.are;
      sum_up = s.added ∙ over_all (texts_of s.blocks);
    }
    by (suc rest) count all = absurd (omega (arith, count, above))

-- ---- the ways in which `work` ends: the sums were written, or the sink failed

pub seed_within : (words : List (List ℕ)) (lines seed : ℕ) → SpellsWithoutOffence all_entries words (work lines seed) → seed ≤ 65536
seed_within words lines seed spelled = (words_keep words (work lines seed) spelled).2

runs_work : (lines seed : ℕ) (sums : Sums) → AreSumsOf lines seed sums → RunsWorkload line_entries lines seed (sums_text sums)
runs_work lines seed sums are = record { blocks = are.blocks; are_blocks = are.are; summed = ap sums_text are.sum_up }

work_leaves : (words : List (List ℕ)) (old new : SinkSeen) (source : SourceSeen) (Untouched : Type 0) (lines seed : ℕ) (result : Status)
    → SpellsWithoutOffence all_entries words (work lines seed) → EndsWork old new Untouched lines seed result
    → Leaves old new source source Untouched (RunsLines words) (IsOutcome words) result
work_leaves words old new source Untouched lines seed result spelled (inl full) =
    subst (Leaves old new source source Untouched (RunsLines words) (IsOutcome words)) (sym full.0) (inl full.1)
work_leaves words old new source Untouched lines seed result spelled (inr w) = by w.put.well w.put.puts w.put.settles w.put.is
  where
    by : (well : Bool) → Puts true old well new (sums_text w.sums) → (well ≡ true → new.settled ≡ true)
        → result ≡ cond well status.Done status.SinkFault
        → Leaves old new source source Untouched (RunsLines words) (IsOutcome words) result
    by true puts settles is =
        let told = told_input source.left in
        subst (Leaves old new source source Untouched (RunsLines words) (IsOutcome words)) (sym is) (record {
          input = told.0;
          is_input = told.1;
          text = sums_text w.sums;
          outcome = inr (inr (work lines seed, spelled, (runs_work lines seed w.sums w.are, refl)));
          appended = puts.whole refl;
          is_settled = settles refl;
        })
    by false puts settles is =
        subst (Leaves old new source source Untouched (RunsLines words) (IsOutcome words)) (sym is) (record {
          front = [];
          is_front = no_front source.left;
          text = sums_text w.sums;
          ending = done;
          outcome = inr (inr (work lines seed, spelled, (runs_work lines seed w.sums w.are, refl)));
          appended = puts.cut refl refl;
        })

-- the clauses of `run` on accepted commands and on faults, after `work` has ended
record WorkEnded (old new : SinkSeen) (source : SourceSeen) (result : Status) : Type 0 where
  accepted : (command : Command) → IsAccepted command result
  faults : HidesNoFault old new source source result

work_ended : (old new : SinkSeen) (source : SourceSeen) (Untouched : Type 0) (lines seed : ℕ) (result : Status) → (Untouched → new ≡ old)
    → EndsWork old new Untouched lines seed result → WorkEnded old new source result
work_ended old new source Untouched lines seed result same (inl full) = subst (WorkEnded old new source) (sym full.0) (record {
  accepted = λ command. inr (inr (inl (inl refl)));
  faults = no_faults is_full (ap (λ (s : SinkSeen). s.faults) (same full.1)) refl;
})
work_ended old new source Untouched lines seed result same (inr w) = by w.put.well w.put.puts w.put.is
  where
    by : (well : Bool) → Puts true old well new (sums_text w.sums) → result ≡ cond well status.Done status.SinkFault
        → WorkEnded old new source result
    by true puts is = subst (WorkEnded old new source) (sym is) (record {
      accepted = λ command. inl refl;
      faults = no_faults (ends_well done) (puts.still refl) refl;
    })
    by false puts is = subst (WorkEnded old new source) (sym is) (record {
      accepted = λ command. inr (inr (inl (inr refl)));
      faults = sink_failed (puts.rose refl refl) puts.later (omega arith);
    })

no_lines : (lines seed : ℕ) → batch ≡ work lines seed → ⊥
no_lines lines seed e = cc

pub work_ran : (words : List (List ℕ)) (old new : SinkSeen) (source : SourceSeen) (Untouched : Type 0) (lines seed : ℕ) (result : Status)
    → (Untouched → new ≡ old) → HasTask words (Workload lines seed) → EndsWork old new Untouched lines seed result
    → Ran words old new source source Untouched result
work_ran words old new source Untouched lines seed result same task e =
    let leaves = work_leaves words old new source Untouched lines seed result task.computes e in
    let ended = work_ended old new source Untouched lines seed result same e in
    record {
      headline = headline old new source source Untouched words result leaves;
      lines = λ runs. absurd (no_lines lines seed (task.accepts batch runs));
      cut = λ runs. absurd (no_lines lines seed (task.accepts batch runs));
      leaves = leaves;
      answers = record {
        accepted = λ command spelled. ended.accepted command;
        offended = λ offence first. absurd (task.refuses offence first);
        no_command = λ word byte place. absurd (task.goes_wrong word byte place);
      };
      faults = ended.faults;
      all_read = λ runs. absurd (no_lines lines seed (task.accepts batch runs));
    }
