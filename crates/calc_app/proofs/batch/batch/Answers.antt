use Rattle.std.proofs.Common.{◌≡◌, Bool, true, false, ◌++◌, [], sym, subst, rules, tests, Err}
use Rattle.batch_lines.specs.Reading.{Reading}
use Rattle.batch_lines.specs.declared.next.LineFault.{LineFault}
use Rattle.calc_base.specs.Puts.{Puts}
use Rattle.batch_lines.specs.declared.progress.Progress.{Progress}
use Rattle.batch_lines.specs.Ends.{separator}
use Rattle.calc_app.specs.Batch.{TakesTurn, CutsTurn, CountsTurn}
use Rattle.calc_replies.specs.Computed.{text_of}
use Rattle.calc_app.proofs.LinesRead.{fewer_left, read_end}
use Rattle.calc_app.proofs.Batches.{Runs, begins, passed_took, block_took, last_took, runs_passed}
use Rattle.calc_app.proofs.Batches.{runs_block, runs_handed, ends_cut, ends_held, ends_full}
use Rattle.calc_app.proofs.Batches.{ends_last, ends_source}
use Rattle.calc_app.proofs.batch.batch.Goals as goal

pub loop-reader-init : goal.loop-reader-init
loop-reader-init g c =
    let sink = g.K.Sink.seen c.args.sink.now in
    let source = g.S.Source.seen c.args.source.now in
    subst (λ (r : Reading). Runs sink sink source source r.pending r.has_ended
    (record { is_first = true; is_done = true })) (sym c.in-Ok.ensures)
    (begins sink source)

pub loop-reader-smaller-else-not-hand_on : goal.loop-reader-smaller-else-not-hand_on
loop-reader-smaller-else-not-hand_on g c =
    let t = passed_took (subst (TakesTurn (g.S.Source.seen c.loop-reader.source)
    (g.S.Source.seen c.next_turn.new.source) c.loop-reader.reader.pending
    c.next_turn.new.reader.pending c.next_turn.new.reader.has_ended) c.in-Ok-Passed.field-0-is
    c.in-Ok-Passed.ensures.takes) in
    fewer_left (g.S.Source.seen c.loop-reader.source).allowance
    (g.S.Source.seen c.next_turn.new.source).allowance t.taken c.loop-reader.reader.pending
    t.text c.next_turn.new.reader.pending (g.S.Source.seen c.next_turn.new.source).left
    c.next_turn.new.reader.has_ended t.spent t.ends

pub loop-reader-preserved-else-not-hand_on : goal.loop-reader-preserved-else-not-hand_on
loop-reader-preserved-else-not-hand_on g c =
    let handed : c.hand_on.result ≡ true = search (rules, tests) in
    let hands = subst (λ (w : Bool). Puts true (g.K.Sink.seen c.loop-reader.sink) w
    (g.K.Sink.seen c.hand_on.new.sink) []) handed c.hand_on.ensures.goes in
    runs_handed (runs_passed c.loop-reader.invariant
    (passed_took (subst (TakesTurn (g.S.Source.seen c.loop-reader.source)
    (g.S.Source.seen c.next_turn.new.source) c.loop-reader.reader.pending
    c.next_turn.new.reader.pending c.next_turn.new.reader.has_ended) c.in-Ok-Passed.field-0-is
    c.in-Ok-Passed.ensures.takes))
    c.in-Ok-Passed.ensures.counts) hands

pub returns-then-not-hand_on : goal.returns-then-not-hand_on
returns-then-not-hand_on g c =
    let kept : c.hand_on.result ≡ false = search (rules, tests) in
    let hands = subst (λ (w : Bool). Puts true (g.K.Sink.seen c.loop-reader.sink) w
    (g.K.Sink.seen c.hand_on.new.sink) []) kept c.hand_on.ensures.goes in
    ends_held (c.hand_on.new.sink ≡ c.args.sink.now) (runs_passed c.loop-reader.invariant
    (passed_took (subst (TakesTurn (g.S.Source.seen c.loop-reader.source)
    (g.S.Source.seen c.next_turn.new.source) c.loop-reader.reader.pending
    c.next_turn.new.reader.pending c.next_turn.new.reader.has_ended) c.in-Ok-Passed.field-0-is
    c.in-Ok-Passed.ensures.takes))
    c.in-Ok-Passed.ensures.counts) (c.hand_on.ensures.none kept) hands

pub returns-then-not-put_block : goal.returns-then-not-put_block
returns-then-not-put_block g c =
    let well : c.put_block.result ≡ false = search (rules, tests) in
    let goes = subst (λ (w : Bool). Puts true (g.K.Sink.seen c.loop-reader.sink) w
    (g.K.Sink.seen c.put_block.new.sink)
    (separator c.loop-reader.progress.is_first ++ text_of c.in-Ok-Block.outcome)) well
    c.put_block.ensures.goes in
    ends_cut (c.put_block.new.sink ≡ c.args.sink.now) c.in-Ok-Block.outcome c.loop-reader.invariant
    (block_took c.in-Ok-Block.outcome (subst (TakesTurn (g.S.Source.seen c.loop-reader.source)
    (g.S.Source.seen c.next_turn.new.source) c.loop-reader.reader.pending
    c.next_turn.new.reader.pending c.next_turn.new.reader.has_ended) c.in-Ok-Block.field-0-is
    c.in-Ok-Block.ensures.takes))
    c.put_block.ensures.printable c.in-Ok-Block.ensures.counts c.in-Ok-Block.ensures.short goes

pub loop-reader-smaller : goal.loop-reader-smaller
loop-reader-smaller g c =
    let t = block_took c.in-Ok-Block.outcome
    (subst (TakesTurn (g.S.Source.seen c.loop-reader.source)
    (g.S.Source.seen c.next_turn.new.source) c.loop-reader.reader.pending
    c.next_turn.new.reader.pending c.next_turn.new.reader.has_ended) c.in-Ok-Block.field-0-is
    c.in-Ok-Block.ensures.takes) in
    fewer_left (g.S.Source.seen c.loop-reader.source).allowance
    (g.S.Source.seen c.next_turn.new.source).allowance t.taken c.loop-reader.reader.pending
    t.text c.next_turn.new.reader.pending (g.S.Source.seen c.next_turn.new.source).left
    c.next_turn.new.reader.has_ended t.spent t.ends

pub loop-reader-preserved : goal.loop-reader-preserved
loop-reader-preserved g c =
    let well : c.put_block.result ≡ true = search (rules, tests) in
    let goes = subst (λ (w : Bool). Puts true (g.K.Sink.seen c.loop-reader.sink) w
    (g.K.Sink.seen c.put_block.new.sink)
    (separator c.loop-reader.progress.is_first ++ text_of c.in-Ok-Block.outcome)) well
    c.put_block.ensures.goes in
    let handed : c.hand_on-in-Ok-Block.result ≡ true = search (rules, tests) in
    let hands = subst (λ (w : Bool). Puts true (g.K.Sink.seen c.put_block.new.sink) w
    (g.K.Sink.seen c.hand_on-in-Ok-Block.new.sink) []) handed c.hand_on-in-Ok-Block.ensures.goes in
    subst (λ (p : Progress). Runs (g.K.Sink.seen c.args.sink.now) (g.K.Sink.seen c.hand_on-in-Ok-Block.new.sink)
    (g.S.Source.seen c.args.source.now)
    (g.S.Source.seen c.next_turn.new.source) c.next_turn.new.reader.pending
    c.next_turn.new.reader.has_ended p) (sym c.put_block.ensures.counts)
    (runs_handed (runs_block c.in-Ok-Block.outcome c.loop-reader.invariant
    (block_took c.in-Ok-Block.outcome (subst (TakesTurn (g.S.Source.seen c.loop-reader.source)
    (g.S.Source.seen c.next_turn.new.source) c.loop-reader.reader.pending
    c.next_turn.new.reader.pending c.next_turn.new.reader.has_ended) c.in-Ok-Block.field-0-is
    c.in-Ok-Block.ensures.takes))
    c.put_block.ensures.printable c.in-Ok-Block.ensures.counts goes) hands)

pub returns-then-not-hand_on-2 : goal.returns-then-not-hand_on-2
returns-then-not-hand_on-2 g c =
    let well : c.put_block.result ≡ true = search (rules, tests) in
    let goes = subst (λ (w : Bool). Puts true (g.K.Sink.seen c.loop-reader.sink) w
    (g.K.Sink.seen c.put_block.new.sink)
    (separator c.loop-reader.progress.is_first ++ text_of c.in-Ok-Block.outcome)) well
    c.put_block.ensures.goes in
    let kept : c.hand_on-in-Ok-Block.result ≡ false = search (rules, tests) in
    let hands = subst (λ (w : Bool). Puts true (g.K.Sink.seen c.put_block.new.sink) w
    (g.K.Sink.seen c.hand_on-in-Ok-Block.new.sink) []) kept c.hand_on-in-Ok-Block.ensures.goes in
    ends_held (c.hand_on-in-Ok-Block.new.sink ≡ c.args.sink.now)
    (runs_block c.in-Ok-Block.outcome c.loop-reader.invariant
    (block_took c.in-Ok-Block.outcome (subst (TakesTurn (g.S.Source.seen c.loop-reader.source)
    (g.S.Source.seen c.next_turn.new.source) c.loop-reader.reader.pending
    c.next_turn.new.reader.pending c.next_turn.new.reader.has_ended) c.in-Ok-Block.field-0-is
    c.in-Ok-Block.ensures.takes))
    c.put_block.ensures.printable c.in-Ok-Block.ensures.counts goes)
    (c.hand_on-in-Ok-Block.ensures.none kept) hands

pub returns-in-Ok-Last : goal.returns-in-Ok-Last
returns-in-Ok-Last g c =
    ends_last (c.finished.new.sink ≡ c.args.sink.now) c.loop-reader.invariant
    (last_took (subst (TakesTurn (g.S.Source.seen c.loop-reader.source)
    (g.S.Source.seen c.next_turn.new.source) c.loop-reader.reader.pending
    c.next_turn.new.reader.pending c.next_turn.new.reader.has_ended) c.in-Ok-Last.field-0-is
    c.in-Ok-Last.ensures.takes))
    c.in-Ok-Last.ensures.counts c.at_end.ensures c.finished.ensures

pub returns-in-Err-SourceFault : goal.returns-in-Err-SourceFault
returns-in-Err-SourceFault g c =
    let cuts = subst (λ (f : LineFault). CutsTurn (g.S.Source.seen c.loop-reader.source).left
    (g.S.Source.seen c.next_turn.new.source).left
    c.loop-reader.reader.pending c.loop-reader.reader.has_ended (Err f))
    c.in-Err-SourceFault.field-0-is c.in-Err-SourceFault.ensures.cuts in
    ends_source (c.finished-in-Err-SourceFault.new.sink ≡ c.args.sink.now)
    (subst (λ (had : Bool). Runs (g.K.Sink.seen c.args.sink.now) (g.K.Sink.seen c.loop-reader.sink)
    (g.S.Source.seen c.args.source.now)
    (g.S.Source.seen c.loop-reader.source) c.loop-reader.reader.pending had
    c.loop-reader.progress) cuts.0 c.loop-reader.invariant)
    cuts.1
    (subst (λ (f : LineFault). CountsTurn (g.S.Source.seen c.loop-reader.source).faults
    (g.S.Source.seen c.next_turn.new.source).faults (Err f))
    c.in-Err-SourceFault.field-0-is c.in-Err-SourceFault.ensures.counts)
    c.in-Err-SourceFault.ensures.later c.finished-in-Err-SourceFault.ensures

pub returns-in-Err-NoMemory : goal.returns-in-Err-NoMemory
returns-in-Err-NoMemory g c =
    ends_full (c.finished-in-Err-NoMemory.new.sink ≡ c.args.sink.now) c.loop-reader.invariant
    (subst (λ (f : LineFault). CutsTurn (g.S.Source.seen c.loop-reader.source).left
    (g.S.Source.seen c.next_turn.new.source).left
    c.loop-reader.reader.pending c.loop-reader.reader.has_ended (Err f))
    c.in-Err-NoMemory.field-0-is c.in-Err-NoMemory.ensures.cuts)
    (subst (λ (f : LineFault). CountsTurn (g.S.Source.seen c.loop-reader.source).faults
    (g.S.Source.seen c.next_turn.new.source).faults (Err f))
    c.in-Err-NoMemory.field-0-is c.in-Err-NoMemory.ensures.counts)
    c.finished-in-Err-NoMemory.ensures

pub next_turn-requires : goal.next_turn-requires
next_turn-requires g c =
    let r = c.loop-reader.invariant in
    read_end (g.S.Source.seen c.args.source.now).left (g.S.Source.seen c.loop-reader.source).left
    r.lines c.loop-reader.reader.pending
    c.loop-reader.reader.has_ended r.read
