use Rattle.std.proofs.Common.{◌≡◌, ◌+◌, ◌≤◌, length, sym, ap, ◌∙◌, subst}
use Rattle.batch_lines.specs.Reading.{next_at_end}
use Rattle.batch_lines.proofs.NextLines.{ends, goes_on, stops, cuts, runs_out}
use Rattle.batch_lines.proofs.reader.read_next.Goals as goal

pub returns-then-heard-clause-reads : goal.returns-then-heard-clause-reads
returns-then-heard-clause-reads g c =
    let r = c.loop-heard.invariant.1 in
    ends c.in-Ok.heard c.loop-heard.has_ended c.at_feed.result r
    (c.in-Ok.ensures.heard r.text r.heard) c.if-heard.true c.loop-heard.invariant.0
    c.at_feed.ensures

pub returns-then-count-eq0-clause-reads : goal.returns-then-count-eq0-clause-reads
returns-then-count-eq0-clause-reads g c =
    let r = c.loop-heard.invariant.1 in
    let e = c.in-Ok-refill.ensures in
    let none : length c.refill.new.self ≡ 0 = sym e.count ∙ c.if-count-eq0.true in
    let spent : (g.S.Source.seen c.refill.new.source).allowance + length c.refill.new.self ≤
    (g.S.Source.seen c.loop-heard.source).allowance =
    subst (λ n. (g.S.Source.seen c.refill.new.source).allowance + n ≤
    (g.S.Source.seen c.loop-heard.source).allowance) e.count e.spends in
    stops c.in-Ok.heard c.at_end.result r (c.in-Ok.ensures.heard r.text r.heard) c.if-heard.false
    e.taken spent none (e.ended c.if-count-eq0.true)
    (c.at_end.ensures ∙ ap (λ xs. next_at_end xs c.in-Ok.heard.is_long) c.as_slice.ensures.value)

pub loop-heard-preserved : goal.loop-heard-preserved
loop-heard-preserved g c =
    let r = c.loop-heard.invariant.1 in
    let e = c.in-Ok-refill.ensures in
    let spent : (g.S.Source.seen c.refill.new.source).allowance + length c.refill.new.self ≤
    (g.S.Source.seen c.loop-heard.source).allowance =
    subst (λ n. (g.S.Source.seen c.refill.new.source).allowance + n ≤
    (g.S.Source.seen c.loop-heard.source).allowance) e.count e.spends in (
      c.loop-heard.invariant.0,
      goes_on c.in-Ok.heard r (c.in-Ok.ensures.heard r.text r.heard)
          c.if-heard.false e.taken spent e.counts.still,
    )

pub returns-in-Err-refill-clause-cuts : goal.returns-in-Err-refill-clause-cuts
returns-in-Err-refill-clause-cuts g c =
    let r = c.loop-heard.invariant.1 in (
      c.requires,
      cuts _ c.in-Ok.heard r (c.in-Ok.ensures.heard r.text r.heard) c.if-heard.false
          c.in-Err-refill.ensures.kept,
    )

pub returns-in-Err-clause-cuts : goal.returns-in-Err-clause-cuts
returns-in-Err-clause-cuts g c = runs_out c.loop-heard.invariant.1 c.in-Err.ensures.few

pub returns-then-heard-clause-little : goal.returns-then-heard-clause-little
returns-then-heard-clause-little g c =
    let r = c.loop-heard.invariant.1 in
    (c.in-Ok.ensures.heard r.text r.heard).heard.little

pub returns-then-count-eq0-clause-little : goal.returns-then-count-eq0-clause-little
returns-then-count-eq0-clause-little g c =
    let r = c.loop-heard.invariant.1 in
    (c.in-Ok.ensures.heard r.text r.heard).heard.little
