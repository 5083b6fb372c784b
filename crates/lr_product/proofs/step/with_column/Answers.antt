use Rattle.std.proofs.Common.{◌+◌, ◌-◌, ◌<◌, length, take, drop, ap, ◌∙◌, arith}
use Rattle.lr_product.specs.StateCounts.{StateCounts}
use Rattle.lr_product.specs.WeighedSum.{at_state, weighed, next_states, seen, unreached}
use Rattle.lr_product.proofs.Agreeing.{agree_then, agree_same}
use Rattle.lr_product.proofs.Steps.{weighed-drop, weighed-none, reached-tells, agree_entry}
use Rattle.lr_product.proofs.Steps.{agree_past, agree_positive, weighed-past, length_taken}
use Rattle.lr_product.proofs.step.with_column.Goals as goal

pub add_columns-requires-clause-long : goal.add_columns-requires-clause-long
add_columns-requires-clause-long c h =
    let n = c.args.letters in
    let key = c.entry-ways.result.0.now in
    let some : 0 < c.entry-ways.result.1 = agree_positive c.capped.result c.entry-ways.result.1
    c.capped.ensures.capped h in
    let r = reached-tells n (4096 - length c.args.line.now) (take n key) (drop n key)
    (weighed-none n (unreached n (4096 - length c.args.line.now)) c.args.table.now.entries
    c.loop-at.at key c.entry-ways.result.1 c.requires.reached c.entry-ways.ensures some) in
    length_taken n key r.long

pub add_columns-requires-clause-falls : goal.add_columns-requires-clause-falls
add_columns-requires-clause-falls c h =
    let n = c.args.letters in
    let key = c.entry-ways.result.0.now in
    let some : 0 < c.entry-ways.result.1 = agree_positive c.capped.result c.entry-ways.result.1
    c.capped.ensures.capped h in
    let r = reached-tells n (4096 - length c.args.line.now) (take n key) (drop n key)
    (weighed-none n (unreached n (4096 - length c.args.line.now)) c.args.table.now.entries
    c.loop-at.at key c.entry-ways.result.1 c.requires.reached c.entry-ways.ensures some) in
    r.falls

pub add_columns-requires-clause-size : goal.add_columns-requires-clause-size
add_columns-requires-clause-size c h =
    let n = c.args.letters in
    let key = c.entry-ways.result.0.now in
    let some : 0 < c.entry-ways.result.1 = agree_positive c.capped.result c.entry-ways.result.1
    c.capped.ensures.capped h in
    let r = reached-tells n (4096 - length c.args.line.now) (take n key) (drop n key)
    (weighed-none n (unreached n (4096 - length c.args.line.now)) c.args.table.now.entries
    c.loop-at.at key c.entry-ways.result.1 c.requires.reached c.entry-ways.ensures some) in
    let bound = r.small in
    omega (arith, c.requires.short)

pub loop-at-preserved : goal.loop-at-preserved
loop-at-preserved c =
    let n = c.args.letters in
    let key = c.entry-ways.result.0.now in
    let es = c.args.table.now.entries in
    record {
      end = c.loop-at.invariant.end;
      width = c.in_ok-add_columns.ensures.width ∙ c.loop-at.invariant.width;
      counts = λ f v.
          let g = next_states n c.args.line.now (seen c.args.is_kept f) in
          agree_entry (weighed n f c.loop-at.next.entries)
          (weighed n f c.add_columns.new.next.entries) (weighed n g (drop c.loop-at.at es))
          (weighed n g es) (weighed n g (drop (c.loop-at.at + 1) es)) c.entry-ways.result.1
          c.capped.result (at_state n g key)
          (c.loop-at.invariant.counts f v) (weighed-drop n g es c.loop-at.at
          (key, c.entry-ways.result.1) c.entry-ways.ensures) c.capped.ensures.capped
          (c.in_ok-add_columns.ensures.adds f v);
      reached = λ m z.
          c.in_ok-add_columns.ensures.reached (m + length c.args.line.now)
          (λ h.
          let some : 0 < c.entry-ways.result.1 = agree_positive c.capped.result
          c.entry-ways.result.1 c.capped.ensures.capped h in
          let r = reached-tells n m (take n key) (drop n key)
          (weighed-none n (unreached n m) es c.loop-at.at key c.entry-ways.result.1 z
          c.entry-ways.ensures some) in
          let bound = r.small in
          omega arith)
          (c.loop-at.invariant.reached m z);
    }

pub returns-clause-counts : goal.returns-clause-counts
returns-clause-counts c f v =
    let n = c.args.letters in
    let g = next_states n c.args.line.now (seen c.args.is_kept f) in
    agree_then _ _ _ (agree_same _ _ (ap (λ (t : StateCounts). weighed n f t.entries)
    c.into_states.ensures))
    (agree_past (weighed n f c.loop-at.next.entries)
    (weighed n g (drop c.loop-at.at c.args.table.now.entries))
    (weighed n g c.args.table.now.entries)
    (weighed-past n g c.args.table.now.entries c.loop-at.at
    (omega (arith, c.loop-at.invariant.end))) (c.loop-at.invariant.counts f v))
