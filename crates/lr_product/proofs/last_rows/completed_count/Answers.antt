use Rattle.std.proofs.Common.{◌≡◌, ◌+◌, ◌<◌, ◌∷◌, [], length, take, drop, subst, arith}
use Rattle.std.specs.Prelude.{IfSome}
use Rattle.lr_product.specs.WeighedSum.{at_state, weighed, unreached, comes_to}
use Rattle.lr_product.specs.RowExtension.{over_rows}
use Rattle.lr_product.proofs.Steps.{weighed-drop, weighed-none, reached-tells, length_taken}
use Rattle.lr_product.proofs.Steps.{agree_past, weighed-past, agree_none, agree_product}
use Rattle.lr_product.proofs.last_rows.completed_count.Goals as goal

pub completions-requires-clause-long : goal.completions-requires-clause-long
completions-requires-clause-long c =
    let n = length c.args.content.now in
    let key = c.entry-ways.result.0.now in
    let some : 0 < c.entry-ways.result.1 = omega (arith, c.if-ways-eq0.false) in
    let r = reached-tells n 4096 (take n key) (drop n key) (weighed-none n (unreached n 4096)
    c.args.table.now.entries c.loop-at.at key c.entry-ways.result.1 c.requires.reached
    c.entry-ways.ensures some) in
    length_taken n key r.long

pub completions-requires-clause-falls : goal.completions-requires-clause-falls
completions-requires-clause-falls c =
    let n = length c.args.content.now in
    let key = c.entry-ways.result.0.now in
    let some : 0 < c.entry-ways.result.1 = omega (arith, c.if-ways-eq0.false) in
    let r = reached-tells n 4096 (take n key) (drop n key) (weighed-none n (unreached n 4096)
    c.args.table.now.entries c.loop-at.at key c.entry-ways.result.1 c.requires.reached
    c.entry-ways.ensures some) in
    r.falls

pub loop-at-preserved-then-ways-eq0 : goal.loop-at-preserved-then-ways-eq0
loop-at-preserved-then-ways-eq0 c =
    let n = length c.args.content.now in
    let rows = c.args.rows in
    let key = c.entry-ways.result.0.now in
    let ways = c.entry-ways.result.1 in
    let es = c.args.table.now.entries in
    let g = over_rows n (rows.upper_end ∷ rows.lower_end ∷ []) (rows.upper_outside ∷ rows.lower_outside ∷ [])
    (comes_to c.args.content.now) in
    record {
      end = c.loop-at.invariant.end;
      agrees = agree_none c.loop-at.count (weighed n g (drop c.loop-at.at es)) (weighed n g es)
          (weighed n g (drop (c.loop-at.at + 1) es)) ways (at_state n g key)
          c.loop-at.invariant.agrees
          (weighed-drop n g es c.loop-at.at (key, ways) c.entry-ways.ensures) c.if-ways-eq0.true;
    }

pub loop-at-preserved : goal.loop-at-preserved
loop-at-preserved c =
    let n = length c.args.content.now in
    let rows = c.args.rows in
    let key = c.entry-ways.result.0.now in
    let ways = c.entry-ways.result.1 in
    let es = c.args.table.now.entries in
    let g = over_rows n (rows.upper_end ∷ rows.lower_end ∷ []) (rows.upper_outside ∷ rows.lower_outside ∷ [])
    (comes_to c.args.content.now) in
    let value : c.in-Some.completions ≡ at_state n g key =
    subst (λ o. IfSome o (λ w. w ≡ at_state n g key)) c.in-Some.is c.in_ok-completions.ensures.value
    in
    record {
      end = c.loop-at.invariant.end;
      agrees = agree_product c.loop-at.count (weighed n g (drop c.loop-at.at es)) (weighed n g es)
          (weighed n g (drop (c.loop-at.at + 1) es)) ways (at_state n g key)
          c.in-Some.completions c.saturating_mul.result c.saturating_add.result c.capped-count.result
          c.loop-at.invariant.agrees
          (weighed-drop n g es c.loop-at.at (key, ways) c.entry-ways.ensures) value
          c.saturating_mul.ensures c.saturating_add.ensures c.capped-count.ensures.capped;
    }

pub returns : goal.returns
returns c =
    let n = length c.args.content.now in
    let rows = c.args.rows in
    let es = c.args.table.now.entries in
    let g = over_rows n (rows.upper_end ∷ rows.lower_end ∷ []) (rows.upper_outside ∷ rows.lower_outside ∷ [])
    (comes_to c.args.content.now) in
    record {
      agrees = agree_past c.loop-at.count (weighed n g (drop c.loop-at.at es)) (weighed n g es)
          (weighed-past n g es c.loop-at.at (omega (arith, c.loop-at-test.false, c.loop-at.invariant.end)))
          c.loop-at.invariant.agrees;
    }
