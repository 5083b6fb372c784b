use Rattle.std.proofs.Common.{◌≡◌, ◌-◌, ap, ◌∙◌, arith, rules}
use Rattle.sym_model.specs.Partition.{columns, size}
use Rattle.lr_product.specs.ColumnLine.{column_line}
use Rattle.lr_product.proofs.Rounds.{start_counts, start_reached, round_room, round_counts}
use Rattle.lr_product.proofs.Rounds.{round_reached, last_counts, last_reached}
use Rattle.lr_product.proofs.columns.with_columns.Goals as goal

pub loop-at-init : goal.loop-at-init
loop-at-init c =
    let at : c.part-at.result ≡ columns c.args.outer.now = c.part-at.ensures.value in
    let falls = c.part-at.ensures.limits.partition.falls in
    record {
      within = omega arith;
      counts = λ f v. start_counts c.args.letters c.args.outer.now c.args.inner.now
          c.args.starts.entries c.part-at.result falls c.requires.inside at f;
      reached = start_reached c.args.letters (4096 - size c.args.outer.now) c.args.outer.now
          c.args.inner.now c.args.starts.entries c.part-at.result c.requires.reached;
    }

pub with_column-requires-clause-reached : goal.with_column-requires-clause-reached
with_column-requires-clause-reached c =
    let line : c.deref.result.now ≡ column_line c.loop-at.at c.args.outer.now c.args.inner.now =
    c.deref.ensures.value ∙ c.in_ok-write_line.ensures
    ∙ ap (λ o. column_line c.loop-at.at o c.args.inner.now) c.parts.ensures.value in
    (round_room c.args.letters (4096 - size c.args.outer.now) c.args.outer.now c.args.inner.now
    c.loop-at.table.entries c.loop-at.at c.deref.result.now
    c.part-at.ensures.limits.partition.falls c.requires.inside c.loop-at-test.true
    c.loop-at.invariant.within (omega (arith, c.requires.size)) line
    c.loop-at.invariant.reached).0

pub with_column-requires-clause-short : goal.with_column-requires-clause-short
with_column-requires-clause-short c =
    let line : c.deref.result.now ≡ column_line c.loop-at.at c.args.outer.now c.args.inner.now =
    c.deref.ensures.value ∙ c.in_ok-write_line.ensures
    ∙ ap (λ o. column_line c.loop-at.at o c.args.inner.now) c.parts.ensures.value in
    (round_room c.args.letters (4096 - size c.args.outer.now) c.args.outer.now c.args.inner.now
    c.loop-at.table.entries c.loop-at.at c.deref.result.now
    c.part-at.ensures.limits.partition.falls c.requires.inside c.loop-at-test.true
    c.loop-at.invariant.within (omega (arith, c.requires.size)) line
    c.loop-at.invariant.reached).1

pub loop-at-preserved : goal.loop-at-preserved
loop-at-preserved c =
    let n = c.args.letters in
    let outer = c.args.outer.now in
    let inner = c.args.inner.now in
    let at = c.loop-at.at in
    let falls = c.part-at.ensures.limits.partition.falls in
    let line : c.deref.result.now ≡ column_line at outer inner = c.deref.ensures.value
    ∙ c.in_ok-write_line.ensures ∙ ap (λ o. column_line at o inner) c.parts.ensures.value in
    record {
      within = omega (arith, c.loop-at.invariant.within);
      counts = round_counts n outer inner c.args.bound.now c.args.starts.entries
          c.loop-at.table.entries c.in_ok-table.table.entries at c.deref.result.now _ falls
          c.requires.inside c.loop-at-test.true c.loop-at.invariant.within
          line (search rules) c.loop-at.invariant.counts c.in_ok-table.ensures.counts;
      reached = round_reached n (4096 - size outer) outer inner c.in_ok-table.table.entries
          at c.deref.result.now falls c.requires.inside c.loop-at-test.true
          c.loop-at.invariant.within
          line (c.in_ok-table.ensures.reached _ c.loop-at.invariant.reached);
    }

pub returns-clause-ways : goal.returns-clause-ways
returns-clause-ways c f v =
    last_counts c.args.letters c.args.outer.now c.args.inner.now c.args.starts.entries
    c.loop-at.table.entries c.loop-at.at f (omega (arith, c.loop-at-test.false))
    (c.loop-at.invariant.counts (λ ν right. f ν) v)

pub returns-clause-reached : goal.returns-clause-reached
returns-clause-reached c =
    last_reached c.args.letters (4096 - size c.args.outer.now) c.args.outer.now c.args.inner.now
    c.loop-at.table.entries c.loop-at.at c.requires.inside (omega (arith, c.requires.size))
    c.loop-at.invariant.reached
