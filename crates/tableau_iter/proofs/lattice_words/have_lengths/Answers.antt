use Rattle.std.proofs.Common.{◌≡◌, ◌+◌, ◌-◌, map, length, get_or, ap, arith}
use Rattle.tableau_iter.proofs.RowLengths.{other_count, other_length, all_lengths, length_at}
use Rattle.tableau_iter.proofs.RowLengths.{one_more}
use Rattle.tableau_iter.proofs.lattice_words.have_lengths.Goals as goal

pub returns-then-rows-outer : goal.returns-then-rows-outer
returns-then-rows-outer c = other_count (λ r. r.items) c.args.outer.now c.args.inner.now
    c.args.rows.now c.if-rows-outer.true

pub returns-then-len-from : goal.returns-then-len-from
returns-then-len-from c =
    let row = c.loop-row.row in
    let at = length_at (λ r. r.items) c.args.rows.now row c.index-rows-row.result
    (omega (arith, c.loop-row-test.true, c.if-rows-outer.false)) c.index-rows-row.is in
    let place : row + 1 - 1 ≡ row = omega arith in
    other_length (λ r. r.items) c.args.outer.now c.args.inner.now c.args.rows.now row
    (λ e.
    c.if-len-from.true
    (omega (
      arith,
      e,
      at,
      c.len.ensures,
      c.from.ensures,
      c.saturating_sub.ensures,
      c.part_at.ensures,
      ap (λ i. get_or c.args.inner.now i 0) place,
    )))

pub loop-row-preserved : goal.loop-row-preserved
loop-row-preserved c =
    let row = c.loop-row.row in
    let at = length_at (λ r. r.items) c.args.rows.now row c.index-rows-row.result
    (omega (arith, c.loop-row-test.true, c.if-rows-outer.false)) c.index-rows-row.is in
    let place : row + 1 - 1 ≡ row = omega arith in
    λ i m.
    one_more (map length (map (λ r. r.items) c.args.rows.now)) c.args.outer.now c.args.inner.now row
    i c.loop-row.invariant
    (omega (
      arith,
      at,
      c.if-len-from.false,
      c.len.ensures,
      c.from.ensures,
      c.saturating_sub.ensures,
      c.part_at.ensures,
      ap (λ i. get_or c.args.inner.now i 0) place,
    )) m

pub returns : goal.returns
returns c =
    all_lengths (λ r. r.items) c.args.outer.now c.args.inner.now c.args.rows.now
    c.if-rows-outer.false
    (λ i h. c.loop-row.invariant i (omega (arith, h, c.loop-row-test.false)))
