use Rattle.std.proofs.Common.{◌≡◌, ◌<◌, ◌-◌, suc, length, ◌∙◌, ap, sym, subst, arith}
use Rattle.std.proofs.Math.ListN.{set}
use Rattle.insertion_laws.specs.Removal.{row_back, letter_back}
use Rattle.row_insertion.specs.RowLists.{rows_in}
use Rattle.row_insertion.proofs.GrowingRows.{row_now, rows_in-set, length-rows_in}
use Rattle.row_insertion.proofs.ShrinkingRows.{rising_starts, rising_more, row_above, filled_row}
use Rattle.row_insertion.proofs.shrinking.take_out.Goals as goal

pub loop-above-init : goal.loop-above-init
loop-above-init c =
    let start = rows_in c.args.rows.now.items in
    rising_starts start (rows_in c.take_last-letter.new.rows.items) c.args.at
    c.take_last-letter.result
    (omega (arith, length-rows_in c.args.rows.now.items, c.requires.row))
    c.take_last-letter.ensures.rows c.take_last-letter.ensures.number

pub put_back-letter-requires : goal.put_back-letter-requires
put_back-letter-requires c =
    let start = rows_in c.args.rows.now.items in
    let now = rows_in c.loop-above.rows.items in
    let i = c.loop-above.above - 1 in
    let within : c.args.at < length start = omega (
      arith,
      length-rows_in c.args.rows.now.items,
      c.requires.row,
    ) in
    let e : c.loop-above.above ≡ suc i = omega arith in
    let under = c.loop-above.invariant.under in
    let above = row_above start now c.args.at c.loop-above.above c.loop-above.letter i within
    e c.loop-above.invariant in
    let row = sym (row_now c.loop-above.rows.items i c.index_mut.result.now
    (omega (arith, above.1, length-rows_in c.loop-above.rows.items)) c.index_mut.ensures.value)
    ∙ above.0 in
    subst (λ w. 0 < length w) (sym row) (filled_row 1 i start c.requires.tableau (omega arith))

pub loop-above-preserved : goal.loop-above-preserved
loop-above-preserved c =
    let start = rows_in c.args.rows.now.items in
    let now = rows_in c.loop-above.rows.items in
    let i = c.loop-above.above - 1 in
    let within : c.args.at < length start = omega (
      arith,
      length-rows_in c.args.rows.now.items,
      c.requires.row,
    ) in
    let e : c.loop-above.above ≡ suc i = omega arith in
    let above = row_above start now c.args.at c.loop-above.above c.loop-above.letter i within
    e c.loop-above.invariant in
    let row = sym (row_now c.loop-above.rows.items i c.index_mut.result.now
    (omega (arith, above.1, length-rows_in c.loop-above.rows.items)) c.index_mut.ensures.value)
    ∙ above.0 in
    rising_more start now (rows_in (set c.loop-above.rows.items i c.put_back-letter.new.row))
    c.args.at c.loop-above.above c.loop-above.letter
    c.put_back-letter.result i c.put_back-letter.new.row.items within
    e (rows_in-set c.loop-above.rows.items i c.put_back-letter.new.row)
    (c.put_back-letter.ensures.row ∙ ap (row_back c.loop-above.letter) row)
    (c.put_back-letter.ensures.other ∙ ap (letter_back c.loop-above.letter) row)
    c.loop-above.invariant
