use Rattle.std.proofs.Common.{◌≢◌, ◌<◌, length, ◌∙◌, ap, sym, arith, below_more}
use Rattle.insertion_laws.specs.Removal.{last_of}
use Rattle.row_insertion.specs.RowLists.{rows_in, row_at}
use Rattle.row_insertion.proofs.GrowingRows.{row_now, length-rows_in}
use Rattle.row_insertion.proofs.ShrinkingRows.{ending_at, ending_none}
use Rattle.row_insertion.proofs.shrinking.row_ending.Goals as goal

pub returns-then-last_of-number : goal.returns-then-last_of-number
returns-then-last_of-number c =
    let rows = rows_in c.args.rows.now in
    let within : c.loop-at.at < length c.args.rows.now = omega arith in
    let row = row_now c.args.rows.now c.loop-at.at c.index-rows-at.result within c.index-rows-at.is
    ∙ sym c.deref.ensures.value in
    sym (ending_at c.args.number c.loop-at.at rows (omega (arith, length-rows_in c.args.rows.now))
    c.loop-at.invariant
    (ap last_of row ∙ sym c.last_of.ensures ∙ c.if-last_of-number.true))

pub loop-at-preserved : goal.loop-at-preserved
loop-at-preserved c =
    let rows = rows_in c.args.rows.now in
    let within : c.loop-at.at < length c.args.rows.now = omega arith in
    let row = row_now c.args.rows.now c.loop-at.at c.index-rows-at.result within c.index-rows-at.is
    ∙ sym c.deref.ensures.value in
    below_more (λ j. last_of (row_at rows j) ≢ c.args.number) c.loop-at.at c.loop-at.invariant
    (λ e. c.if-last_of-number.false (c.last_of.ensures ∙ ap last_of (sym row) ∙ e))

pub returns : goal.returns
returns c =
    sym (ending_none c.args.number (rows_in c.args.rows.now) (λ j h. c.loop-at.invariant j
    (omega (arith, length-rows_in c.args.rows.now)))
    ∙ length-rows_in c.args.rows.now)
