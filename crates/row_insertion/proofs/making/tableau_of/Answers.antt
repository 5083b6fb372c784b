use Rattle.std.proofs.Common.{◌≡◌, ◌<◌, ℕ, List, [], length, ◌∙◌, ap, sym, arith}
use Rattle.std.proofs.lemmas.Bool.{false≢true}
use Rattle.sym_model.specs.Tableau.{SkewFilling}
use Rattle.row_insertion.specs.RowLists.{rows_in}
use Rattle.row_insertion.proofs.GrowingRows.{row_now, length-rows_in}
use Rattle.row_insertion.proofs.Overwriting.{rows_shape, rows_more, rows_end, any_default}
use Rattle.row_insertion.proofs.MadeTableaux.{rows_start, row_count, length-shape, is_tableau_then}
use Rattle.row_insertion.proofs.making.tableau_of.Goals as goal

pub loop-at-init : goal.loop-at-init
loop-at-init c = rows_start (rows_in c.args.rows.now) c.in_ok-straight_shape.field-0 []
    c.in_ok-filled.filled c.in_ok-straight_shape.ensures c.in_ok-filled.ensures

pub put_row-requires-clause-shape : goal.put_row-requires-clause-shape
put_row-requires-clause-shape c = rows_shape (rows_in c.args.rows.now) c.in_ok-filled.filled.rows
    c.loop-at.filled c.loop-at.at c.loop-at.invariant

pub put_row-requires-clause-all : goal.put_row-requires-clause-all
put_row-requires-clause-all c =
    let count : c.rows-at-end.result ≡ length c.args.rows.now =
    c.rows-at-end.ensures.value ∙ ap (λ (p : List ℕ). length p)
    (c.outer.ensures.value ∙ ap (λ (s : List ℕ × List ℕ). s.0) c.shape.ensures.value
    ∙ ap (λ (t : SkewFilling). t.outer) c.in_ok-filled.ensures ∙ ap (λ (s : List ℕ × List ℕ). s.0)
    c.in_ok-straight_shape.ensures)
    ∙ length-shape c.args.rows.now in
    let within : c.from.result < length c.args.rows.now = omega (arith, c.from.ensures) in
    ap length c.deref.ensures.value
    ∙ row_count c.args.rows.now c.in_ok-filled.filled.rows c.loop-at.filled c.from.result
    c.loop-at.at c.index-rows-from.result within
    c.from.ensures c.index-rows-from.is c.loop-at.invariant

pub loop-at-preserved : goal.loop-at-preserved
loop-at-preserved c =
    let p = rows_in c.args.rows.now in
    let count : c.rows-at-end.result ≡ length c.args.rows.now =
    c.rows-at-end.ensures.value ∙ ap (λ (p : List ℕ). length p)
    (c.outer.ensures.value ∙ ap (λ (s : List ℕ × List ℕ). s.0) c.shape.ensures.value
    ∙ ap (λ (t : SkewFilling). t.outer) c.in_ok-filled.ensures ∙ ap (λ (s : List ℕ × List ℕ). s.0)
    c.in_ok-straight_shape.ensures)
    ∙ length-shape c.args.rows.now in
    let within : c.from.result < length c.args.rows.now = omega (arith, c.from.ensures) in
    let inside : c.loop-at.at < length p = omega (arith, length-rows_in c.args.rows.now) in
    let row = c.deref.ensures.value ∙ sym (row_now c.args.rows.now c.from.result
    c.index-rows-from.result within c.index-rows-from.is) in
    rows_more p c.in_ok-filled.filled.rows c.loop-at.filled c.put_row.new.filled c.loop-at.at
    c.deref.result.now inside
    (any_default p c.loop-at.at c.from.result [] c.deref.result.now inside c.from.ensures row)
    c.put_row.ensures c.loop-at.invariant

pub returns : goal.returns
returns c =
    let p = rows_in c.args.rows.now in
    let count : c.rows-at-end.result ≡ length c.args.rows.now =
    c.rows-at-end.ensures.value ∙ ap (λ (p : List ℕ). length p)
    (c.outer.ensures.value ∙ ap (λ (s : List ℕ × List ℕ). s.0) c.shape.ensures.value
    ∙ ap (λ (t : SkewFilling). t.outer) c.in_ok-filled.ensures ∙ ap (λ (s : List ℕ × List ℕ). s.0)
    c.in_ok-straight_shape.ensures)
    ∙ length-shape c.args.rows.now in
    let all : c.loop-at.at ≡ length p = omega (arith, length-rows_in c.args.rows.now) in
    c.in-Ok.ensures.ok ∙ rows_end p c.in_ok-filled.filled.rows c.loop-at.filled c.loop-at.at all
    c.loop-at.invariant

pub unreachable-requires : goal.unreachable-requires
unreachable-requires c =
    let p = rows_in c.args.rows.now in
    let count : c.rows-at-end.result ≡ length c.args.rows.now =
    c.rows-at-end.ensures.value ∙ ap (λ (p : List ℕ). length p)
    (c.outer.ensures.value ∙ ap (λ (s : List ℕ × List ℕ). s.0) c.shape.ensures.value
    ∙ ap (λ (t : SkewFilling). t.outer) c.in_ok-filled.ensures ∙ ap (λ (s : List ℕ × List ℕ). s.0)
    c.in_ok-straight_shape.ensures)
    ∙ length-shape c.args.rows.now in
    let all : c.loop-at.at ≡ length p = omega (arith, length-rows_in c.args.rows.now) in
    false≢true
    (c.in-Err.ensures.tableau.1
    (is_tableau_then p c.loop-at.filled c.requires.tableau (rows_end p c.in_ok-filled.filled.rows
    c.loop-at.filled c.loop-at.at all c.loop-at.invariant)))
