use Rattle.std.proofs.Common.{◌≡◌, ◌-◌, ℕ, suc, ◌+◌, List, Vec, ◌∙◌, ap, subst, arith}
use Rattle.std.specs.declared.alloc.Global.{Global}
use Rattle.std.proofs.lemmas.Result.{IfOk-weaker}
use Rattle.sym_model.specs.Partition.{size}
use Rattle.sym_model.specs.Schur.{row_lengths}
use Rattle.sym_model.specs.Tableau.{SkewFilling}
use Rattle.insertion_laws.specs.Removal.{row_ending}
use Rattle.row_insertion.specs.RowLists.{rows_in}
use Rattle.row_insertion.specs.Pairs.{IsTheWordOf}
use Rattle.row_insertion.proofs.GrowingRows.{length-rows_in}
use Rattle.row_insertion.proofs.WordRuns.{given_pair, unwinding_given, unwinding_row}
use Rattle.row_insertion.proofs.WordRuns.{unwinding_more, unwinding_ends}
use Rattle.row_insertion.proofs.inverse.word_of_pair.Goals as goal

pub loop-step-init : goal.loop-step-init
loop-step-init c =
    let p = c.args.p.now in
    let q = c.args.q.now in
    let ps = rows_in c.in_ok-insertion.insertion.items in
    let qs = rows_in c.in_ok-recording.recording.items in
    let tableau = c.tableau.ensures.value in
    let rows = c.in_ok-recording.ensures.rows ∙ ap (λ (t : SkewFilling). t.rows) tableau in
    let lengths = c.in_ok-recording.ensures.lengths ∙ ap (λ (t : SkewFilling).
    row_lengths t.outer t.inner) tableau in
    let cells = subst (λ (s : List ℕ × List ℕ). c.cells-step.result + size s.1 ≡ size s.0)
    c.shape.ensures.value c.cells-step.ensures.sizes in
    unwinding_given p q c.cells-step.result ps qs c.new-letters.result.items
    (given_pair p q c.cells-step.result ps qs c.shape.ensures.tableau c.tableau.ensures.standard.1
    c.requires.one_shape cells
    c.in_ok-insertion.ensures.rows c.in_ok-insertion.ensures.lengths rows lengths)
    c.in_ok-insertion.ensures.rows rows c.new-letters.ensures.items

pub take_last-requires : goal.take_last-requires
take_last-requires c =
    let row = c.row_ending-row.ensures
    ∙ ap (λ (l : List (Vec ℕ Global)). row_ending c.loop-step.step (rows_in l))
    c.deref.ensures.value in
    let within = unwinding_row c.args.p.now.rows c.args.q.now.rows c.cells-step.result
    c.loop-step.step (rows_in c.loop-step.insertion.items)
    (rows_in c.loop-step.recording.items) c.loop-step.letters.items c.loop-step.invariant
    c.loop-step-test.true in
    omega (arith, row, within.0, length-rows_in c.loop-step.recording.items)

pub take_out-requires-clause-row : goal.take_out-requires-clause-row
take_out-requires-clause-row c =
    let row = c.row_ending-row.ensures
    ∙ ap (λ (l : List (Vec ℕ Global)). row_ending c.loop-step.step (rows_in l))
    c.deref.ensures.value in
    let within = unwinding_row c.args.p.now.rows c.args.q.now.rows c.cells-step.result
    c.loop-step.step (rows_in c.loop-step.insertion.items)
    (rows_in c.loop-step.recording.items) c.loop-step.letters.items c.loop-step.invariant
    c.loop-step-test.true in
    omega (arith, row, within.1, length-rows_in c.loop-step.insertion.items)

pub loop-step-preserved : goal.loop-step-preserved
loop-step-preserved c =
    let row = c.row_ending-row.ensures
    ∙ ap (λ (l : List (Vec ℕ Global)). row_ending c.loop-step.step (rows_in l))
    c.deref.ensures.value in
    let left : c.loop-step.step ≡ suc (c.loop-step.step - 1) = omega arith in
    unwinding_more c.args.p.now.rows c.args.q.now.rows c.cells-step.result c.loop-step.step
    (c.loop-step.step - 1) c.row_ending-row.result
    c.take_out.result (rows_in c.loop-step.insertion.items) (rows_in c.loop-step.recording.items)
    (rows_in c.take_out.new.rows.items)
    (rows_in c.take_last.new.rows.items) c.loop-step.letters.items c.push.new.self.items left row
    c.take_last.ensures.rows c.take_out.ensures
    c.in_ok-push.ensures.items c.loop-step.invariant

pub returns : goal.returns
returns c =
    let done : c.loop-step.step ≡ 0 = omega arith in
    let letters = c.deref-2.ensures.value ∙ c.reverse.ensures.items in
    IfOk-weaker c.from_slice.result (λ word. word ≡ c.deref-2.result.now)
    (λ word. IsTheWordOf word c.args.p.now.rows c.args.q.now.rows)
    (λ word e.
    unwinding_ends c.args.p.now.rows c.args.q.now.rows c.cells-step.result c.loop-step.step
    (rows_in c.loop-step.insertion.items)
    (rows_in c.loop-step.recording.items) c.loop-step.letters.items word done (e ∙ letters)
    c.loop-step.invariant)
    c.from_slice.ensures
