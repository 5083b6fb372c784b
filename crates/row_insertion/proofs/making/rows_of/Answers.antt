use Rattle.std.proofs.Common.{◌≡◌, ◌<◌, ℕ, List, length, ◌∙◌, ap, sym, arith}
use Rattle.std.proofs.lemmas.List.{take_all}
use Rattle.sym_model.specs.Tableau.{shape_of}
use Rattle.skew_shapes.proofs.StandardNumbers.{rows-tableau}
use Rattle.row_insertion.proofs.MadeTableaux.{row_copied}
use Rattle.row_insertion.proofs.making.rows_of.Goals as goal

pub loop-at-preserved : goal.loop-at-preserved
loop-at-preserved c =
    let t = c.args.t.now in
    let count : c.rows-at-end.result ≡ length t.rows =
    c.rows-at-end.ensures.value ∙ ap (λ (p : List ℕ). length p)
    (c.outer.ensures.value ∙ ap (λ (s : List ℕ × List ℕ). s.0) c.shape.ensures.value)
    ∙ sym (rows-tableau t c.shape.ensures.tableau) in
    let within : c.loop-at.at < length t.rows = omega arith in
    row_copied c.loop-at.list.items c.push.new.self.items c.in_ok-from_slice.field-0 t.rows
    c.loop-at.at within c.loop-at.invariant
    c.in_ok-push.ensures.items (c.in_ok-from_slice.ensures.items ∙ c.row.ensures)

pub returns-clause-rows : goal.returns-clause-rows
returns-clause-rows c =
    let t = c.args.t.now in
    let count : c.rows-at-end.result ≡ length t.rows =
    c.rows-at-end.ensures.value ∙ ap (λ (p : List ℕ). length p)
    (c.outer.ensures.value ∙ ap (λ (s : List ℕ × List ℕ). s.0) c.shape.ensures.value)
    ∙ sym (rows-tableau t c.shape.ensures.tableau) in
    c.loop-at.invariant ∙ take_all c.loop-at.at t.rows (omega arith)

pub returns-clause-lengths : goal.returns-clause-lengths
returns-clause-lengths c =
    let t = c.args.t.now in
    let count : c.rows-at-end.result ≡ length t.rows =
    c.rows-at-end.ensures.value ∙ ap (λ (p : List ℕ). length p)
    (c.outer.ensures.value ∙ ap (λ (s : List ℕ × List ℕ). s.0) c.shape.ensures.value)
    ∙ sym (rows-tableau t c.shape.ensures.tableau) in
    ap shape_of (c.loop-at.invariant ∙ take_all c.loop-at.at t.rows (omega arith))
    ∙ c.shape.ensures.tableau.tableau.cells
