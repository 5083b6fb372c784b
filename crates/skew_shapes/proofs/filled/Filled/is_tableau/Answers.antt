use Rattle.std.proofs.Common.{◌≡◌, ◌+◌, length, ap, sym, ◌∙◌, arith, rules}
use Rattle.sym_model.specs.Tableau.{SkewFilling}
use Rattle.skew_shapes.specs.RowTests.{row_passes}
use Rattle.skew_shapes.proofs.KeptRows.{IsFilling-kept, length-filling_in}
use Rattle.skew_shapes.proofs.RowOrder.{tests-rows, every_after-more, every_after-fails}
use Rattle.skew_shapes.proofs.filled.Filled.is_tableau.Goals as goal

pub returns-then-not-row_passes-clause-value : goal.returns-then-not-row_passes-clause-value
returns-then-not-row_passes-clause-value c =
    let t = c.args.self.now in
    let place : 0 + c.loop-row.row + 1 ≡ c.loop-row.row + 1 = omega arith in
    let count : length c.args.self.now.rows ≡ c.rows-row-end.result =
    sym (ap (λ (s : SkewFilling). length s.rows) c.self.view_is)
    ∙ length-filling_in c.self.inside.shape c.self.inside.starts.items c.self.inside.numbers.items
    ∙ sym (c.rows-row-end.ensures.value ∙ ap length c.outer.ensures.value) in
    sym (tests-rows t.inner t.rows
    ∙ every_after-fails (row_passes t.inner t.rows) 0 (length t.rows) c.loop-row.row (omega arith)
    (ap (row_passes t.inner t.rows) place ∙ sym c.row_passes.ensures ∙ c.if-not-row_passes.true))

pub returns-then-not-row_passes-clause-filling : goal.returns-then-not-row_passes-clause-filling
returns-then-not-row_passes-clause-filling c = search (rules, IsFilling-kept)

pub loop-row-preserved : goal.loop-row-preserved
loop-row-preserved c = search (rules, every_after-more)

pub returns-clause-value : goal.returns-clause-value
returns-clause-value c = search (rules, length-filling_in, tests-rows)

pub returns-clause-filling : goal.returns-clause-filling
returns-clause-filling c = search (rules, IsFilling-kept)
