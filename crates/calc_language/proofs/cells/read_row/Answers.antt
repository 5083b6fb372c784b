use Rattle.std.proofs.Common.{◌+◌, ◌++◌, [], ◌∷◌, map, sym, ap, ◌∙◌, subst, arith}
use Rattle.std.specs.Prelude.{string_bytes}
use Rattle.sym_model.specs.PrintedBlock.{decimal_value}
use Rattle.sym_model.specs.WordForms.{numbers}
use Rattle.calc_language.specs.FoundOffences.{entry_or}
use Rattle.calc_words.proofs.Judging.{number_at, counted}
use Rattle.calc_language.proofs.CellJudging.{ReadTo, next_kind, row_refused, row_goes_on}
use Rattle.calc_language.proofs.cells.read_row.Goals as goal

pub returns-in-Err-clause-judged : goal.returns-in-Err-clause-judged
returns-in-Err-clause-judged c =
    let t = c.args in
    let ws = t.words.now in
    let i = c.loop-i.i in
    let x = counted string_bytes decimal_value ws in
    let e = number_at string_bytes decimal_value ws i c.index-words-i.result c.loop-i-test.true
    c.index-words-i.is in
    let a = decimal_value c.as_bytes.result.now in
    let read = c.entry_of.ensures a c.value_of-number.ensures
    ∙ ap (λ r. entry_or a (next_kind t.bounds.counted t.bounds.most t.columns.above t.above.now
    t.columns.here r c.loop-i.taken a)) c.as_slice.ensures.value in
    row_refused t.bounds.counted t.bounds.most t.columns.above t.above.now t.columns.here
    t.taken.now t.at (numbers (map string_bytes ws)) i c.loop-i.row.items c.loop-i.taken a
    c.in-Err.kind c.offence.result c.loop-i.invariant (omega (arith, x, c.loop-i-test.true))
    (e ∙ ap decimal_value (sym c.as_bytes.ensures.value)) (sym c.in-Err.is ∙ read) c.offence.ensures

pub loop-i-preserved : goal.loop-i-preserved
loop-i-preserved c =
    let t = c.args in
    let ws = t.words.now in
    let ns = numbers (map string_bytes ws) in
    let i = c.loop-i.i in
    let x = counted string_bytes decimal_value ws in
    let e = number_at string_bytes decimal_value ws i c.index-words-i.result c.loop-i-test.true
    c.index-words-i.is in
    let a = decimal_value c.as_bytes.result.now in
    let v = c.in-Ok.entry in
    let read = c.entry_of.ensures a c.value_of-number.ensures
    ∙ ap (λ r. entry_or a (next_kind t.bounds.counted t.bounds.most t.columns.above t.above.now
    t.columns.here r c.loop-i.taken a)) c.as_slice.ensures.value in
    subst (λ r. ReadTo t.bounds.counted t.bounds.most t.columns.above t.above.now t.columns.here
    t.taken.now t.at ns (i + 1) r c.take.new.taken) (sym c.in_ok-push.ensures.items)
    (subst (λ f. ReadTo t.bounds.counted t.bounds.most t.columns.above t.above.now t.columns.here
    t.taken.now t.at ns (i + 1) (c.loop-i.row.items ++ v ∷ []) f) (sym c.take.ensures)
    (row_goes_on t.bounds.counted t.bounds.most t.columns.above t.above.now t.columns.here
    t.taken.now t.at ns i c.loop-i.row.items c.loop-i.taken a v c.loop-i.invariant
    (omega (arith, x, c.loop-i-test.true)) (e ∙ ap decimal_value (sym c.as_bytes.ensures.value))
    (sym c.in-Ok.is ∙ read)))
