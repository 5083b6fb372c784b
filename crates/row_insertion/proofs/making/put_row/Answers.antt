use Rattle.std.proofs.Common.{◌≡◌, ◌<◌, ◌≤◌, ℕ, List, length, get_or, ◌∙◌, ap, sym, refl, arith}
use Rattle.std.proofs.lemmas.List.{length-map}
use Rattle.sym_model.specs.Partition.{part}
use Rattle.row_insertion.proofs.Overwriting.{writing_more, row_length, any_default}
use Rattle.row_insertion.proofs.making.put_row.Goals as goal

pub loop-at-preserved : goal.loop-at-preserved
loop-at-preserved c =
    let old = c.args.filled.now in
    let numbers = c.args.numbers.now in
    let count : c.part-at-end.result ≡ length numbers =
    c.part-at-end.ensures.value ∙ ap (λ p. part p c.args.row)
    (c.outer.ensures.value ∙ ap (λ (s : List ℕ × List ℕ). s.0) c.shape.ensures.value)
    ∙ sym c.requires.all in
    let within : c.loop-at.at < length numbers = omega arith in
    let rows : length old.rows ≡ length old.outer = sym (length-map old.rows length)
    ∙ ap (λ (l : List ℕ). length l) c.requires.shape in
    let few : c.args.row ≤ length old.rows = omega (arith, c.requires.row) in
    let x = get_or numbers c.from.result 0 in
    writing_more old c.loop-at.filled c.set.new.self c.args.row numbers c.loop-at.at x
    c.requires.straight c.requires.row.0 few within
    (row_length old c.args.row numbers c.requires.shape c.requires.all)
    (any_default numbers c.loop-at.at c.from.result 0 x within (omega arith) refl)
    c.loop-at.invariant c.set.ensures
