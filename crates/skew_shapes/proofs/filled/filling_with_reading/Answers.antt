use Rattle.std.proofs.Common.{◌≡◌, length, ap, ◌∙◌, arith, rules}
use Rattle.partitions.proofs.Steps.{all_written}
use Rattle.skew_shapes.specs.Rows.{filling_in}
use Rattle.skew_shapes.proofs.FilledReadings.{filled, moved}
use Rattle.skew_shapes.proofs.filled.filling_with_reading.Goals as goal

pub invariant_of-result : goal.invariant_of-result
invariant_of-result c = search (rules, all_written)

pub returns : goal.returns
returns c =
    let starts = c.in_ok-starts.starts.items in
    let numbers = c.put_columns.new.numbers in
    let whole : length c.put_columns.new.numbers ≡ c.in_ok-numbers.numbers.len =
    omega (arith, c.deref_mut.ensures.len) in
    let written = all_written c.in_ok-numbers.numbers.len numbers c.in_ok-numbers.numbers.items
    whole in
    ap (λ xs. filling_in c.args.shape starts xs) written
    ∙ filled c.args.shape starts numbers c.args.reading.now
    (moved _ starts numbers _ c.args.shape.0 _ c.args.shape.1 c.args.reading.now
    c.put_columns.ensures c.deref.ensures.value
    (c.parts-2.ensures.value ∙ c.outer-3.ensures.value)
    (c.parts-3.ensures.value ∙ c.inner.ensures.value))
