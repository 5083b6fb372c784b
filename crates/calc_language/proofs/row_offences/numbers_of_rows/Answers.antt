use Rattle.std.proofs.Common.{ℕ, ◌+◌, [], ◌∷◌, length, map, ap, ◌∙◌, arith}
use Rattle.std.specs.Prelude.{string_bytes}
use Rattle.std.proofs.lemmas.List.{length-map, map-append}
use Rattle.std.proofs.lemmas.Result.{err_from_is_err_and}
use Rattle.calc_language.specs.FoundOffences.{last_row}
use Rattle.calc_language.proofs.RowJudging.{numbers_fit}
use Rattle.calc_language.proofs.RowJudging.{few_fit, rows_fail, rows_go_on, rows_end, row_room}
use Rattle.calc_language.proofs.row_offences.numbers_of_rows.Goals as goal

pub read_row-requires-clause-room : goal.read_row-requires-clause-room
read_row-requires-clause-room c =
    let l = length-map c.index-rows-i.result.now string_bytes in
    let z = row_room (λ r. map string_bytes r.now) _ c.args.inner.now c.args.rows.now c.loop-i.i _
    c.loop-i.place c.loop-i.bounds c.loop-i.columns.here c.loop-i.taken c.index-rows-i.result
    c.loop-i.invariant c.loop-i-test.true c.index-rows-i.is in
    omega (arith, l, z.1)

pub returns-in_err-numbers : goal.returns-in_err-numbers
returns-in_err-numbers c =
    let above = c.last_of-above.ensures ∙ ap (λ xs. last_row (map (λ r. r.items) xs))
    c.as_slice.ensures.value in
    let p = err_from_is_err_and c.from_residual.result c.from_residual.ensures.1 in
    rw (p.1, p.2)
    (rows_fail (λ r. map string_bytes r.now) _ c.args.inner.now c.args.rows.now c.loop-i.i
    (map (λ r. r.items) c.loop-i.read.items) c.loop-i.place c.loop-i.bounds c.loop-i.columns.here
    c.loop-i.taken c.index-rows-i.result c.last_of-above.result.now c.part_at.result _ c.loop-i.invariant
    c.loop-i-test.true c.index-rows-i.is above c.part_at.ensures.value
    c.in_err-numbers.ensures.judged)

pub overflow_add-place-in-loop-i : goal.overflow_add-place-in-loop-i
overflow_add-place-in-loop-i c =
    let z = row_room (λ r. map string_bytes r.now) _ c.args.inner.now c.args.rows.now c.loop-i.i _
    c.loop-i.place c.loop-i.bounds c.loop-i.columns.here c.loop-i.taken c.index-rows-i.result
    c.loop-i.invariant c.loop-i-test.true c.index-rows-i.is in
    omega (arith, z.0, c.width.ensures)

pub bounds_after-bounds-requires : goal.bounds_after-bounds-requires
bounds_after-bounds-requires c =
    let z = row_room (λ r. map string_bytes r.now) _ c.args.inner.now c.args.rows.now c.loop-i.i _
    c.loop-i.place c.loop-i.bounds c.loop-i.columns.here c.loop-i.taken c.index-rows-i.result
    c.loop-i.invariant c.loop-i-test.true c.index-rows-i.is in
    let same = ap (length {A = ℕ}) (c.as_slice-in-loop-i.ensures.value
    ∙ c.in_ok-numbers.ensures.judged.0) in
    few_fit c.loop-i.bounds.counted c.as_slice-in-loop-i.result.now c.loop-i.place
    c.loop-i.invariant.few (let y = numbers_fit (map string_bytes c.index-rows-i.result.now) in
    omega (arith, y, z.0, same))

pub loop-i-preserved : goal.loop-i-preserved
loop-i-preserved c =
    let above = c.last_of-above.ensures ∙ ap (λ xs. last_row (map (λ r. r.items) xs))
    c.as_slice.ensures.value in
    let read = map (λ r. r.items) c.loop-i.read.items in
    let v = c.in_ok-numbers.numbers.items in
    let same = c.as_slice-in-loop-i.ensures.value in
    let all = ap (map (λ r. r.items)) c.in_ok-push.ensures.items
    ∙ map-append (λ r. r.items) c.loop-i.read.items (c.in_ok-numbers.numbers ∷ []) in
    let next = rows_go_on (λ r. map string_bytes r.now) _ c.args.inner.now c.args.rows.now c.loop-i.i
    read c.loop-i.place c.loop-i.bounds c.loop-i.columns.here c.loop-i.taken c.index-rows-i.result
    c.last_of-above.result.now c.part_at.result v (c.loop-i.place + (c.width.result + 1))
    c.loop-i.invariant c.loop-i-test.true c.index-rows-i.is above c.part_at.ensures.value
    c.in_ok-numbers.ensures.judged.0 c.in_ok-numbers.ensures.judged.1
    (let w = c.width.ensures in omega (arith, w)) in
    rw (all, c.bounds_after-bounds.ensures, same, c.in_ok-numbers.ensures.taken) next

pub returns : goal.returns
returns c =
    rows_end (λ r. map string_bytes r.now) _ c.args.inner.now c.args.rows.now c.loop-i.i
    (map (λ r. r.items) c.loop-i.read.items) c.loop-i.place c.loop-i.bounds c.loop-i.columns.here
    c.loop-i.taken c.loop-i.invariant c.loop-i-test.false
