use Rattle.std.proofs.Common.{◌≡◌, ◌+◌, ◌-◌, map, length, take, drop, get_or, ◌∷◌, sym, ap, ◌∙◌, rules}
use Rattle.std.proofs.Common.{arith, min}
use Rattle.std.specs.Prelude.{string_bytes}
use Rattle.std.proofs.lemmas.List.{length-map}
use Rattle.sym_model.specs.CommandOffence.{first_offence}
use Rattle.word_laws.specs.WrittenRows.{row_text, left_at}
use Rattle.calc_language.proofs.RowJudging.{rows_next, no_rows, room_next, row_width}
use Rattle.std.proofs.lemmas.Bool.{eqb-true, eqb-false}
use Rattle.calc_language.proofs.RowJudging.{left_last, rows_left, left_misses, left_fewer, left_on}
use Rattle.calc_language.proofs.RowJudging.{left_none}
use Rattle.calc_language.proofs.row_offences.left_shape.Goals as goal
use Rattle.sym_model.proofs.Parts.{split_first}

pub overflow_add-result : goal.overflow_add-result
overflow_add-result c =
    let rows = c.args.rows.now in
    let i = c.loop-i.i in
    let row = c.index-rows-i.result.now in
    let ws = map (λ r. map string_bytes r.now) rows in
    let rest = drop (i + 1) ws in
    let next = rows_next (λ r. map string_bytes r.now) rows i c.index-rows-i.result
    c.loop-i-test.true c.index-rows-i.is in
    let place = c.loop-i.place in
    let w = map string_bytes row in
    let room = room_next place (drop i ws) rest w next c.loop-i.invariant.1 in
    let l = length-map row string_bytes in
    let long = row_width w in
    let least = c.min.ensures in
    omega (arith, room, long, l, least)

pub returns-then-row-length : goal.returns-then-row-length
returns-then-row-length c = search (rules, rows_next, split_first, length-map, left_misses)

pub overflow_add-place : goal.overflow_add-place
overflow_add-place c =
    let rows = c.args.rows.now in
    let i = c.loop-i.i in
    let row = c.index-rows-i.result.now in
    let ws = map (λ r. map string_bytes r.now) rows in
    let rest = drop (i + 1) ws in
    let next = rows_next (λ r. map string_bytes r.now) rows i c.index-rows-i.result
    c.loop-i-test.true c.index-rows-i.is in
    let place = c.loop-i.place in
    let w = map string_bytes row in
    let room = room_next place (drop i ws) rest w next c.loop-i.invariant.1 in
    omega (arith, room, c.width-place.ensures)

pub returns-then-is_empty : goal.returns-then-is_empty
returns-then-is_empty c =
    search (rules, rows_next, split_first, length-map, eqb-true, rows_left, left_last, eqb-false)

pub returns-then-is_last_row : goal.returns-then-is_last_row
returns-then-is_last_row c =
    search (rules, rows_next, split_first, length-map, eqb-false, rows_left, left_fewer)

pub overflow_add-place-in-loop-i : goal.overflow_add-place-in-loop-i
overflow_add-place-in-loop-i c =
    let rows = c.args.rows.now in
    let i = c.loop-i.i in
    let row = c.index-rows-i.result.now in
    let ws = map (λ r. map string_bytes r.now) rows in
    let rest = drop (i + 1) ws in
    let next = rows_next (λ r. map string_bytes r.now) rows i c.index-rows-i.result
    c.loop-i-test.true c.index-rows-i.is in
    let place = c.loop-i.place in
    let w = map string_bytes row in
    let room = room_next place (drop i ws) rest w next c.loop-i.invariant.1 in
    omega (arith, room, c.width-place.ensures)

pub loop-i-preserved : goal.loop-i-preserved
loop-i-preserved c =
    let rows = c.args.rows.now in
    let i = c.loop-i.i in
    let row = c.index-rows-i.result.now in
    let ws = map (λ r. map string_bytes r.now) rows in
    let rest = drop (i + 1) ws in
    let next = rows_next (λ r. map string_bytes r.now) rows i c.index-rows-i.result
    c.loop-i-test.true c.index-rows-i.is in
    let place = c.loop-i.place in
    let w = map string_bytes row in
    let left = c.loop-i.left.now in
    let n = get_or left 0 0 in
    let later = take (length left - 1) (drop 1 left) in
    let cut = sym (split_first left c.in-len1-up.len_at_least) in
    let room = room_next place (drop i ws) rest w next c.loop-i.invariant.1 in
    let here = c.loop-i.invariant.0 ∙ ap (λ ds. first_offence (left_at place left ds)) next
    ∙ ap (λ ls. first_offence (left_at place ls (w ∷ rest))) cut in
    let l = length-map row string_bytes in
    let same = c.if-row-length.false in
    let some = eqb-false (length later) 0 (sym c.is_empty.ensures ∙ c.if-is_empty.false) in
    let more = rows_left (λ r. map string_bytes r.now) rows i in
    let wide = c.width-place.ensures in
    let last = c.if-is_last_row.false in
    let y = c.loop-i-test.true in (
      here
          ∙ ap first_offence (left_on place n later w rest (omega (arith, same, l))
          (omega (arith, some)) (omega (arith, last, more, y)))
          ∙ (let z : place + length (row_text w) + 1 ≡ place + c.width-place.result + 1 =
          omega (arith, wide) in ap (λ p. first_offence (left_at p later rest)) z),
      omega (arith, room, wide),
      omega (arith, some),
    )

pub returns : goal.returns
returns c = search (rules, no_rows, left_none)
