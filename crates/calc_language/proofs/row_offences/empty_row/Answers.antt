use Rattle.std.proofs.Common.{◌≡◌, ◌+◌, map, length, drop, sym, ap, ◌∙◌, arith, rules}
use Rattle.std.specs.Prelude.{string_bytes}
use Rattle.std.proofs.lemmas.List.{length-map}
use Rattle.sym_model.specs.CommandOffence.{first_offence}
use Rattle.word_laws.specs.WrittenRows.{row_text, rows_at}
use Rattle.calc_language.proofs.RowJudging.{rows_next, room_next}
use Rattle.calc_language.proofs.EmptyRows.{empties, two_rows, one_row, empty_first, empty_later}
use Rattle.calc_words.proofs.ReadingFacts.{no_more, some_more}
use Rattle.calc_language.proofs.row_offences.empty_row.Goals as goal

pub returns-then-rows-lt2 : goal.returns-then-rows-lt2
returns-then-rows-lt2 c = search (rules, length-map, one_row)

pub loop-row-init : goal.loop-row-init
loop-row-init c = search (rules, length-map, two_rows)

pub returns-then-is_empty : goal.returns-then-is_empty
returns-then-is_empty c = search (rules, rows_next, no_more, empties, empty_first)

pub overflow_add-place-in-loop-row : goal.overflow_add-place-in-loop-row
overflow_add-place-in-loop-row c =
    let rows = c.args.rows.now in
    let i = c.loop-row.row-index in
    let row = c.row-item.result.now in
    let ws = map (λ r. map string_bytes r.now) rows in
    let rest = drop (i + 1) ws in
    let next = rows_next (λ r. map string_bytes r.now) rows i c.row-item.result c.loop-row-test.true
    c.row-item.is in
    let place = c.loop-row.place in
    let room = room_next place (drop i ws) rest (map string_bytes row) next c.loop-row.invariant.1
    in
    omega (arith, room, c.width.ensures)

pub loop-row-preserved : goal.loop-row-preserved
loop-row-preserved c =
    let rows = c.args.rows.now in
    let i = c.loop-row.row-index in
    let row = c.row-item.result.now in
    let ws = map (λ r. map string_bytes r.now) rows in
    let rest = drop (i + 1) ws in
    let next = rows_next (λ r. map string_bytes r.now) rows i c.row-item.result c.loop-row-test.true
    c.row-item.is in
    let place = c.loop-row.place in
    let w = map string_bytes row in
    let room = room_next place (drop i ws) rest w next c.loop-row.invariant.1 in
    let wide = c.width.ensures in
    let here : place + length (row_text w) + 1 ≡ place + (c.width.result + 1) =
    omega (arith, wide) in
    let some = some_more string_bytes row (sym c.is_empty.ensures ∙ c.if-is_empty.false) in (
      c.loop-row.invariant.0
          ∙ ap (λ ds. first_offence (empties (rows_at place ds))) next
          ∙ ap first_offence (empty_later place w rest some)
          ∙ ap (λ p. first_offence (empties (rows_at p rest))) here,
      omega (arith, room, wide),
    )
