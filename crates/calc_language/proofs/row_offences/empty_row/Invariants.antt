use Rattle.std.proofs.Common.{◌≡◌, ◌+◌, ◌<◌, ◌^◌, map, length, drop}
use Rattle.std.specs.Prelude.{string_bytes}
use Rattle.sym_model.specs.CommandOffence.{first_offence, empty_row_offences}
use Rattle.word_laws.specs.WrittenRows.{further_text, rows_at}
use Rattle.calc_language.proofs.EmptyRows.{empties}
use Rattle.calc_language.proofs.row_offences.empty_row.Given as goal

abbrev pub invariant-loop-row : goal.invariant-loop-row
invariant-loop-row l =
    (first_offence (empty_row_offences (rows_at l.at (map (λ r. map string_bytes r.now) l.rows)))
    ≡ first_offence (empties (rows_at l.place (drop l.row-index (map (λ r. map string_bytes r.now) l.rows)))))
    × (l.place + length (further_text (drop l.row-index (map (λ r. map string_bytes r.now) l.rows))) < 2 ^ 64)
