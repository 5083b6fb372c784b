use Rattle.std.proofs.Common.{map, []}
use Rattle.std.specs.Prelude.{string_bytes}
use Rattle.sym_model.specs.CommandOffence.{first_offence}
use Rattle.word_laws.specs.WrittenRows.{rows_at}
use Rattle.calc_language.specs.FoundOffences.{judged}
use Rattle.calc_language.proofs.RowJudging.{RowsTo}
use Rattle.calc_language.proofs.row_offences.numbers_of_rows.Given as goal

abbrev pub invariant-loop-i : goal.invariant-loop-i
invariant-loop-i l =
    RowsTo (λ r. map string_bytes r.now) (first_offence (judged l.fn.first.is_straight l.fn.first.counted l.fn.first.most 0 [] l.inner l.initial.taken
    (rows_at l.at (map (λ r. map string_bytes r.now) l.rows)))) l.inner l.rows l.i (map (λ r. r.items) l.read.items) l.place l.bounds l.columns.here l.taken
