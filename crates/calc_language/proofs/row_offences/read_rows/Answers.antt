use Rattle.std.proofs.Common.{map, []}
use Rattle.std.specs.Prelude.{string_bytes}
use Rattle.sym_model.specs.CommandOffence.{first_offence}
use Rattle.word_laws.specs.WrittenRows.{rows_at}
use Rattle.calc_language.specs.FoundOffences.{judged}
use Rattle.calc_language.proofs.row_offences.read_rows.Goals as goal

pub returns-in-Err : goal.returns-in-Err
returns-in-Err c =
    let t = c.args in
    c.earlier_refusal.ensures (first_offence (judged t.first.is_straight t.first.counted t.first.most
    0 [] t.inner.now t.taken.now (rows_at t.at (map (λ r. map string_bytes r.now) t.rows.now))))
    c.in-Err.ensures
