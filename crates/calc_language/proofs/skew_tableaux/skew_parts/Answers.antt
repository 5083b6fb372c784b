use Rattle.std.proofs.Common.{map, refl, ◌∙◌}
use Rattle.std.specs.Prelude.{string_bytes}
use Rattle.std.proofs.lemmas.Result.{err_from_is_err_and}
use Rattle.sym_model.specs.Grammar.{rect_entry}
use Rattle.word_laws.specs.WrittenRows.{written_rows}
use Rattle.calc_language.proofs.CutTableaux.{rows_spelled, rows_numbers, some_row, skew_cut}
use Rattle.calc_language.proofs.skew_tableaux.skew_parts.Goals as goal

pub returns-in_err-places-clause-wrong : goal.returns-in_err-places-clause-wrong
returns-in_err-places-clause-wrong c =
    let p = err_from_is_err_and c.from_residual.result c.from_residual.ensures.1 in
    rw (p.1, p.2) (c.in_err-places.ensures.wrong rect_entry refl)

pub returns-clause-ok : goal.returns-clause-ok
returns-clause-ok c =
    let k = c.in_ok-places.ensures.cut in
    let x = k.parts.3.3.3.3.0 in
    skew_cut (map string_bytes c.args.words.now) c.in_ok-places.places k _ _ _
    (c.piece_at-outer.ensures.is _ _ k.parts.2).1
    (c.piece_at-inner.ensures.is _ _ k.parts.3.3.2).1
    (c.in_ok-rows.ensures (written_rows x) (some_row x) (rows_numbers x k.parts.3.3.3.3.1)
    ((c.piece_at-tableau.ensures.is _ _ k.parts.3.3.3.3.2).1 ∙ rows_spelled x))
