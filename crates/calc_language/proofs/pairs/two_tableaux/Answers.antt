use Rattle.std.proofs.Common.{map, refl, ◌∙◌}
use Rattle.std.specs.Prelude.{string_bytes}
use Rattle.std.proofs.lemmas.Result.{err_from_is_err_and}
use Rattle.sym_model.specs.Grammar.{unrsk_entry}
use Rattle.word_laws.specs.WrittenRows.{written_rows}
use Rattle.calc_language.proofs.CutTableaux.{rows_spelled, rows_numbers, some_row, pair_cut}
use Rattle.calc_language.proofs.pairs.two_tableaux.Goals as goal

pub returns-in_err-places-clause-wrong : goal.returns-in_err-places-clause-wrong
returns-in_err-places-clause-wrong c =
    let p = err_from_is_err_and c.from_residual.result c.from_residual.ensures.1 in
    rw (p.1, p.2) (c.in_err-places.ensures.wrong unrsk_entry refl)

pub returns-clause-ok : goal.returns-clause-ok
returns-clause-ok c =
    let k = c.in_ok-places.ensures.cut in
    let x = k.parts.0 in
    let y = k.parts.3.3.0 in
    pair_cut (map string_bytes c.args.words.now) c.in_ok-places.places k _ _
    (c.in_ok-first.ensures (written_rows x) (some_row x) (rows_numbers x k.parts.1)
    ((c.piece_at-insertion.ensures.is _ _ k.parts.2).1 ∙ rows_spelled x))
    (c.in_ok-second.ensures (written_rows y) (some_row y) (rows_numbers y k.parts.3.3.1)
    ((c.piece_at-recording.ensures.is _ _ k.parts.3.3.2).1 ∙ rows_spelled y))
