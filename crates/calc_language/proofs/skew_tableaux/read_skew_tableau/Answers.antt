use Rattle.std.proofs.Common.{map, rules}
use Rattle.std.specs.Prelude.{string_bytes}
use Rattle.std.proofs.lemmas.List.{length-map}
use Rattle.std.proofs.lemmas.Result.{err_from_is_err_and}
use Rattle.sym_model.specs.CommandOffence.{first_offence, part_offences}
use Rattle.sym_model.specs.WordForms.{numbers}
use Rattle.calc_words.proofs.Commands.{judged_on}
use Rattle.calc_language.specs.SkewTotals.{all_skew_offences}
use Rattle.calc_language.proofs.SkewJudging.{outer_first, inner_first, neither_first, inner_alone}
use Rattle.calc_language.proofs.skew_tableaux.read_skew_tableau.Goals as goal

pub returns-in_err-outer_shape : goal.returns-in_err-outer_shape
returns-in_err-outer_shape c =
    let outer = map string_bytes c.args.outer.now in
    let inner = map string_bytes c.args.inner.now in
    let rows = map (λ r. map string_bytes r.now) c.args.rows.now in
    let p = err_from_is_err_and c.from_residual.result c.from_residual.ensures.1 in
    rw (p.1, p.2)
    (judged_on (first_offence (part_offences 1 (numbers outer)))
    (first_offence (all_skew_offences outer inner rows)) _ (outer_first outer inner rows)
    c.in_err-outer_shape.ensures)

pub returns-in_err-inner_shape : goal.returns-in_err-inner_shape
returns-in_err-inner_shape c =
    search (rules, length-map, err_from_is_err_and, judged_on, inner_alone, inner_first)

pub returns-in_err-read : goal.returns-in_err-read
returns-in_err-read c = search (rules, length-map, inner_alone, neither_first, err_from_is_err_and)

pub returns : goal.returns
returns c = search (rules, length-map, inner_alone, neither_first)
