use Rattle.std.proofs.Common.{◌<◌, [], length, map, sym, ap, ◌∙◌, subst, arith, false, None, rules}
use Rattle.std.specs.Prelude.{string_bytes}
use Rattle.std.proofs.lemmas.List.{length-map}
use Rattle.std.proofs.lemmas.Result.{err_from_is_err_and}
use Rattle.sym_model.specs.CommandOffence.{first_offence, rows_in}
use Rattle.sym_model.specs.WordForms.{numbers}
use Rattle.word_laws.specs.WrittenRows.{rows_at, left_at}
use Rattle.word_laws.specs.JudgedRows.{earlier}
use Rattle.calc_language.specs.AskedLengths.{asked_lengths}
use Rattle.calc_language.specs.FoundOffences.{judged}
use Rattle.sym_model.specs.Tableau.{IsTableau}
use Rattle.calc_language.proofs.OnceJudged.{skewed_judged}
use Rattle.calc_language.proofs.SkewTableaux.{skew_tableau}
use Rattle.calc_language.proofs.SkewJudging.{rows_first_offence}
use Rattle.calc_language.proofs.skew_tableaux.judge_rows.Goals as goal
use Rattle.std.proofs.lemmas.Simd.{map-map}

pub returns-in_err-read-clause-judged : goal.returns-in_err-read-clause-judged
returns-in_err-read-clause-judged c =
    search (rules, length-map, rows_first_offence, skewed_judged, err_from_is_err_and)

pub returns-clause-judged : goal.returns-clause-judged
returns-clause-judged c = search (rules, length-map, rows_first_offence, skewed_judged)

pub returns-clause-tableau : goal.returns-clause-tableau
returns-clause-tableau c =
    let ws = map (λ r. map string_bytes r.now) c.args.rows.now in
    let at = c.args.at in
    let l = length-map c.args.rows.now (λ r. map string_bytes r.now) in
    let some : 0 < length ws = omega (arith, l, c.requires.some.0) in
    let lengths = c.as_slice.ensures.value ∙ c.in_ok-lengths.ensures
    ∙ ap (λ o. asked_lengths o c.parts-2.result.now) c.parts.ensures.value
    ∙ ap (asked_lengths c.args.outer.now) c.parts-2.ensures.value in
    let all =
    rows_first_offence at c.args.outer.now c.args.inner.now ws some c.requires.some.1
    ∙ ap (λ os. earlier (first_offence os)
    (first_offence (left_at at (asked_lengths c.args.outer.now c.args.inner.now) ws)))
    (sym (skewed_judged 0 [] c.args.inner.now (rows_at at ws)))
    ∙ ap (λ xs. earlier (first_offence (judged false None None 0 [] xs [] (rows_at at ws)))
    (first_offence (left_at at (asked_lengths c.args.outer.now c.args.inner.now) ws)))
    (sym c.parts-3.ensures.value)
    ∙ ap (earlier (first_offence (judged false None None 0 [] c.parts-3.result.now []
    (rows_at at ws)))) (ap (λ xs. first_offence (left_at at xs ws)) (sym lengths)
    ∙ sym c.left_shape-left.ensures) in
    subst (IsTableau c.args.outer.now c.args.inner.now)
    (sym
    (c.rows_of_shape.ensures ∙ ap (λ o. rows_in o (map (λ r. r.items) c.in_ok-read.read.items))
    c.parts-4.ensures.value
    ∙ ap (rows_in c.args.outer.now) (c.in_ok-read.ensures.0 ∙ sym (map-map numbers (λ r. map string_bytes r.now) c.args.rows.now))))
    (skew_tableau at c.args.outer.now c.args.inner.now ws c.parts.ensures.limits.partition
    c.parts-2.ensures.limits.partition c.requires.holds some c.requires.some.1
    (all ∙ c.in_ok-read.ensures.1))
