use Rattle.std.proofs.Common.{map, sym, ap, ◌∙◌, subst, rules}
use Rattle.std.specs.Prelude.{string_bytes}
use Rattle.sym_model.specs.CommandOffence.{first_offence, offences_by, inside_rule, part_offences}
use Rattle.sym_model.specs.WordForms.{numbers}
use Rattle.word_laws.specs.JudgedRows.{earlier}
use Rattle.word_laws.proofs.EarlierOffences.{first_of_both}
use Rattle.calc_words.specs.Reading.{IsFirst}
use Rattle.calc_language.proofs.SkewTableaux.{inside_contains}
use Rattle.calc_language.proofs.CellJudging.{kind_refused}
use Rattle.calc_language.proofs.inner_partition.read_inner.Goals as goal

pub returns-in-Err-clause-judged : goal.returns-in-Err-clause-judged
returns-in-Err-clause-judged c =
    let ns = numbers (map string_bytes c.args.words.now) in
    let parts = part_offences c.args.at ns in
    let inside = offences_by (inside_rule c.args.outer.now) c.args.at ns in
    subst (λ o. IsFirst o c.earlier_refusal.result)
    (ap (earlier (first_offence parts)) c.outside_offence-outside.ensures
    ∙ sym (first_of_both parts inside))
    (c.earlier_refusal.ensures (first_offence parts) c.in-Err.ensures)

pub returns-in-Some-clause-judged : goal.returns-in-Some-clause-judged
returns-in-Some-clause-judged c = search (rules, kind_refused, first_of_both)

pub returns-in-None-clause-judged : goal.returns-in-None-clause-judged
returns-in-None-clause-judged c = search (rules, first_of_both)

pub returns-in-None-clause-inside : goal.returns-in-None-clause-inside
returns-in-None-clause-inside c = search (rules, inside_contains)
