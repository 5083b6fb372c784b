use Rattle.std.proofs.Common.{map, sym, ap, ◌∙◌, arith, rules}
use Rattle.std.specs.Prelude.{string_bytes}
use Rattle.sym_model.specs.PrintedBlock.{decimal_value}
use Rattle.sym_model.specs.WordForms.{numbers}
use Rattle.calc_words.proofs.Judging.{number_at, counted}
use Rattle.calc_words.proofs.WordJudging.{wide_in_word, past_in_word, word_goes_on}
use Rattle.calc_words.proofs.letters.read_letters.Goals as goal

pub returns-in_default : goal.returns-in_default
returns-in_default c =
    let ws = c.args.words.now in
    let ns = numbers (map string_bytes ws) in
    let i = c.loop-i.i in
    let x = counted string_bytes decimal_value ws in
    let e = number_at string_bytes decimal_value ws i c.index-words-i.result c.loop-i-test.true
    c.index-words-i.is in
    wide_in_word c.args.at ns i _ c.loop-i.letters
    c.loop-i.invariant (omega (arith, x)) (e ∙ ap decimal_value (sym c.as_bytes.ensures.value))
    (sym c.value_of.ensures ∙ c.in_default.is) c.offence.result c.offence.ensures

pub returns-then-is_past : goal.returns-then-is_past
returns-then-is_past c =
    let ws = c.args.words.now in
    let ns = numbers (map string_bytes ws) in
    let i = c.loop-i.i in
    let x = counted string_bytes decimal_value ws in
    let e = number_at string_bytes decimal_value ws i c.index-words-i.result c.loop-i-test.true
    c.index-words-i.is in
    past_in_word c.args.at ns i _ c.in-Some.value c.loop-i.letters
    c.loop-i.invariant (omega (arith, x)) (e ∙ ap decimal_value (sym c.as_bytes.ensures.value))
    (sym c.in-Some.is ∙ c.value_of.ensures)
    (sym c.is_past.ensures ∙ c.if-is_past.true) c.offence-then-is_past.result
    c.offence-then-is_past.ensures

pub loop-i-preserved : goal.loop-i-preserved
loop-i-preserved c = search (rules, counted, number_at, word_goes_on)
