use Rattle.std.proofs.Common.{◌<◌, ◌≤◌, length, map, take, sym, ap, ◌∙◌, subst, arith, rules}
use Rattle.std.specs.Prelude.{string_bytes}
use Rattle.sym_model.specs.PrintedBlock.{decimal_value}
use Rattle.sym_model.specs.WordForms.{numbers}
use Rattle.perm_codes.specs.Limits.{IsShortPermutation}
use Rattle.calc_words.specs.LetterRules.{letter_kind}
use Rattle.calc_words.proofs.Judging.{number_at, counted}
use Rattle.calc_words.proofs.LetterJudging.{wide_letter, letter_first, letter_goes_on, letters_end}
use Rattle.calc_words.proofs.LetterJudging.{all_letters}
use Rattle.calc_words.proofs.WrittenLetters.{short_within}
use Rattle.calc_words.proofs.permutation_list.read_permutation.Goals as goal

pub returns-in_default : goal.returns-in_default
returns-in_default c =
    let ws = c.args.words.now in
    let ns = numbers (map string_bytes ws) in
    let i = c.loop-i.i in
    let e = number_at string_bytes decimal_value ws i c.index-words-i.result c.loop-i-test.true
    c.index-words-i.is in
    let h : i < length ns = let x = counted string_bytes decimal_value ws in omega (arith, x) in
    wide_letter c.args.most c.args.at ns i _ c.loop-i.letters
    c.loop-i.invariant h (e ∙ ap decimal_value (sym c.as_bytes.ensures.value))
    (sym c.value_of.ensures ∙ c.in_default.is) c.offence.result c.offence.ensures

pub returns-in-Some-letter_offence : goal.returns-in-Some-letter_offence
returns-in-Some-letter_offence c =
    let ws = c.args.words.now in
    let ns = numbers (map string_bytes ws) in
    let i = c.loop-i.i in
    let x = counted string_bytes decimal_value ws in
    let e = number_at string_bytes decimal_value ws i c.index-words-i.result c.loop-i-test.true
    c.index-words-i.is in
    let h : i < length ns = omega (arith, x) in
    letter_first c.args.most c.args.at ns i _ c.in-Some.value c.loop-i.letters
    c.loop-i.invariant h (e ∙ ap decimal_value (sym c.as_bytes.ensures.value))
    (sym c.in-Some.is ∙ c.value_of.ensures)
    c.in-Some-letter_offence.kind
    (sym c.in-Some-letter_offence.is ∙ c.letter_offence.ensures ∙ ap (λ n. letter_kind c.args.most n
    (take i c.loop-i.letters) c.in-Some.value) (sym x))
    c.offence-in-Some-letter_offence.result c.offence-in-Some-letter_offence.ensures

pub loop-i-preserved : goal.loop-i-preserved
loop-i-preserved c = search (rules, counted, number_at, letter_goes_on)

pub permutation_of-requires : goal.permutation_of-requires
permutation_of-requires c =
    let ws = c.args.words.now in
    let ns = numbers (map string_bytes ws) in
    let x = counted string_bytes decimal_value ws in
    let i = c.loop-i.i in
    let over : length ws ≤ i = c.loop-i-test.false in
    let most : i ≤ length ws = c.loop-i.auto.i-end in
    let some = c.requires.some in
    let j = c.loop-i.invariant in
    let letters = c.loop-i.letters in
    let first = letters_end c.args.most c.args.at ns i letters j (omega (arith, x, over)) in
    let all = all_letters c.args.most c.args.at ns i letters j (omega (arith, x, over))
    (omega (arith, x, most)) in
    subst IsShortPermutation (sym (ap (λ n. take n letters) (sym x) ∙ all))
    (short_within c.args.most c.args.at ns c.requires.most (omega (arith, x, some)) first).0
