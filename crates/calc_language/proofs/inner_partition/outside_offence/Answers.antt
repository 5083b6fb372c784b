use Rattle.std.proofs.Common.{◌+◌, ◌<◌, nat_lt, true, false, map, length, sym, ap, ◌∙◌, arith}
use Rattle.std.specs.Prelude.{string_bytes}
use Rattle.sym_model.specs.Partition.{part}
use Rattle.sym_model.specs.PrintedBlock.{decimal_value}
use Rattle.sym_model.specs.WordForms.{numbers}
use Rattle.calc_words.proofs.Judging.{number_at, counted}
use Rattle.calc_language.proofs.InsideJudging.{inside_next}
use Rattle.calc_language.proofs.inner_partition.outside_offence.Goals as goal

pub returns-then-exceeds : goal.returns-then-exceeds
returns-then-exceeds c =
    let words = c.args.words.now in
    let ns = numbers (map string_bytes words) in
    let i = c.loop-place.place in
    let k = counted string_bytes decimal_value words in
    let l : i < length ns = omega (arith, k, c.loop-place-test.true) in
    let e = ap (nat_lt (part c.args.outer.now (i + 1))) (number_at string_bytes decimal_value words
    i c.index-words-place.result c.loop-place-test.true c.index-words-place.is) in
    sym (c.loop-place.invariant ∙ inside_next c.args.outer.now c.args.at ns i true l
    (e ∙ sym c.exceeds.ensures ∙ c.if-exceeds.true))

pub loop-place-preserved : goal.loop-place-preserved
loop-place-preserved c =
    let words = c.args.words.now in
    let ns = numbers (map string_bytes words) in
    let i = c.loop-place.place in
    let k = counted string_bytes decimal_value words in
    let l : i < length ns = omega (arith, k, c.loop-place-test.true) in
    let e = ap (nat_lt (part c.args.outer.now (i + 1))) (number_at string_bytes decimal_value words
    i c.index-words-place.result c.loop-place-test.true c.index-words-place.is) in
    c.loop-place.invariant ∙ inside_next c.args.outer.now c.args.at ns i false l
    (e ∙ sym c.exceeds.ensures ∙ c.if-exceeds.false)
