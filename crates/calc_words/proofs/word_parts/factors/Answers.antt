use Rattle.std.proofs.Common.{map, subst, ◌∷◌, ◌++◌}
use Rattle.std.specs.Prelude.{string_bytes, codes}
use Rattle.std.proofs.lemmas.List.{length-map}
use Rattle.sym_model.specs.WordForms.{factors_words}
use Rattle.calc_words.specs.Cutting.{StopsIn}
use Rattle.calc_words.proofs.TakenFactors.{factors_taken, factors_wrong, factors_count}
use Rattle.calc_words.proofs.TakenFactors.{no_more_left}
use Rattle.calc_words.proofs.word_parts.factors.Goals as goal

pub returns-in_default-clause-wrong : goal.returns-in_default-clause-wrong
returns-in_default-clause-wrong c =
    let rest = c.numbers.result.1.now in
    let words = map string_bytes c.args.words.now in
    subst (StopsIn factors_words words) (length-map rest string_bytes)
    (factors_wrong words (map string_bytes c.numbers.result.0.now) (map string_bytes rest)
    c.numbers.ensures.parts c.numbers.ensures.numbers
    c.numbers.ensures.rest c.in_default.ensures)

pub overflow_sub-result : goal.overflow_sub-result
overflow_sub-result c =
    no_more_left string_bytes c.args.words.now c.numbers.result.1.now c.in-Some.later.now
    c.pieces.result.1.now _ _ c.numbers.ensures.parts
    c.in-Some.ensures c.pieces.ensures.parts

pub returns-clause-ok : goal.returns-clause-ok
returns-clause-ok c =
    let words = map string_bytes c.args.words.now in
    let ns = map string_bytes c.numbers.result.0.now in
    let ps = map string_bytes c.pieces.result.0.now in
    let rest = map string_bytes c.pieces.result.1.now in
    let t = factors_taken words ns (map string_bytes c.numbers.result.1.now)
    (map string_bytes c.in-Some.later.now) ps rest c.numbers.ensures.parts
    c.numbers.ensures.numbers c.in-Some.ensures c.pieces.ensures.parts c.pieces.ensures.pieces
    c.pieces.ensures.rest in (
      ns ++ codes "-" ∷ ps,
      rest,
      t,
      factors_count string_bytes c.args.words.now
          c.pieces.result.1.now (ns ++ codes "-" ∷ ps) t.words_are,
    )
