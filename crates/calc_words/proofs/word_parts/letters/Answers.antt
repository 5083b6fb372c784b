use Rattle.std.proofs.Common.{map, sym}
use Rattle.std.specs.Prelude.{string_bytes}
use Rattle.std.proofs.lemmas.List.{length-map}
use Rattle.sym_model.specs.WordForms.{permutation_words}
use Rattle.word_laws.proofs.CutParts.{letters_taken, letters_wrong}
use Rattle.calc_words.proofs.CutWords.{counted}
use Rattle.calc_words.proofs.word_parts.letters.Goals as goal

pub returns-in_default-clause-wrong : goal.returns-in_default-clause-wrong
returns-in_default-clause-wrong c =
    counted string_bytes permutation_words c.args.words.now
    (letters_wrong (map string_bytes c.args.words.now) c.in_default.ensures)

pub returns-clause-ok : goal.returns-clause-ok
returns-clause-ok c =
    let list = c.numbers.result.0.now in
    let first = c.in-Some.ensures in (
      map string_bytes list,
      map string_bytes c.numbers.result.1.now,
      letters_taken _ _ (map string_bytes list) (map string_bytes c.numbers.result.1.now)
          (map string_bytes c.args.words.now) first.0 first.1
          c.numbers.ensures.parts c.numbers.ensures.numbers c.numbers.ensures.rest,
      sym (length-map list string_bytes),
    )
