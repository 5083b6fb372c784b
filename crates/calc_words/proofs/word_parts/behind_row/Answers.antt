use Rattle.std.proofs.Common.{[], ◌∷◌, map, rules}
use Rattle.std.specs.Prelude.{string_bytes, codes}
use Rattle.word_laws.proofs.CutRows.{dot_taken, row_taken, row_wrong}
use Rattle.calc_words.proofs.CutWords.{counted}
use Rattle.calc_words.proofs.word_parts.behind_row.Goals as goal

pub returns-in-Some-clause-ok : goal.returns-in-Some-clause-ok
returns-in-Some-clause-ok c = (
  codes "." ∷ [],
  dot_taken _ (map string_bytes c.args.words.now)
      c.in-Some.ensures,
)

pub returns-in_default-first_number-clause-wrong : goal.returns-in_default-first_number-clause-wrong
returns-in_default-first_number-clause-wrong c = search (rules, counted, row_wrong)

pub returns-clause-ok : goal.returns-clause-ok
returns-clause-ok c =
    let first = c.in-Some-first_number.ensures in (
      map string_bytes c.numbers.result.0.now,
      row_taken _ _ (map string_bytes c.numbers.result.0.now)
          (map string_bytes c.numbers.result.1.now) (map string_bytes c.args.words.now) first.0
          first.1
          c.numbers.ensures.parts c.numbers.ensures.numbers c.numbers.ensures.rest,
    )
