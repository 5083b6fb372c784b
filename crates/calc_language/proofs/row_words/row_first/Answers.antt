use Rattle.std.proofs.Common.{map, rules}
use Rattle.std.specs.Prelude.{string_bytes}
use Rattle.calc_language.proofs.CutTableaux.{dot_row, number_row}
use Rattle.calc_language.proofs.row_words.row_first.Goals as goal

pub returns-in-Some-clause-is : goal.returns-in-Some-clause-is
returns-in-Some-clause-is c = search (rules, dot_row)

pub returns-in-None-clause-is : goal.returns-in-None-clause-is
returns-in-None-clause-is c =
    λ row rows n e.
    number_row row (map string_bytes c.args.words.now) (map string_bytes c.numbers.result.0.now)
    (map string_bytes c.numbers.result.1.now) rows n e
    c.in-None.ensures c.numbers.ensures.parts c.numbers.ensures.numbers c.numbers.ensures.rest
