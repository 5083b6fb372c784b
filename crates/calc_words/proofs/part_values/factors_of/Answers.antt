use Rattle.std.proofs.Common.{map}
use Rattle.std.specs.Prelude.{string_bytes}
use Rattle.calc_words.proofs.PartValues.{factors_judged}
use Rattle.calc_words.proofs.part_values.factors_of.Goals as goal

pub returns : goal.returns
returns c =
    λ k x m e.
    factors_judged c.args.at k (map string_bytes c.args.words.now)
    (map string_bytes c.list_first.result.0.now) (map string_bytes c.list_first.result.1.now)
    (map string_bytes c.behind_first.result.now) x c.read_factors.result m e.0 e.1
    c.list_first.ensures.parts c.list_first.ensures.list c.list_first.ensures.rest
    c.behind_first.ensures.later c.read_factors.ensures
