use Rattle.std.proofs.Common.{rules, ◌≡◌, ◌+◌, ◌<◌, ◌^◌}
use Rattle.fraction_laws.specs.Checked.{checked_u128}
use Rattle.fraction_laws.proofs.Whole.{sum_answers_u128-from}
use Rattle.coeff_rings.proofs.count.CountScalar.add.Goals as goal

pub returns-clause-answer : goal.returns-clause-answer
returns-clause-answer c =
    let left : c.args.self < 2 ^ 128 = search rules in
    let right : c.args.other < 2 ^ 128 = search rules in
    let is : c.map.result ≡ checked_u128 (c.args.self + c.args.other) = search rules in
    sum_answers_u128-from c.args.self c.args.other c.map.result left right is
