use Rattle.std.proofs.Common.{rules, ◌≡◌, ◌-ℤ◌, FitsSigned}
use Rattle.std.specs.Int.{w128}
use Rattle.fraction_laws.specs.Checked.{checked_i128}
use Rattle.fraction_laws.proofs.Whole.{difference_answers_i128-from}
use Rattle.coeff_rings.proofs.int.IntRing.sub.Goals as goal

pub returns-clause-answer : goal.returns-clause-answer
returns-clause-answer c =
    let left : FitsSigned w128 c.args.self = search rules in
    let right : FitsSigned w128 c.args.other = search rules in
    let is : c.map.result ≡ checked_i128 (c.args.self -ℤ c.args.other) = search rules in
    difference_answers_i128-from c.args.self c.args.other c.map.result left right is
