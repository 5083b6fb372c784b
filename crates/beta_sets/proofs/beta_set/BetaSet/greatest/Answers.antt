use Rattle.std.proofs.Common.{◌≡◌, arith}
use Rattle.beta_sets.proofs.GreatestPlaces.{split_at}
use Rattle.beta_sets.proofs.beta_set.BetaSet.greatest.Goals as goal

pub returns : goal.returns
returns c =
    let v : c.self.inside.digits ≡ c.args.self = c.self.view_is in
    let low = c.ilog2.ensures.power_le in
    let high = c.ilog2.ensures.next_power_gt in
    split_at c.args.self c.ilog2.result c.ilog2.ensures.bound (omega arith) (omega arith)
