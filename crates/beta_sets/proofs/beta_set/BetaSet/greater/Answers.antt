use Rattle.std.proofs.Common.{arith}
use Rattle.beta_sets.proofs.BinaryPlaces.{greater-places}
use Rattle.beta_sets.proofs.beta_set.BetaSet.greater.Goals as goal

pub returns : goal.returns
returns c = let v = c.self.view_is in let l = greater-places 64 c.args.than c.args.self
    (omega arith) in cc
