use Rattle.std.proofs.Common.{arith}
use Rattle.beta_sets.proofs.BinaryPlaces.{length-places}
use Rattle.beta_sets.proofs.beta_set.BetaSet.len.Goals as goal

pub returns : goal.returns
returns c = let v = c.self.view_is in let l = length-places 64 c.args.self (omega arith) in cc
