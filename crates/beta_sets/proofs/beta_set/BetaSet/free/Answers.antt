use Rattle.std.proofs.Common.{arith}
use Rattle.beta_sets.proofs.SetNumbers.{places-free}
use Rattle.beta_sets.proofs.beta_set.BetaSet.free.Goals as goal

pub returns : goal.returns
returns c = let v = c.self.view_is in let l = places-free c.args.by c.args.self (omega arith) in cc
