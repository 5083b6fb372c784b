use Rattle.beta_sets.proofs.SetNumbers.{places-from}
use Rattle.beta_sets.proofs.beta_set.BetaSet.from.Goals as goal

pub returns : goal.returns
returns c = let v = c.self.view_is in let l = places-from c.args.place c.args.self c.requires in cc
