use Rattle.beta_sets.proofs.SetNumbers.{places-below}
use Rattle.beta_sets.proofs.beta_set.BetaSet.below.Goals as goal

pub returns : goal.returns
returns c = let v = c.self.view_is in let l = places-below c.args.place c.args.self c.requires in cc
