use Rattle.beta_sets.proofs.BetaSets.{with_digit}
use Rattle.beta_sets.proofs.beta_set.BetaSet.with.Goals as goal

pub returns : goal.returns
returns c = let v = c.self.view_is in let l = with_digit c.args.self c.args.number c.requires.place
    c.requires.new in cc
