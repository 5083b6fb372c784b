use Rattle.std.proofs.lemmas.Nat.Bits.{shr_and_one}
use Rattle.beta_sets.proofs.BinaryPlaces.{has-places}
use Rattle.beta_sets.proofs.beta_set.BetaSet.has.Goals as goal

pub returns : goal.returns
returns c = let v = c.self.view_is in let s = shr_and_one c.args.self c.args.number in let l =
    has-places 64 c.args.number c.args.self c.requires in cc
