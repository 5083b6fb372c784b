use Rattle.family_lists.proofs.CountedPlaces.{Counted}
use Rattle.family_lists.proofs.multiplicities.multiplicity_factorials.Given as goal

abbrev pub invariant-loop-at : goal.invariant-loop-at
invariant-loop-at l = Counted l.parts l.product l.next l.times l.at
