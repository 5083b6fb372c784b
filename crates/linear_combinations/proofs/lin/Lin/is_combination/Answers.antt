use Rattle.std.proofs.Common.{subst}
use Rattle.linear_combinations.specs.Entries.{AreHeld, IsCombination}
use Rattle.linear_combinations.proofs.lin.Lin.is_combination.Goals as goal

pub returns-clause-combination : goal.returns-clause-combination
returns-clause-combination g c = subst (IsCombination g.L.PartialEq.eq g.L.Label.is_label
    g.R.Scalar.value) c.self.view_is c.self.invariant.combination

pub returns-clause-held : goal.returns-clause-held
returns-clause-held g c = subst (AreHeld g.L.PartialEq.eq g.R.Scalar.zero g.R.Scalar.is_held)
    c.self.view_is c.self.invariant.held
