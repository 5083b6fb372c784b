use Rattle.std.proofs.Common.{subst}
use Rattle.linear_combinations.specs.Entries.{IsCombination}
use Rattle.linear_combinations.proofs.lin.Lin.iter.Goals as goal

pub returns-clause-combination : goal.returns-clause-combination
returns-clause-combination g c = subst (IsCombination g.L.PartialEq.eq g.L.Label.is_label
    g.R.Scalar.value) c.self.view_is c.self.invariant.combination
