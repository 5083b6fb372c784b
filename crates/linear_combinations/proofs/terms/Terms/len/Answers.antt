use Rattle.std.proofs.Common.{subst, ap, length, arith}
use Rattle.linear_combinations.specs.Entries.{IsCanonicalList}
use Rattle.linear_combinations.proofs.terms.Terms.len.Goals as goal

pub returns-clause-canonical : goal.returns-clause-canonical
returns-clause-canonical g c = subst (IsCanonicalList g.L.Label.order g.L.Label.is_label
    g.R.Scalar.value) c.self.view_is c.self.invariant

pub returns-clause-len : goal.returns-clause-len
returns-clause-len g c = let a = ap length c.self.view_is in omega arith
