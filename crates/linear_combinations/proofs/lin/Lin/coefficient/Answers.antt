use Rattle.std.proofs.Common.{ap, ◌∙◌, subst}
use Rattle.std.specs.Option.{unwrap_or}
use Rattle.linear_combinations.specs.Entries.{coefficient, IsCombination}
use Rattle.linear_combinations.proofs.lin.Lin.coefficient.Goals as goal

pub returns-in-Some-clause-value : goal.returns-in-Some-clause-value
returns-in-Some-clause-value g c =
    ap (λ o. unwrap_or o g.R.Scalar.zero) c.in-Some.ensures.value
    ∙ ap (λ es. coefficient g.L.PartialEq.eq g.R.Scalar.zero es c.args.label.now) c.self.view_is

pub returns-in-None-clause-value : goal.returns-in-None-clause-value
returns-in-None-clause-value g c =
    c.zero.ensures.zero ∙ ap (λ o. unwrap_or o g.R.Scalar.zero) c.in-None.ensures.value
    ∙ ap (λ es. coefficient g.L.PartialEq.eq g.R.Scalar.zero es c.args.label.now) c.self.view_is

pub returns-in-Some-clause-combination : goal.returns-in-Some-clause-combination
returns-in-Some-clause-combination g c = subst (IsCombination g.L.PartialEq.eq g.L.Label.is_label
    g.R.Scalar.value) c.self.view_is c.self.invariant.combination

pub returns-in-None-clause-combination : goal.returns-in-None-clause-combination
returns-in-None-clause-combination g c = subst (IsCombination g.L.PartialEq.eq g.L.Label.is_label
    g.R.Scalar.value) c.self.view_is c.self.invariant.combination
