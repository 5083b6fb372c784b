use Rattle.std.proofs.Common.{sym, ◌∙◌}
use Rattle.std.proofs.Math.IntN.{+ℤ_idl}
use Rattle.linear_combinations.specs.Gains.{over}
use Rattle.linear_combinations.proofs.Masses.{over_same}
use Rattle.rim_hooks.proofs.collecting.sorted.Goals as goal

pub returns-clause-gains : goal.returns-clause-gains
returns-clause-gains g c = record {
  sums = λ φ. sym (over_same g.met.L.Eq.laws g.met.L.Label.same_label c.args.sums c.in_ok-sorted_terms.field-0
      c.in_ok-sorted_terms.ensures.was c.in_ok-sorted_terms.ensures.combination c.in_ok-sorted_terms.ensures.same φ)
      ∙ sym (+ℤ_idl (over φ c.args.sums));
}
