use Rattle.std.proofs.Common.{◌≤◌, ◌^◌, ◌/◌, ◌*ℤ◌, pos, nat_abs, ◌∙◌, [], ap, subst, rules}
use Rattle.linear_combinations.proofs.Labels.{same_pair}
use Rattle.linear_combinations.proofs.Gains.{overflows_alone}
use Rattle.basis_change_laws.specs.AugmentedMonomial.{multiplicity_factorials}
use Rattle.family_list_laws.proofs.PartQuotients.{multiplicities-positive}
use Rattle.basis_change.specs.Clearing.{augmented_number}
use Rattle.basis_change.proofs.MixedLabels.{label_laws}
use Rattle.basis_change.proofs.clearing.add_augmented.Goals as goal

pub nonzero_div-quotient : goal.nonzero_div-quotient
nonzero_div-quotient c = search (rules, multiplicities-positive)

pub returns-in_err-number-clause-large : goal.returns-in_err-number-clause-large
returns-in_err-number-clause-large c err =
    let quotient = c.whole_of.ensures ∙ ap (λ m. pos (c.args.factor / m))
    (c.multiplicity_factorials.ensures ∙ ap multiplicity_factorials c.parts.ensures.value) in
    overflows_alone label_laws same_pair c.args.sum.now ([], c.args.label.now)
    (augmented_number c.args.factor c.args.label.now c.args.c)
    (subst (λ z. 2 ^ 127 ≤ nat_abs (c.args.c *ℤ z)) quotient c.in_err-number.ensures)
