use Rattle.std.proofs.Common.{sym, ◌∙◌, neg_ℤ}
use Rattle.coeff_rings.proofs.Sizes.{refused_size}
use Rattle.sym_model.specs.RaisedPart.{raise}
use Rattle.linear_combinations.proofs.Labels.{same_pair}
use Rattle.linear_combinations.proofs.Gains.{overflows_alone}
use Rattle.basis_change.proofs.MixedLabels.{label_laws}
use Rattle.basis_change.proofs.products.take_one.Goals as goal

pub returns-in_err-minus-clause-large : goal.returns-in_err-minus-clause-large
returns-in_err-minus-clause-large c err =
    overflows_alone label_laws same_pair c.args.sum.now (
      c.args.converted.now,
      raise c.args.by c.args.part c.args.augmented.now,
    ) (neg_ℤ c.args.c)
    (refused_size (neg_ℤ c.args.c) (sym c.neg.ensures.negation ∙ c.in_err-minus.ensures.ok_part))
