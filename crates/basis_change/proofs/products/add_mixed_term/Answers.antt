use Rattle.std.proofs.Common.{◌*ℤ◌, rules}
use Rattle.basis_change_laws.specs.JoinedLists.{merged}
use Rattle.linear_combinations.proofs.Labels.{same_pair}
use Rattle.linear_combinations.proofs.Gains.{overflows_alone}
use Rattle.family_lists.proofs.RowSteps.{limits-merged}
use Rattle.basis_change.proofs.MixedLabels.{label_laws}
use Rattle.basis_change.proofs.products.add_mixed_term.Goals as goal

pub returns-in_err-product-clause-large : goal.returns-in_err-product-clause-large
returns-in_err-product-clause-large c err =
    overflows_alone label_laws same_pair c.args.sum.now
    (merged c.args.converted.now c.args.label.now, c.args.augmented.now)
    (c.args.c *ℤ c.args.have) c.in_err-product.ensures

pub from_valid_parts-requires : goal.from_valid_parts-requires
from_valid_parts-requires c = search (rules, limits-merged)
