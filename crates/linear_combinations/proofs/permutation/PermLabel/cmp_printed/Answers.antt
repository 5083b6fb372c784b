use Rattle.linear_combinations.proofs.LabelTests.{is_permutation_label-limits}
use Rattle.linear_combinations.proofs.permutation.PermLabel.cmp_printed.Goals as goal

pub returns-clause-limits : goal.returns-clause-limits
returns-clause-limits c = is_permutation_label-limits c.args.self.now c.cmp_printed.ensures.limits
