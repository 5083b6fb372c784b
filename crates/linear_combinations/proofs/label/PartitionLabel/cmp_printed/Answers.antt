use Rattle.linear_combinations.proofs.LabelTests.{is_label-limits}
use Rattle.linear_combinations.proofs.label.PartitionLabel.cmp_printed.Goals as goal

pub returns-clause-limits : goal.returns-clause-limits
returns-clause-limits c = is_label-limits c.args.self.now c.cmp_printed.ensures.limits
