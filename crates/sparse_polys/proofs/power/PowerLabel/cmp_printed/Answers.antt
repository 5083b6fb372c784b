use Rattle.std.proofs.Common.{rules}
use Rattle.std.proofs.lemmas.Bool.{and_from, lt-ltb}
use Rattle.linear_combinations.proofs.LabelTests.{is_label-limits}
use Rattle.sparse_polys.proofs.power.PowerLabel.cmp_printed.Goals as goal

pub returns-clause-limits : goal.returns-clause-limits
returns-clause-limits c = search (rules, and_from, lt-ltb, is_label-limits)
