use Rattle.std.proofs.Common.{rules}
use Rattle.std.proofs.lemmas.Bool.{and_from}
use Rattle.linear_combinations.proofs.LabelTests.{is_permutation_label-limits}
use Rattle.sparse_polys.proofs.Labels.{is_monomial_label-from}
use Rattle.sparse_polys.proofs.shifted.ShiftedLabel.cmp_printed.Goals as goal

pub returns-clause-limits : goal.returns-clause-limits
returns-clause-limits c =
    search (rules, and_from, is_permutation_label-limits, is_monomial_label-from)
