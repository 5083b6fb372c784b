use Rattle.sparse_polys.proofs.Labels.{is_monomial_label-from}
use Rattle.sparse_polys.proofs.monomial_label.MonomialLabel.cmp_printed.Goals as goal

pub returns-clause-limits : goal.returns-clause-limits
returns-clause-limits c = is_monomial_label-from c.args.self.now c.cmp_printed.ensures.limits
