use Rattle.std.proofs.Common.{take_all, rules}
use Rattle.sym_model.proofs.Exponents.{length-join}
use Rattle.sparse_polys.proofs.Joining.{take-join, entry-join}
use Rattle.sparse_polys.proofs.monomial.joined.Goals as goal

pub overflow_add-number_at : goal.overflow_add-number_at
overflow_add-number_at c = search (rules, entry-join)

pub loop-at-preserved : goal.loop-at-preserved
loop-at-preserved c = search (rules, take-join)

pub returns : goal.returns
returns c = search (rules, length-join, take_all)
