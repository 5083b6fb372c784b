use Rattle.std.proofs.Common.{rules}
use Rattle.lr_product.proofs.CountedLists.{same_as_none}
use Rattle.lr_product.proofs.counts.no_terms.Goals as goal

pub returns-clause-none : goal.returns-clause-none
returns-clause-none c = search (rules, same_as_none)
