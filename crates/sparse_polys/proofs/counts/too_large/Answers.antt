use Rattle.std.proofs.Common.{rules}
use Rattle.sparse_polys.proofs.counts.too_large.Goals as goal
use Rattle.sym_model.proofs.Sums.{Among-get_or}

pub returns-then-term-clause-large : goal.returns-then-term-clause-large
returns-then-term-clause-large c e = search (rules, Among-get_or)
