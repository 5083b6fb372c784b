use Rattle.std.proofs.Common.{rules}
use Rattle.std.proofs.lemmas.List.{drop_all}
use Rattle.sparse_polys.proofs.SearchWays.{end_next}
use Rattle.sparse_polys.proofs.search.ways_to_end.Goals as goal

pub returns : goal.returns
returns c = search (rules, drop_all)

pub loop-state-preserved : goal.loop-state-preserved
loop-state-preserved c = search (rules, end_next)
