use Rattle.std.proofs.Common.{rules}
use Rattle.calc_language.proofs.PairJudging.{pair_read_rows}
use Rattle.calc_language.proofs.pairs.read_unrsk.Goals as goal

pub returns : goal.returns
returns c = search (rules, pair_read_rows)
