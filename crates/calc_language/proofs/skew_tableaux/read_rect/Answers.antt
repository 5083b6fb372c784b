use Rattle.std.proofs.Common.{rules}
use Rattle.calc_language.proofs.SkewJudging.{skew_read_rows}
use Rattle.calc_language.proofs.skew_tableaux.read_rect.Goals as goal

pub returns : goal.returns
returns c = search (rules, skew_read_rows)
