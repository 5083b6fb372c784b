use Rattle.std.proofs.Common.{rules}
use Rattle.calc_words.proofs.FactorLimits.{fits_more}
use Rattle.calc_words.proofs.factors.pushed.Goals as goal

pub unreachable-requires-in-Err-TooBig : goal.unreachable-requires-in-Err-TooBig
unreachable-requires-in-Err-TooBig c = search (rules, fits_more)
