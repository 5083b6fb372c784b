use Rattle.std.proofs.Common.{rules}
use Rattle.std.proofs.lemmas.Result.{err_from_is_err_and}
use Rattle.calc_language.proofs.TabJudging.{shapes_faulty}
use Rattle.calc_language.proofs.tab.judge_tab.Goals as goal

pub returns-in_err-outer : goal.returns-in_err-outer
returns-in_err-outer c = search (rules, err_from_is_err_and, shapes_faulty)
