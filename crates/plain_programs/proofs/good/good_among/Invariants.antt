use Rattle.std.proofs.Common.{◌≡◌, take, filter}
use Rattle.sym_model.specs.GoodTableau.{is_good}
use Rattle.plain_programs.specs.Words.{fillings_in}
use Rattle.plain_programs.proofs.good.good_among.Given as goal

abbrev pub invariant-loop-tableau : goal.invariant-loop-tableau
invariant-loop-tableau l = fillings_in l.list.items ≡ filter (is_good l.k l.start l.outer l.inner) (fillings_in (take l.tableau-index l.tableaux))
