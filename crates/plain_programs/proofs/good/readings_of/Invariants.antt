use Rattle.std.proofs.Common.{◌≡◌, map, take}
use Rattle.sym_model.specs.GoodTableau.{column_reading}
use Rattle.plain_programs.specs.Words.{words_of, fillings_in}
use Rattle.plain_programs.proofs.good.readings_of.Given as goal

abbrev pub invariant-loop-filling : goal.invariant-loop-filling
invariant-loop-filling l = words_of l.list.items ≡ map (column_reading l.outer l.inner) (fillings_in (take l.filling-index l.fillings))
