use Rattle.std.proofs.Common.{◌≡◌, take, filter}
use Rattle.sym_model.specs.Schur.{semistandard}
use Rattle.plain_programs.specs.Words.{fillings_in}
use Rattle.plain_programs.proofs.fillings.semistandard_among.Given as goal

abbrev pub invariant-loop-filling : goal.invariant-loop-filling
invariant-loop-filling l = fillings_in l.list.items ≡ filter (semistandard l.inner) (fillings_in (take l.filling-index l.fillings))
