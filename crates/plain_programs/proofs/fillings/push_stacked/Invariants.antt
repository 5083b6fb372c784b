use Rattle.std.proofs.Common.{◌≡◌, ◌∷◌, ◌++◌, map, take}
use Rattle.plain_programs.specs.Words.{fillings_in}
use Rattle.plain_programs.proofs.fillings.push_stacked.Given as goal

abbrev pub invariant-loop-filling : goal.invariant-loop-filling
invariant-loop-filling l = fillings_in l.list.items ≡ fillings_in l.fn.list.items ++ map (λ filling. l.row ∷ filling) (fillings_in (take l.filling-index l.rest))
