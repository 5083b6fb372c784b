use Rattle.std.proofs.Common.{◌≡◌, ◌∷◌, map, take, flat_map}
use Rattle.plain_programs.specs.Words.{words_of, fillings_in}
use Rattle.plain_programs.proofs.fillings.stacked.Given as goal

abbrev pub invariant-loop-row : goal.invariant-loop-row
invariant-loop-row l = fillings_in l.list.items ≡ flat_map (λ row. map (λ filling. row ∷ filling) (fillings_in l.rest)) (words_of (take l.row-index l.rows))
