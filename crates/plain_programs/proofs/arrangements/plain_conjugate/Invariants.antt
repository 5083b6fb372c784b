use Rattle.std.proofs.Common.{◌≡◌, map}
use Rattle.sym_model.specs.Partition.{after}
use Rattle.sym_model.specs.Conjugate.{count_from}
use Rattle.plain_programs.proofs.arrangements.plain_conjugate.Given as goal

abbrev pub invariant-loop-j : goal.invariant-loop-j
invariant-loop-j l = l.columns.items ≡ map (λ j. count_from j l.parts) (after 0 l.j)
