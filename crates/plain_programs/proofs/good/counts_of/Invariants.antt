use Rattle.std.proofs.Common.{◌≡◌, map}
use Rattle.sym_model.specs.Partition.{after}
use Rattle.sym_model.specs.Schur.{times_in}
use Rattle.plain_programs.proofs.good.counts_of.Given as goal

abbrev pub invariant-loop-letter : goal.invariant-loop-letter
invariant-loop-letter l = l.counts.items ≡ map (λ k. times_in k l.word) (after 0 l.letter)
