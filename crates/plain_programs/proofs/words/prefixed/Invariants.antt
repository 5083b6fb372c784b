use Rattle.std.proofs.Common.{◌≡◌, ◌∷◌, map, flat_map}
use Rattle.sym_model.specs.Partition.{after}
use Rattle.plain_programs.specs.Words.{words_of}
use Rattle.plain_programs.proofs.words.prefixed.Given as goal

abbrev pub invariant-loop-below : goal.invariant-loop-below
invariant-loop-below l = words_of l.list.items ≡ flat_map (λ a. map (λ w. a ∷ w) (words_of l.words)) (after 0 l.below)
