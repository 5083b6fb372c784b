use Rattle.std.proofs.Common.{◌≡◌, ◌∷◌, true}
use Rattle.sym_model.specs.Polynomial.{join}
use Rattle.sym_model.specs.Partition.{after}
use Rattle.sym_model.specs.Schur.{content}
use Rattle.sym_model.specs.GoodTableau.{every, is_falling, reading_right_of}
use Rattle.plain_programs.specs.Words.{words_of}
use Rattle.plain_programs.proofs.good.plain_is_good.Given as goal

abbrev pub invariant-loop-j : goal.invariant-loop-j
invariant-loop-j l = every (λ j. is_falling (join l.start (content l.k (reading_right_of j l.outer l.inner (words_of l.filling))))) (0 ∷ after 0 l.j) ≡ true
