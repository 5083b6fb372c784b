-- Loop invariant: each number tried so far occurs once in the tableau.
use Rattle.std.proofs.Common.{◌≡◌, ◌==◌, true}
use Rattle.sym_model.specs.Partition.{after}
use Rattle.sym_model.specs.GoodTableau.{every}
use Rattle.sym_model.specs.Schur.{letters_of, times_in}
use Rattle.skew_shapes.proofs.standard.has_each_once.Given as goal

abbrev pub invariant-loop-number : goal.invariant-loop-number
invariant-loop-number l = every (λ k. times_in k (letters_of l.t.rows) == 1) (after 0 l.number) ≡ true
