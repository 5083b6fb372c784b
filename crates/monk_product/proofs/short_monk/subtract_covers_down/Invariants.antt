-- So far, c has been subtracted from the coefficients of the covers of `w` that exchange the letter at `place` with the letter at a place before
-- `other`. Places are counted from 0.
use Rattle.std.proofs.Common.{◌+◌}
use Rattle.std.specs.Prelude.{neg_ℤ}
use Rattle.sym_model.specs.Permutation.{times_swap}
use Rattle.linear_combinations.specs.Gains.{Gains, each_with}
use Rattle.monk_product.proofs.ShortCovers.{found}
use Rattle.monk_product.proofs.short_monk.subtract_covers_down.Given as goal

abbrev pub invariant-loop-other : goal.invariant-loop-other
invariant-loop-other l =
    Gains l.fn.sum (each_with (neg_ℤ l.c) (found l.w (λ i. times_swap i (l.place + 1) l.w) 0 l.other))
    l.sum
