-- So far, c has been added to the coefficients of the covers of `w` that exchange the letter at `place` with the letter at a later place before
-- `other`. Places are counted from 0.
use Rattle.std.proofs.Common.{◌+◌, ◌-◌}
use Rattle.sym_model.specs.Permutation.{times_swap}
use Rattle.linear_combinations.specs.Gains.{Gains, each_with}
use Rattle.monk_product.proofs.ShortCovers.{found}
use Rattle.monk_product.proofs.short_monk.add_covers_up.Given as goal

abbrev pub invariant-loop-other : goal.invariant-loop-other
invariant-loop-other l =
    Gains l.fn.sum (each_with l.c (found l.w (λ j. times_swap (l.place + 1) j l.w) (l.place + 1)
    (l.other - (l.place + 1)))) l.sum
