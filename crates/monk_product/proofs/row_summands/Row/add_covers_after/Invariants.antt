-- So far, c has been added to the coefficients of the covers of w that exchange the letter at `place` with a letter at a later place before `other`,
-- not of all (`GainsExcept`). Places are counted from 0.
use Rattle.std.proofs.Common.{◌+◌, ◌-◌}
use Rattle.sym_model.specs.Permutation.{times_swap}
use Rattle.linear_combinations.specs.Gains.{each_with}
use Rattle.monk_product.specs.RowProducts.{GainsExcept}
use Rattle.monk_product.proofs.ShortCovers.{found}
use Rattle.monk_product.proofs.row_summands.Row.add_covers_after.Given as goal

abbrev pub invariant-loop-other : goal.invariant-loop-other
invariant-loop-other l =
    GainsExcept l.self.letters (l.self.letter - 1) l.fn.sum
    (each_with l.c (found l.w (λ b. times_swap (l.place + 1) b l.w) (l.place + 1)
    (l.other - (l.place + 1)))) l.sum
