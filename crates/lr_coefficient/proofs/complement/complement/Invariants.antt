-- The list has the last entries of the padded list, from `at` on, each subtracted from the width, in reverse order.
use Rattle.std.proofs.Common.{◌≡◌, ◌-◌, map, drop, reverse}
use Rattle.sym_model.specs.Polynomial.{resize}
use Rattle.lr_coefficient.proofs.complement.complement.Given as goal

abbrev pub invariant-loop-at : goal.invariant-loop-at
invariant-loop-at l = l.numbers.items ≡ reverse (map (λ x. l.width - x) (drop l.at (resize l.k l.parts)))
