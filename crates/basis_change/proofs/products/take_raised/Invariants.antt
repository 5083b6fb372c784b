use Rattle.std.proofs.Common.{take}
use Rattle.std.specs.Prelude.{neg_ℤ}
use Rattle.linear_combinations.specs.Gains.{Gains, each_with}
use Rattle.basis_change.specs.AugmentedProducts.{raised}
use Rattle.basis_change.proofs.products.take_raised.Given as goal

abbrev pub invariant-loop-part : goal.invariant-loop-part
invariant-loop-part l = Gains l.fn.sum (each_with (neg_ℤ l.c) (raised l.converted l.by l.augmented (take l.part-index l.augmented))) l.sum
