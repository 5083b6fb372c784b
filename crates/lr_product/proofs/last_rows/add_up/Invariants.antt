use Rattle.std.proofs.Common.{◌≡◌, ◌++◌, drop}
use Rattle.lr_product.specs.LastRows.{sums_from}
use Rattle.lr_product.proofs.last_rows.add_up.Given as goal

abbrev pub invariant-loop-number : goal.invariant-loop-number
invariant-loop-number l = l.sums.items ++ sums_from l.sum (drop l.number-index l.numbers) ≡ sums_from 0 l.numbers
