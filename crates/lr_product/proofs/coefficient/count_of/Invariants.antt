use Rattle.std.proofs.Common.{◌≡◌, ◌+◌, ◌^◌, ◌≤◌, length, drop}
use Rattle.lr_product.specs.WeighedSum.{weighed, comes_to}
use Rattle.lr_product.specs.Capped.{Agree}
use Rattle.lr_product.proofs.coefficient.count_of.Given as goal

abbrev pub invariant-loop-at : goal.invariant-loop-at
invariant-loop-at l = (l.at-end ≡ length l.table.entries) × (l.count ≤ 2 ^ 127)
    × Agree (l.count + weighed (length l.parts) (comes_to l.parts) (drop l.at l.table.entries)) (weighed (length l.parts) (comes_to l.parts) l.table.entries)
