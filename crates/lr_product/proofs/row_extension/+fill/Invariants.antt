use Rattle.std.proofs.Common.{◌≡◌, ℕ, ◌+◌, ◌-◌, ◌*◌, ◌≤◌, List, ◌++◌, take, drop}
use Rattle.sym_model.specs.Partition.{size}
use Rattle.lr_product.specs.WeighedSum.{weighed, unreached, VanishesOutside}
use Rattle.lr_product.specs.Capped.{Agree}
use Rattle.lr_product.specs.Extension.{numbers_from, mark}
use Rattle.lr_product.specs.RowExtension.{added, filled, VanishesBelow}
use Rattle.sym_model.specs.Sum.{sum_by}
use Rattle.lr_product.proofs.row_extension.+fill.Given as goal

abbrev pub decreases-fill : goal.decreases-fill
decreases-fill l = l.up_to

abbrev pub invariant-loop-left : goal.invariant-loop-left
invariant-loop-left l = record {
  same : l.state.items ≡ l.initial.state.items;
  width : l.table.width ≡ l.initial.table.width;
  adds :
      (f : List ℕ → List ℕ → ℕ)
      → VanishesOutside l.bound f
      → VanishesBelow l.row.letters l.row.later l.bound f
      → Agree (weighed l.row.letters f l.table.entries
      + l.row.ways * sum_by (λ x. filled l.row.is_kept l.row.letters l.row.outside l.at x (drop 1 l.above) f (added l.at (l.placed - x) l.initial.state.items ++ mark l.row.is_kept x)) (numbers_from l.left (l.end - l.left)))
      (weighed l.row.letters f l.initial.table.entries
      + l.row.ways * sum_by (λ x. filled l.row.is_kept l.row.letters l.row.outside l.at x (drop 1 l.above) f (added l.at (l.placed - x) l.initial.state.items ++ mark l.row.is_kept x)) (numbers_from l.low (l.end - l.low)));
  reached :
      (m : ℕ)
      → size (take l.row.letters l.initial.state.items) + (l.placed - l.row.outside) ≤ m
      → weighed l.row.letters (unreached l.row.letters m) l.initial.table.entries ≡ 0
      → weighed l.row.letters (unreached l.row.letters m) l.table.entries ≡ 0;
  low : l.low ≤ l.left;
}
