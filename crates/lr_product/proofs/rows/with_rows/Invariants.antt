use Rattle.std.proofs.Common.{◌≡◌, ℕ, ◌-◌, List, drop}
use Rattle.sym_model.specs.Partition.{size}
use Rattle.lr_product.specs.WeighedSum.{weighed, unreached, VanishesOutside}
use Rattle.lr_product.specs.RowExtension.{over_rows, cell_count, VanishesBelow}
use Rattle.lr_product.specs.Capped.{Agree}
use Rattle.lr_product.proofs.rows.with_rows.Given as goal

abbrev pub invariant-loop-row : goal.invariant-loop-row
invariant-loop-row l = record {
  counts :
      (f : List ℕ → ℕ)
      → VanishesOutside l.bound (λ ν right. f ν)
      → VanishesBelow l.letters 0 l.bound (λ ν right. f ν)
      → Agree (weighed l.letters (over_rows l.letters (drop l.row l.outer) (drop l.row l.inner) (λ ν right. f ν)) l.table.entries)
      (weighed l.letters (over_rows l.letters l.outer l.inner (λ ν right. f ν)) l.fn.starts.entries);
  reached : weighed l.letters (unreached l.letters (4096 - size (drop l.row l.outer))) l.table.entries ≡ 0;
  later : l.later ≡ cell_count (drop l.row l.outer) (drop l.row l.inner);
}
