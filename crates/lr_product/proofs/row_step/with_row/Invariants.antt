use Rattle.std.proofs.Common.{◌≡◌, ℕ, ◌+◌, ◌-◌, List, length, drop}
use Rattle.lr_product.specs.WeighedSum.{weighed, unreached, VanishesOutside}
use Rattle.lr_product.specs.RowExtension.{next_row, VanishesBelow}
use Rattle.lr_product.specs.Capped.{Agree}
use Rattle.lr_product.proofs.row_step.with_row.Given as goal

abbrev pub invariant-loop-at : goal.invariant-loop-at
invariant-loop-at l = record {
  end : l.at-end ≡ length l.table.entries;
  width : l.next.width ≡ l.width;
  counts :
      (f : List ℕ → List ℕ → ℕ)
      → VanishesOutside l.bound f
      → VanishesBelow l.letters l.later l.bound f
      → Agree (weighed l.letters f l.next.entries + weighed l.letters (next_row l.letters l.is_kept l.outside l.end f) (drop l.at l.table.entries))
      (weighed l.letters (next_row l.letters l.is_kept l.outside l.end f) l.table.entries);
  reached :
      (m : ℕ)
      → weighed l.letters (unreached l.letters m) l.table.entries ≡ 0
      → weighed l.letters (unreached l.letters (m + (l.end - l.outside))) l.next.entries ≡ 0;
}
