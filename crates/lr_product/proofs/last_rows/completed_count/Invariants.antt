use Rattle.std.proofs.Common.{◌≡◌, ◌+◌, ◌∷◌, [], length, drop}
use Rattle.lr_product.specs.WeighedSum.{weighed, comes_to}
use Rattle.lr_product.specs.RowExtension.{over_rows}
use Rattle.lr_product.specs.Capped.{Agree}
use Rattle.lr_product.proofs.last_rows.completed_count.Given as goal

abbrev pub invariant-loop-at : goal.invariant-loop-at
invariant-loop-at l = record {
  end : l.at-end ≡ length l.table.entries;
  agrees : Agree (l.count + weighed (length l.content) (over_rows (length l.content) (l.rows.upper_end ∷ l.rows.lower_end ∷ []) (l.rows.upper_outside ∷ l.rows.lower_outside ∷ []) (comes_to l.content)) (drop l.at l.table.entries))
      (weighed (length l.content) (over_rows (length l.content) (l.rows.upper_end ∷ l.rows.lower_end ∷ []) (l.rows.upper_outside ∷ l.rows.lower_outside ∷ []) (comes_to l.content)) l.table.entries);
}
