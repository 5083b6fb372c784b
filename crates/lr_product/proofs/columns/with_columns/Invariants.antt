use Rattle.std.proofs.Common.{◌≡◌, ℕ, ◌+◌, ◌-◌, ◌≤◌, nat_lt, List, drop}
use Rattle.sym_model.specs.Partition.{columns, size}
use Rattle.tableau_laws.specs.ColumnFold.{column_lines}
use Rattle.lr_product.specs.WeighedSum.{weighed, over_states, seen, unreached, places, VanishesOutside}
use Rattle.lr_product.specs.Capped.{Agree}
use Rattle.lr_product.proofs.columns.with_columns.Given as goal

abbrev pub invariant-loop-at : goal.invariant-loop-at
invariant-loop-at l = record {
  within : l.at ≤ columns l.outer;
  counts :
      (f : List ℕ → List ℕ → ℕ)
      → VanishesOutside l.bound f
      → Agree (weighed l.letters (seen (nat_lt 0 l.at) f) l.table.entries)
      (weighed l.letters (over_states l.letters (drop l.at (column_lines l.outer l.inner)) (seen (nat_lt 0 l.at) f)) l.fn.starts.entries);
  reached : weighed l.letters (unreached l.letters (4096 - size l.outer + places (drop l.at (column_lines l.outer l.inner)))) l.table.entries ≡ 0;
}

abbrev pub decreases-loop-at : goal.decreases-loop-at
decreases-loop-at l = l.at
