use Rattle.std.proofs.Common.{◌≡◌, ℕ, ◌^◌, ◌<◌, length}
use Rattle.lr_product.specs.Places.{entry_at}
use Rattle.lr_product.proofs.sorted_pairs.refuse_large.Given as goal

abbrev pub invariant-loop-at : goal.invariant-loop-at
invariant-loop-at l = record {
  end : l.at-end ≡ length l.table.entries;
  exact : (i : ℕ) → i < l.at → (entry_at l.table.entries i).1 < 2 ^ 127;
}
