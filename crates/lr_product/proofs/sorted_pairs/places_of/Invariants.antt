use Rattle.std.proofs.Common.{◌≡◌, ℕ, List, length, take}
use Rattle.std.specs.List.{sum_by}
use Rattle.lr_product.specs.WeighedSum.{weighed}
use Rattle.lr_product.specs.Places.{count_at}
use Rattle.lr_product.proofs.sorted_pairs.places_of.Given as goal

abbrev pub invariant-loop-at : goal.invariant-loop-at
invariant-loop-at l = record {
  end : l.at-end ≡ length l.table.entries;
  sums :
      (n : ℕ) (f : List ℕ → List ℕ → ℕ)
      → sum_by (λ (place : ℕ × ℕ). count_at n l.table.entries f place.1) l.places.items ≡ weighed n f (take l.at l.table.entries);
}
