use Rattle.std.proofs.Common.{◌≡◌, ℕ, List, length, take, pos}
use Rattle.std.specs.List.{sum_by}
use Rattle.sym_model.specs.Polynomial.{coefficient}
use Rattle.lr_product.specs.WeighedSum.{comes_to}
use Rattle.lr_product.specs.Places.{count_at, AreSmallTerms}
use Rattle.lr_product.proofs.sorted_pairs.sorted_pairs.Given as goal

abbrev pub invariant-loop-k : goal.invariant-loop-k
invariant-loop-k l = record {
  end : l.k-end ≡ length l.places.items;
  counts :
      (parts : List ℕ)
      → coefficient l.pairs.items parts
      ≡ pos (sum_by (λ (place : ℕ × ℕ). count_at l.letters l.table.entries (comes_to parts) place.1) (take l.k l.places.items));
  small : AreSmallTerms l.pairs.items;
}
