use Rattle.std.proofs.Common.{◌≡◌, ◌≤◌, ℕ}
use Rattle.std.specs.Prelude.{min}
use Rattle.std.specs.Int.{bit_at}
use Rattle.lr_product.specs.MarksFree.{MarksFree}
use Rattle.lr_product.proofs.letters.free_letters.Given as goal

abbrev pub invariant-loop-at : goal.invariant-loop-at
invariant-loop-at l = record {
  end : l.at-end ≡ min l.letters 64;
  low : l.above ≤ l.at;
  marks : MarksFree l.at l.above l.bound l.numbers l.free;
  clear : (i : ℕ) → l.at ≤ i → bit_at l.free i ≡ 0;
}
