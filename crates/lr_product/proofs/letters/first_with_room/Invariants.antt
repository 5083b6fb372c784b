use Rattle.std.proofs.Common.{◌≡◌, ◌-◌, ◌<◌, ◌≤◌, ◌==◌, ◌||◌, ℕ, false}
use Rattle.lr_product.specs.Extension.{can_rise as can_rise_at}
use Rattle.lr_product.proofs.letters.first_with_room.Given as goal

abbrev pub invariant-loop-letter : goal.invariant-loop-letter
invariant-loop-letter l = record {
  tried : (b : ℕ) → l.from ≤ b → b < l.letter → ((b == 0) || can_rise_at l.bound (b - 1) l.numbers) ≡ false;
}
