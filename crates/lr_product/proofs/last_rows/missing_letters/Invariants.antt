use Rattle.std.proofs.Common.{◌≡◌, ℕ, ◌*◌, ◌<◌, ◌≤◌, length, get_or}
use Rattle.lr_product.specs.LastRows.{missing}
use Rattle.lr_product.proofs.last_rows.missing_letters.Given as goal

abbrev pub invariant-loop-at : goal.invariant-loop-at
invariant-loop-at l = record {
  end : l.at-end ≡ length l.content;
  count : l.missing ≡ missing l.at l.content l.numbers;
  small : l.missing ≤ l.at * 65535;
  inside : (j : ℕ) → j < l.at → get_or l.numbers j 0 ≤ get_or l.content j 0;
}
