use Rattle.std.proofs.Common.{◌≡◌, ◌+◌, ◌-◌, map}
use Rattle.lr_product.specs.Extension.{numbers_from}
use Rattle.lr_product.specs.LastRows.{chains}
use Rattle.lr_product.proofs.last_rows.next_chains.Given as goal

abbrev pub invariant-loop-end : goal.invariant-loop-end
invariant-loop-end l = record {
  end : l.end-end ≡ l.rows.upper_end + 1;
  counts : l.counts.items ≡ map (λ k. chains l.rows.upper_outside l.rows.lower_outside l.content l.numbers (l.at + 1) k l.above) (numbers_from l.rows.upper_outside (l.end - l.rows.upper_outside));
}
