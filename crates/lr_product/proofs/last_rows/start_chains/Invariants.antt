use Rattle.std.proofs.Common.{◌≡◌, ◌+◌, ◌-◌, ◌==◌, cond, map}
use Rattle.lr_product.specs.Extension.{numbers_from}
use Rattle.lr_product.proofs.last_rows.start_chains.Given as goal

abbrev pub invariant-loop-end : goal.invariant-loop-end
invariant-loop-end l = record {
  end : l.end-end ≡ l.last + 1;
  counts : l.counts.items ≡ map (λ k. cond (k == l.first) 1 0) (numbers_from l.first (l.end - l.first));
}
