use Rattle.std.proofs.Common.{◌≡◌, ℤ, ℕ, ◌≤◌, List, ◌++◌, map}
use Rattle.sym_model.specs.Sum.{Among}
use Rattle.sym_model.specs.Partition.{rows}
use Rattle.lr_product.proofs.next_factor.most_rows.Given as goal

-- no partition that is the label of a term visited so far has more than `most` rows
abbrev pub invariant-loop-label : goal.invariant-loop-label
invariant-loop-label l = record {
  most : (t : List ℕ × ℤ) → Among t (map (λ item. item.now) l.yielded) → rows t.0 ≤ l.most;
  within : l.most ≤ 512;
  so_far : map (λ item. item.now) l.yielded ++ l.label-iterator.rest.now ≡ l.initial.label-iterator.rest.now;
}
