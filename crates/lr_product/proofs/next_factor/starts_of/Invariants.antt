use Rattle.std.proofs.Common.{◌≡◌, ℕ, List, ◌++◌, map}
use Rattle.lr_product.specs.Capped.{Agree}
use Rattle.lr_product.specs.WeighedSum.{started, weighed}
use Rattle.lr_product.proofs.next_factor.starts_of.Given as goal

-- the states of the table are the labels (partitions) of the terms visited so far; the count of each state is the coefficient of its term
abbrev pub invariant-loop-label : goal.invariant-loop-label
invariant-loop-label l = record {
  width : l.table.width ≡ l.letters;
  counts :
      (f : List ℕ → List ℕ → ℕ)
      → Agree (weighed l.letters f l.table.entries) (started l.letters f (map (λ item. item.now) l.yielded));
  so_far : map (λ item. item.now) l.yielded ++ l.label-iterator.rest.now ≡ l.initial.label-iterator.rest.now;
}
