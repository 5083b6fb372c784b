-- `pairs` has the terms visited so far, with their permutations converted to the type `Perm`. These terms, followed by the remaining ones, are all
-- terms.
use Rattle.std.proofs.Common.{◌≡◌, ◌++◌, map}
use Rattle.monk_product.proofs.short_monk.written_out.Given as goal

abbrev pub invariant-loop-w : goal.invariant-loop-w
invariant-loop-w l = record {
  written : l.pairs.items ≡ map (λ item. item.now) l.yielded;
  so_far : map (λ item. item.now) l.yielded ++ l.w-iterator.rest.now ≡ l.initial.w-iterator.rest.now;
}
