use Rattle.std.proofs.Common.{◌≡◌, ◌≤◌, ℕ, ◌++◌, map}
use Rattle.std.specs.Map.Iter.{deref_pair}
use Rattle.sparse_polys.specs.LabelSizes.{AreWithin}
use Rattle.basis_change.proofs.clearing.greatest_size.Given as goal

abbrev pub invariant-loop-label : goal.invariant-loop-label
invariant-loop-label l = record {
  within : AreWithin l.greatest (map deref_pair l.yielded);
  least : (d : ℕ) → AreWithin d l.list → l.greatest ≤ d;
  so_far : map deref_pair l.yielded ++ l.label-iterator ≡ l.initial.label-iterator;
}
