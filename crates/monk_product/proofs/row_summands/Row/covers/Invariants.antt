-- `sum` has the covers of the terms visited so far, not all (`GainsExcept`). These terms, followed by the remaining ones, are all terms.
use Rattle.std.proofs.Common.{◌≡◌, ◌-◌, [], ◌++◌, map}
use Rattle.std.specs.Map.Iter.{deref_pair}
use Rattle.linear_combinations.specs.Gains.{replaced}
use Rattle.monk_product.specs.RowProducts.{GainsExcept, signed_covers}
use Rattle.monk_product.proofs.row_summands.Row.covers.Given as goal

abbrev pub invariant-loop-w : goal.invariant-loop-w
invariant-loop-w l = record {
  gains : GainsExcept l.self.letters (l.self.letter - 1) []
      (replaced (signed_covers l.self.letters l.self.letter) (map deref_pair l.yielded)) l.sum;
  so_far : map deref_pair l.yielded ++ l.w-iterator ≡ l.initial.w-iterator;
}
