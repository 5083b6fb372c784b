-- A summand has been added for each term visited so far, unless its value is 0. These terms, followed by the remaining ones, are all terms.
use Rattle.std.proofs.Common.{◌≡◌, ℕ, ℤ, List, ◌++◌, map, ◌+ℤ◌, ◌*ℤ◌}
use Rattle.std.specs.Map.Iter.{deref_pair}
use Rattle.sym_model.specs.PlaceOrders.{minus_one_to}
use Rattle.linear_combinations.specs.Gains.{over}
use Rattle.monk_product.specs.RowProducts.{IsNullAt, sum_over}
use Rattle.monk_product.proofs.row_summands.Row.add_summands.Given as goal

abbrev pub invariant-loop-w : goal.invariant-loop-w
invariant-loop-w l = record {
  sums : (f : ℕ → List ℕ → ℤ) → IsNullAt l.self.letters l.self.letter (f l.degree)
      → sum_over f l.summands.items ≡ sum_over f l.fn.summands.items
      +ℤ minus_one_to l.degree *ℤ over (f l.degree) (map deref_pair l.yielded);
  so_far : map deref_pair l.yielded ++ l.w-iterator ≡ l.initial.w-iterator;
}
