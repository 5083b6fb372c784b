-- So far, the product with the terms that the loop has visited has been added.
use Rattle.std.proofs.Common.{◌≡◌, ◌++◌, map}
use Rattle.std.specs.Map.Iter.{deref_pair}
use Rattle.linear_combinations.specs.Gains.{Gains, replaced}
use Rattle.monk_product.proofs.ElementaryProducts.{elementary_terms}
use Rattle.monk_product.proofs.chains.add_elementary_product.Given as goal

abbrev pub invariant-loop-w : goal.invariant-loop-w
invariant-loop-w l = record {
  gains : Gains l.fn.sum (replaced (elementary_terms l.d l.k l.z) (map deref_pair l.yielded)) l.sum;
  so_far : map deref_pair l.yielded ++ l.w-iterator ≡ l.initial.w-iterator;
}
