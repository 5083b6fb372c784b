use Rattle.std.proofs.Common.{◌≡◌, ℕ, ◌++◌, map}
use Rattle.std.specs.Map.Iter.{deref_pair}
use Rattle.sparse_polys.specs.Combination.{terms_of}
use Rattle.linear_combinations.specs.Cleared.{IsCommonDenominator}
use Rattle.sparse_polys.specs.Families.{polynomial_of}
use Rattle.strip_rules.proofs.ListProducts.{AddsList}
use Rattle.strip_rules.proofs.products.times_family.Given as goal

-- the products of e_k, h_k or p_k and the terms of the list visited so far have been added to the table
abbrev pub invariant-loop-label : goal.invariant-loop-label
invariant-loop-label g l =
    let value = g.R.Scalar.value in
    record {
      sums :
          (q : ℕ) → IsCommonDenominator q (terms_of value l.list)
          → AddsList (polynomial_of l.family l.k) l.k q (terms_of value l.list) (terms_of value (map deref_pair l.yielded)) (terms_of value l.sum);
      so_far : map deref_pair l.yielded ++ l.label-iterator ≡ l.initial.label-iterator;
    }
