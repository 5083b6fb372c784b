use Rattle.std.proofs.Common.{◌≡◌, ◌++◌, map}
use Rattle.std.specs.Map.Iter.{deref_pair}
use Rattle.linear_combinations.specs.Entries.{coefficient, IsCombination, IsSumOf, IsRefused}
use Rattle.linear_combinations.proofs.lin.Lin.add_all.Given as goal

-- the map is the map at the start plus the pairs visited so far. For each label, the checked addition of its coefficient in the map at the start and
-- its coefficient in the visited pairs has a result
abbrev pub invariant-loop-label : goal.invariant-loop-label
invariant-loop-label g l = record {
  was : IsCombination g.L.PartialEq.eq g.L.Label.is_label g.R.Scalar.value l.fn.self;
  is : IsCombination g.L.PartialEq.eq g.L.Label.is_label g.R.Scalar.value l.self;
  sums : IsSumOf g.L.PartialEq.eq g.R.Scalar.zero g.R.Scalar.sum l.fn.self (map deref_pair l.yielded) l.self;
  fits : (q : g.row.L.Denot) → IsRefused g.R.Scalar.is_held g.R.Scalar.checked_sum (coefficient g.L.PartialEq.eq g.R.Scalar.zero l.fn.self q) (coefficient g.L.PartialEq.eq g.R.Scalar.zero (map deref_pair l.yielded) q) → ⊥;
  so_far : map deref_pair l.yielded ++ l.label-iterator ≡ l.initial.label-iterator;
}
