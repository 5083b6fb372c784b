use Rattle.std.proofs.Common.{◌+◌, ◌-◌, take, drop, flat_map}
use Rattle.sym_model.specs.Partition.{after}
use Rattle.sym_model.specs.Permutation.{with_fixed}
use Rattle.linear_combinations.specs.Gains.{Gains, each_with}
use Rattle.monk_product.specs.ShortPerms.{IsGreatestBelow}
use Rattle.monk_product.proofs.ChainLists.{ends_to, ends_at}
use Rattle.monk_product.proofs.chains.+chains.Given as goal

abbrev pub decreases-add_chains : goal.decreases-add_chains
decreases-add_chains l = l.d + l.d

abbrev pub decreases-add_chains_at : goal.decreases-add_chains_at
decreases-add_chains_at l = l.left + l.left + 1

-- `c` has been added at the ends of the chains in whose first cover the greater letter is at a place from k on, before `place`, counted from 0
abbrev pub invariant-add_chains-loop-place : goal.invariant-add_chains-loop-place
invariant-add_chains-loop-place l =
    Gains l.fn.sum (each_with l.c (flat_map (ends_to l.most (l.d - 1) l.k l.n l.w) (take (l.place - l.k) (drop l.k (with_fixed l.n l.w))))) l.sum

-- `c` has been added at the ends of the chains in whose first cover the smaller letter is at a place from `at` on, counted from 0; `low` is the
-- greatest letter less than `letter` from this place on, before `place`
abbrev pub invariant-add_chains_at-loop-at : goal.invariant-add_chains_at-loop-at
invariant-add_chains_at-loop-at l = record {
  low : IsGreatestBelow l.letter (take (l.place - l.at) (drop l.at (with_fixed 32 l.w))) l.low;
  gains : Gains l.fn.sum (each_with l.c (flat_map (ends_at l.letter l.left l.k l.n l.w l.place) (after l.at (l.k - l.at)))) l.sum;
}
