use Rattle.std.proofs.Common.{◌≡◌, ◌++◌, map}
use Rattle.lr_coproduct.specs.PairTerms.{with_first}
use Rattle.lr_coproduct.proofs.pairs.add_pairs.Given as goal

-- the terms of the given list that the loop has visited so far have been appended to `pairs`, with the pair (first, ν) in place of each label ν
abbrev pub invariant-loop-second : goal.invariant-loop-second
invariant-loop-second l = record {
  adds : l.pairs.items ≡ l.initial.pairs.items ++ with_first l.first (map (λ item. item.now) l.yielded);
  so_far : map (λ item. item.now) l.yielded ++ l.second-iterator.rest.now ≡ l.initial.second-iterator.rest.now;
}
