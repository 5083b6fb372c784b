use Rattle.std.proofs.Common.{◌≡◌, ◌<◌, ◌^◌, ◌++◌, map}
use Rattle.std.specs.Map.Iter.{deref_pair}
use Rattle.linear_combinations.specs.Cleared.{IsCommonDenominator}
use Rattle.basis_expand.proofs.through_schurs.denominator_of_all.Given as goal

-- the number `den` is a common denominator of the terms that the loop has visited; the visited terms, followed by the other terms, are all terms of
-- the list
abbrev pub invariant-loop-c : goal.invariant-loop-c
invariant-loop-c l = record {
  low : l.den < 2 ^ 127;
  common : IsCommonDenominator l.den (map deref_pair l.yielded);
  so_far : map deref_pair l.yielded ++ l.c-iterator ≡ l.initial.c-iterator;
}
