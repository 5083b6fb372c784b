-- The list has the covers that exchange the letter at `place` with one of the earlier letters tried so far.
use Rattle.std.proofs.Common.{◌≡◌, ◌+◌, map}
use Rattle.sym_model.specs.Partition.{after}
use Rattle.sym_model.specs.Permutation.{covers_among, times_swap}
use Rattle.perm_codes.proofs.covers.covers_below.Given as goal

abbrev pub invariant-loop-other : goal.invariant-loop-other
invariant-loop-other l =
    l.covers.items ≡ covers_among l.letters (map (λ i. times_swap i (l.place + 1) l.letters) (after 0 l.other))
