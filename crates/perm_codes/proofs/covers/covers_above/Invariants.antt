-- The list has the covers that exchange the letter at `place` with one of the later letters tried so far.
use Rattle.std.proofs.Common.{◌≡◌, ◌+◌, ◌-◌, map}
use Rattle.sym_model.specs.Partition.{after}
use Rattle.sym_model.specs.Permutation.{covers_among, times_swap}
use Rattle.perm_codes.proofs.covers.covers_above.Given as goal

abbrev pub invariant-loop-other : goal.invariant-loop-other
invariant-loop-other l =
    l.covers.items ≡ covers_among l.letters (map (λ j. times_swap (l.place + 1) j l.letters) (after (l.place + 1) (l.other - (l.place + 1))))
