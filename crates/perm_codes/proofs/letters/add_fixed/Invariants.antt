-- The list has the given letters, followed by fixed letters up to the current place; a letter is fixed if it is equal to its place, counted from 1.
use Rattle.std.proofs.Common.{◌≡◌, ◌-◌, ◌≤◌, ◌++◌, length}
use Rattle.sym_model.specs.Partition.{after}
use Rattle.perm_codes.proofs.letters.add_fixed.Given as goal

abbrev pub invariant-loop-at : goal.invariant-loop-at
invariant-loop-at l =
    (l.at - length l.letters ≤ l.last - length l.letters)
    × (l.list.items ≡ l.letters ++ after (length l.letters) (l.at - length l.letters))
