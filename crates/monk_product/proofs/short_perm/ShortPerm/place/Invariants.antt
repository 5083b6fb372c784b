-- The letter is not at a place before `place`.
use Rattle.std.proofs.Common.{◌<◌, ◌≤◌, ◌-◌}
use Rattle.schubert_laws.specs.Chains.{letters_before}
use Rattle.monk_product.proofs.short_perm.ShortPerm.place.Given as goal

abbrev pub invariant-loop-place : goal.invariant-loop-place
invariant-loop-place l = (l.place ≤ letters_before l.letter l.self-inside.letters)
    × (letters_before l.letter l.self-inside.letters < 32)

abbrev pub decreases-loop-place : goal.decreases-loop-place
decreases-loop-place l = 32 - l.place
