-- The invariant of the loop: the exponents are the old ones with zeros appended.
use Rattle.std.proofs.Common.{◌≡◌, ℕ, ◌+◌, ◌-◌, ◌≤◌, ◌++◌, ◌⊎◌, length}
use Rattle.std.specs.Prelude.{replicate}
use Rattle.sparse_polys.proofs.monomial.raise.Given as goal

abbrev pub invariant-loop-exponents : goal.invariant-loop-exponents
invariant-loop-exponents l =
    (k : ℕ) × (l.exponents.items ≡ l.initial.exponents.items ++ replicate k 0) × ((k ≡ 0) ⊎ (length l.exponents.items ≤ l.at + 1))

abbrev pub decreases-loop-exponents : goal.decreases-loop-exponents
decreases-loop-exponents l = (l.at + 1) - length l.exponents.items
