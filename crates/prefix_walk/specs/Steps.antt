-- The steps of a state: pairs of an entry and the state that it leads to.
use Rattle.std.proofs.Common.{ℕ, ◌==◌, cond, List}
use Rattle.std.specs.List.{sum_by}

-- f of the state of a step with the entry a; of another step 0
abbrev pub if_entry : {S : Type 0} → ℕ → (S → ℕ) → ℕ × S → ℕ
if_entry a f step = cond (step.0 == a) (f step.1) 0

-- the sum of f over the states of the steps with the entry a
abbrev pub sum_at : {S : Type 0} → ℕ → (S → ℕ) → List (ℕ × S) → ℕ
sum_at a f steps = sum_by (if_entry a f) steps
