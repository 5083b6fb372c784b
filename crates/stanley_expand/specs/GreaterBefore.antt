-- The number of greater letters before a letter of a permutation.
use Rattle.std.specs.Prelude.{ℕ, ◌-◌, ◌<◌, ◌≤◌, List, take}
use Rattle.sym_model.specs.BetaList.{greater}
use Rattle.sym_model.specs.Permutation.{letter}

-- the number of letters before place i that are greater than the letter there
abbrev pub greater_before : List ℕ → ℕ → ℕ
greater_before w i = greater (letter w i) (take (i - 1) w)

-- some letter of the permutation has more than m greater letters before it
abbrev pub HasMoreBefore : ℕ → List ℕ → Type 0
HasMoreBefore m w = (i : ℕ) × (1 ≤ i) × (m < greater_before w i)
