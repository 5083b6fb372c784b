-- Lists of numbers within bounds.
use Rattle.std.specs.Prelude.{◌≡◌, ℕ, ◌<◌, ◌≤◌, List, [], ◌∷◌}

-- each number of the list is at most the bound
abbrev pub AreAtMost : ℕ → List ℕ → Type 0
AreAtMost bound [] = Unit {0}
AreAtMost bound (a ∷ numbers) = (a ≤ bound) × AreAtMost bound numbers

-- each number of the list is less than the bound
abbrev pub AreBelow : ℕ → List ℕ → Type 0
AreBelow bound [] = Unit {0}
AreBelow bound (a ∷ numbers) = (a < bound) × AreBelow bound numbers

-- each number of the list is at least the bound
abbrev pub AreAtLeast : ℕ → List ℕ → Type 0
AreAtLeast bound [] = Unit {0}
AreAtLeast bound (a ∷ numbers) = (bound ≤ a) × AreAtLeast bound numbers

-- each number of the list is a letter of the alphabet 1, .., n
abbrev pub AreLetters : ℕ → List ℕ → Type 0
AreLetters n [] = Unit {0}
AreLetters n (a ∷ w) = ((1 ≤ a) × (a ≤ n)) × AreLetters n w

-- no number of the list is k
abbrev pub Lacks : ℕ → List ℕ → Type 0
Lacks k [] = Unit {0}
Lacks k (a ∷ numbers) = (a ≡ k → ⊥) × Lacks k numbers
