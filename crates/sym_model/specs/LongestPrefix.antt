-- The longest prefix of a list that has a property.
use Rattle.std.specs.Prelude.{ℕ, ◌≤◌, List, length, take}

-- k is the length of the longest prefix of the list xs that has the property `Begins`
pub record IsLongestPrefix {A : Type 0} (Begins : List A → Type 0) (xs : List A)
    (k : ℕ) : Type 0 where
  pub within : k ≤ length xs
  pub begins : Begins (take k xs)
  pub longest : (j : ℕ) → j ≤ length xs → Begins (take j xs) → j ≤ k
