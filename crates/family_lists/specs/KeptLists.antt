-- Maps from partitions to values, for example lists of terms, as lists of entries (partition, value).
use Rattle.std.specs.Prelude.{◌≡◌, ◌⊎◌, ℕ, List, [], ◌∷◌, ◌++◌, slice_get, Some}
use Rattle.sym_model.specs.Sum.{Among}

-- the statement that the property `IsListOf` holds of the partition and the value of each entry
abbrev pub AreListsOf : {X : Type 0} → (List ℕ → X → Type 0) → List (List ℕ × X) → Type 0
AreListsOf {X} IsListOf lists = (l : List ℕ × X) → Among l lists → IsListOf l.0 l.1

-- the entry at the index `at` has the partition `parts`, with some value
abbrev pub StandsAt : {X : Type 0} → List (List ℕ × X) → List ℕ → ℕ → Type 0
StandsAt {X} lists parts at = (value : X) × (slice_get lists at ≡ Some (parts, value))

-- the new list of entries is the old one, or the old one with the entry (label, value) appended
abbrev pub HasKept : {X : Type 0} → List ℕ → X → List (List ℕ × X) → List (List ℕ × X) → Type 0
HasKept {X} label value old new = (new ≡ old) ⊎ (new ≡ old ++ (label, value) ∷ [])
