-- Lists of waiting permutations, each with a factor, and the order in which they are kept. A permutation waits if the
-- transition rule has not yet replaced it.
use Rattle.std.specs.Prelude.{◌≡◌, ◌⊎◌, ℕ, ◌+◌, List, [], ◌∷◌, map, slice_index_or}
use Rattle.std.specs.Cmp.Lexicographic.{slice_cmp}
use Rattle.std.specs.List.{insert}
use Rattle.std.specs.List.Sorted.{IsPartitionPoint, IsStrictlySortedBy}
use Rattle.std.specs.declared.cmp.Ordering.{Ordering}
use Rattle.std.specs.declared.cmp.Ordering.TheVariants.{Less, Greater}
use Rattle.std.specs.Ordering.{nat_cmp, ordering_then}
use Rattle.sym_model.specs.PlaceOrders.{inversions}
use Rattle.transition_walk.specs.declared.todo.Waiting.{Waiting}
use Rattle.transition_walk.specs.Transitions.{weight}

-- the sum of the weights of the waiting permutations; each step of the transition rule decreases it
abbrev pub load : {F : Type 0} → List (Waiting F) → ℕ
load [] = 0
load (w ∷ todo) = weight w.perm + load todo

-- the entry of the list at the given index, counted from 0, has the given permutation
abbrev pub HasPermutation : {F : Type 0} → List ℕ → List (Waiting F) → ℕ → Type 0
HasPermutation {F} perm todo at = (w : Waiting F) → w ≡ slice_index_or todo at w → w.perm ≡ perm

-- the new list is the old one, or the old one with the element inserted at some place
abbrev pub MayGain : {A : Type 0} → List A → A → List A → Type 0
MayGain old x new = (new ≡ old) ⊎ ((at : ℕ) × (new ≡ insert old at x))

-- compares two permutations: first their numbers of inversions, and if these are equal, their letters in decreasing
-- lexicographic order; the transition rule replaces a permutation by lower ones
abbrev pub waiting_order : List ℕ → List ℕ → Ordering
waiting_order v w = ordering_then (nat_cmp (inversions v) (inversions w)) (slice_cmp nat_cmp w v)

-- the permutations of the entries of a list
abbrev pub permutations : {F : Type 0} → List (Waiting F) → List (List ℕ)
permutations {F} todo = map (λ (w : Waiting F). w.perm) todo

-- the permutations are strictly increasing in `waiting_order`, so no two are the same
abbrev pub AreInOrder : {F : Type 0} → List (Waiting F) → Type 0
AreInOrder todo = IsStrictlySortedBy waiting_order (permutations todo)

-- in `waiting_order`, the permutations of the entries before the index `at` are less than `perm`, and those from `at`
-- on are greater than `perm`
abbrev pub IsGapFor : {F : Type 0} → List ℕ → List (Waiting F) → ℕ → Type 0
IsGapFor {F} perm todo at =
    IsPartitionPoint (λ (w : Waiting F). waiting_order w.perm perm ≡ Less)
    (λ (w : Waiting F). waiting_order w.perm perm ≡ Greater) todo at
