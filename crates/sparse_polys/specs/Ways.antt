-- The search for the partitions in m_λ·m_μ builds a partition part by part. A state of the search consists of the parts of λ and of μ that remain,
-- and of the number of ways to reach these.
use Rattle.std.specs.Prelude.{◌≡◌, ℕ, Bool, ◌&&◌, not, nat_le, slice_index, drop, ◌+◌, ◌-◌, ◌*◌}
use Rattle.std.specs.Prelude.{◌^◌, ◌<◌, true, cond, min, List, [], ◌∷◌, map, All}
use Rattle.sym_model.specs.Partition.{IsPartition, size}
use Rattle.sym_model.specs.Bases.{has}
use Rattle.sym_model.specs.Sum.{Once}
use Rattle.sym_model.specs.RaisedPart.{without_one}
use Rattle.monomial_laws.specs.MonomialProduct.{arrangements}
use Rattle.sparse_polys.specs.declared.states.State.{State}

-- the number, or 2^128 - 1 if it is greater
abbrev pub capped : ℕ → ℕ
capped n = min n (2 ^ 128 - 1)

-- the remaining parts of λ (`left`) and those of μ (`right`) in a state
abbrev pub labels_left : State → List ℕ × List ℕ
labels_left s = (s.left.items, s.right.items)

-- the sum, over the states, of the count of the state times the number of ways to write ν as the sum of an arrangement of the remaining parts of λ
-- and an arrangement of the remaining parts of μ
abbrev pub ways : List State → List ℕ → ℕ
ways [] ν = 0
ways (s ∷ states) ν = s.count * arrangements s.left.items s.right.items ν + ways states ν

-- `one` and `other` are partitions whose sizes add up to `left`
pub record IsRest (left : ℕ) (one other : List ℕ) : Type 0 where
  pub first : IsPartition one
  pub second : IsPartition other
  pub sizes : size one + size other ≡ left

-- in each state, the remaining parts of λ and those of μ are partitions, and all these parts add up to `left`
abbrev pub AreStates : ℕ → List State → Type 0
AreStates left states = All (λ (s : State). IsRest left s.left.items s.right.items) states

-- no two states have the same remaining parts of λ and also the same remaining parts of μ
abbrev pub LeaveOnce : List State → Type 0
LeaveOnce states = Once (map labels_left states)

-- if b is a part of `other` or 0: the number of ways to write ν as the sum of an arrangement of `one` without one part a and an arrangement of
-- `other` without one part b; otherwise 0
abbrev pub taken : List ℕ → List ℕ → ℕ → ℕ → List ℕ → ℕ
taken one other a b ν =
    cond (has b (0 ∷ other)) (arrangements (without_one a one) (without_one b other) ν) 0

-- some number of the list is greater than the given number
abbrev pub HasPartAbove : ℕ → List ℕ → Type 0
HasPartAbove part parts = (k : ℕ) × (has k parts ≡ true) × (part < k)

-- whether the part at index i is at most the given number and does not occur after index i
abbrev pub is_choice_at : List ℕ → ℕ → ℕ → Bool
is_choice_at parts i part =
    nat_le (slice_index parts i) part && not (has (slice_index parts i) (drop (i + 1) parts))
