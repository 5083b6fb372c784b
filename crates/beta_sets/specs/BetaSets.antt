-- Partitions as sets of beta numbers (James and Kerber, 2.7). A set is stored as one number: its binary digit at the place b is 1 if b is in the set,
-- and 0 otherwise.
use Rattle.std.specs.Prelude.{◌≡◌, ℕ, zero, suc, ◌+◌, ◌-◌, ◌*◌, ◌/◌, ◌%◌, ◌^◌, ◌<◌, ◌≤◌, true, nat_eq}
use Rattle.std.specs.Prelude.{nat_le, nat_lt, not, cond, ℤ, List, [], ◌∷◌, ◌++◌, map, filter, length}
use Rattle.std.specs.Ordering.{nat_cmp}
use Rattle.std.specs.declared.cmp.Ordering.{Ordering}
use Rattle.sym_model.specs.Bases.{has}
use Rattle.sym_model.specs.BetaList.{beta, from_beta}
use Rattle.sym_model.specs.Partition.{IsPartition, rows, size}
use Rattle.sym_model.specs.WholeTerms.{WholeTerms, WholeTermsOf}
use Rattle.fraction_laws.specs.Fractions.{whole}
use Rattle.linear_combinations.specs.Entries.{IsCombination}
use Rattle.linear_combinations.specs.Gains.{HaveLabels}

-- the places of the digits 1 among the k lowest binary digits of n, in decreasing order
unfoldable pub places : ℕ → ℕ → List ℕ
places zero n = []
places (suc k) n = map suc (places k (n / 2)) ++ cond (nat_eq (n % 2) 1) (0 ∷ []) []

-- the beta numbers in a set, which is stored as a number below 2^64, in decreasing order
abbrev pub numbers : ℕ → List ℕ
numbers set = places 64 set

-- for a list of different numbers b: the set of these numbers, stored as the sum of the 2^b
unfoldable pub set_of : List ℕ → ℕ
set_of [] = 0
set_of (b ∷ beads) = 2 ^ b + set_of beads

-- those numbers b of the list such that b + k is not in the list
abbrev pub free : ℕ → List ℕ → List ℕ
free k beads = filter (λ b. not (has (b + k) beads)) beads

-- the numbers of the list that are at least `place`; `below_place` has the numbers less than `place`
abbrev pub from_place : ℕ → List ℕ → List ℕ
from_place place beads = filter (λ b. nat_le place b) beads

abbrev pub below_place : ℕ → List ℕ → List ℕ
below_place place beads = filter (λ b. nat_lt b place) beads

-- the partition whose beta numbers are the numbers in the set
abbrev pub shape : ℕ → List ℕ
shape set = from_beta (numbers set)

-- for a set of at most n numbers, read as a beta set: the beta set of the same partition for n rows
abbrev pub in_rows : ℕ → ℕ → ℕ
in_rows n set = (set + 1) * 2 ^ (n - length (numbers set)) - 1

-- `number` is the greatest number in `set` and is below 64, and `others` is the set of the other numbers
pub record IsSplit (set number others : ℕ) : Type 0 where
  pub numbers : numbers set ≡ number ∷ numbers others
  pub sum : set ≡ 2 ^ number + others
  pub less : others < 2 ^ number
  pub place : number < 64

-- the numbers in `set` are the beta numbers of the partition ν for k rows
pub record IsBetaSet (ν : List ℕ) (k set : ℕ) : Type 0 where
  pub partition : IsPartition ν
  pub enough : rows ν ≤ k
  pub numbers : numbers set ≡ beta k ν

-- `set` is a set of n numbers below 64, and its partition has at most d cells
pub record IsInRows (n d set : ℕ) : Type 0 where
  pub word : set < 2 ^ 64
  pub rows : length (numbers set) ≡ n
  pub cells : size (shape set) ≤ d

-- the numbers in `set` are the beta numbers of a partition of at most d cells for k rows, where k is the number of rows of the partition
pub record IsShape (d set : ℕ) : Type 0 where
  pub beta : IsBetaSet (shape set) (rows (shape set)) set
  pub cells : size (shape set) ≤ d
  pub low : set < 2 ^ (d + 1)

-- each label of the list is the beta set of a partition of at most d cells for k rows, where k is the number of rows of the partition
abbrev pub AreShapes : ℕ → WholeTermsOf ℕ → Type 0
AreShapes d terms = HaveLabels (IsShape d) terms

-- the list of beta sets with integers is a table: no label occurs twice, and no coefficient is 0
abbrev pub IsShapeTable : WholeTermsOf ℕ → Type 0
IsShapeTable terms = IsCombination nat_eq (λ s. true) whole terms

-- the list with each beta set replaced by its partition
abbrev pub shapes : WholeTermsOf ℕ → WholeTerms
shapes terms = map (λ (t : ℕ × ℤ). (shape t.0, t.1)) terms

-- the order of beta sets in which the greater one, as a number, comes first; for the partitions of one size, with a fixed number of rows, this is the
-- printed order
abbrev pub falling : ℕ → ℕ → Ordering
falling a b = nat_cmp b a
