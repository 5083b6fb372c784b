-- The permutations that are values of the type `Perm`, and the lists of letters and the codes for which `Perm` returns errors. A letter of a
-- permutation is *fixed* if it is equal to its place, counted from 1.
use Rattle.std.specs.Prelude.{◌≡◌, ℕ, ◌+◌, ◌<◌, ◌≤◌, List, length, take, slice_index}
use Rattle.sym_model.specs.Sum.{Among}
use Rattle.sym_model.specs.PlaceOrders.{inversions}
use Rattle.sym_model.specs.Permutation.{IsOneLine, IsKept}

-- a permutation of 1 to 255 letters
pub record IsShortPermutation (w : List ℕ) : Type 0 where
  pub one_line : IsOneLine w
  pub some : 0 < length w
  pub few : length w ≤ 255

-- a permutation of at most 255 letters without fixed letters at its end, except that the identity is the one letter 1
pub record IsWithinLimits (w : List ℕ) : Type 0 where
  pub kept : IsKept w
  pub few : length w ≤ 255

-- w satisfies `IsWithinLimits`, and `count` is the number of its inversions
pub record HasInversions (w : List ℕ) (count : ℕ) : Type 0 where
  pub limits : IsWithinLimits w
  pub count_is : count ≡ inversions w

-- the letter at the place `at`, counted from 0, is one of the numbers from 1 to the number of
-- letters and occurs at no place before
pub record IsNewLetter (w : List ℕ) (at : ℕ) : Type 0 where
  pub positive : 1 ≤ slice_index w at
  pub within : slice_index w at ≤ length w
  pub new : ¬ Among (slice_index w at) (take at w)

-- the place `at`, counted from 0, is the first whose letter is not new (`IsNewLetter`)
pub record OffendsFirstAt (w : List ℕ) (at : ℕ) : Type 0 where
  pub inside : at < length w
  pub offends : ¬ IsNewLetter w at
  pub before : (k : ℕ) → k < at → IsNewLetter w k

-- the place `at`, counted from 0, is the first whose entry is greater than the number of entries
-- after it
pub record ExceedsFirstAt (code : List ℕ) (at : ℕ) : Type 0 where
  pub inside : at < length code
  pub exceeds : length code < slice_index code at + at + 1
  pub before : (k : ℕ) → k < at → slice_index code k + k + 1 ≤ length code
