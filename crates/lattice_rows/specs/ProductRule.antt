-- The rule for the product of the Schur polynomials of two partitions, and the terms that are made from the labels that a walk lists.
use Rattle.std.specs.Prelude.{◌≡◌, ℕ, ◌+◌, ◌^◌, ◌<◌, ◌≤◌, List, [], ◌∷◌, take, pos}
use Rattle.sym_model.specs.Sum.{Among}
use Rattle.sym_model.specs.Partition.{IsPartition, part, rows, without_last_zeros}
use Rattle.sym_model.specs.WholeTerms.{WholeTerms}
use Rattle.partitions.specs.Limits.{IsWithinLimits}

-- the fields of the rule for the product of two partitions, the inner shape and the content
pub record IsRule (inner content : List ℕ) (letters length : ℕ) (padded outside : List ℕ) : Type 0 where
  pub inner_partition : IsPartition inner
  pub content_partition : IsPartition content
  pub some : 2 ≤ letters
  pub few : letters ≤ 8
  pub letters_are : letters ≡ rows content
  pub rows_are : length ≡ rows inner + rows content
  pub content_is : take letters padded ≡ content
  pub inner_is : outside ≡ inner
  pub short : part inner 1 + part content 1 ≤ 255

-- the labels without the zeros at their ends, with their counts as coefficients
abbrev pub labelled : List (List ℕ × ℕ) → WholeTerms
labelled [] = []
labelled (t ∷ terms) = (without_last_zeros t.0, pos t.1) ∷ labelled terms

-- each label without the zeros at its end is a partition with at most 512 rows and 4,096 cells
abbrev pub AreLimited : List (List ℕ × ℕ) → Type 0
AreLimited [] = Unit {0}
AreLimited (t ∷ terms) = IsWithinLimits (without_last_zeros t.0) × AreLimited terms

-- each count is less than 2^127
abbrev pub AreSmall : List (List ℕ × ℕ) → Type 0
AreSmall [] = Unit {0}
AreSmall (t ∷ terms) = (t.1 < 2 ^ 127) × AreSmall terms

-- some count is 2^127 or more
abbrev pub HasLarge : List (List ℕ × ℕ) → Type 0
HasLarge terms = (t : List ℕ × ℕ) × Among t terms × (2 ^ 127 ≤ t.1)
