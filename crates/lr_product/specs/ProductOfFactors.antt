-- Conditions on the list of terms of the product of some factors, under which it can be multiplied by the next factor.
use Rattle.std.specs.Prelude.{ℕ, ◌^◌, ◌+◌, ◌≤◌, ℤ, pos, ◌≤ℤ◌, ◌<ℤ◌, List}
use Rattle.sym_model.specs.Sum.{Among}
use Rattle.sym_model.specs.Polynomial.{coefficient}
use Rattle.sym_model.specs.Partition.{IsPartition, rows, size}
use Rattle.sym_model.specs.WholeTerms.{WholeTerms}

-- the coefficient of each label is from 0 to 2^127 - 1
abbrev pub AreSmallCounts : WholeTerms → Type 0
AreSmallCounts terms =
    (parts : List ℕ) → (pos 0 ≤ℤ coefficient terms parts)
    × (coefficient terms parts <ℤ pos (2 ^ 127))

-- the term t can be multiplied by the factor `next`: its label is a partition with at most k rows, the label and `next` together have at most 4096
-- cells, and its coefficient is positive
pub record MayMeet (k : ℕ) (next : List ℕ) (t : List ℕ × ℤ) : Type 0 where
  pub partition : IsPartition t.0
  pub few : rows t.0 ≤ k
  pub cells : size t.0 + size next ≤ 4096
  pub positive : pos 1 ≤ℤ t.1

-- each term of the list satisfies `MayMeet` for the factor `next`
abbrev pub AllMayMeet : ℕ → List ℕ → WholeTerms → Type 0
AllMayMeet k next terms = (t : List ℕ × ℤ) → Among t terms → MayMeet k next t
