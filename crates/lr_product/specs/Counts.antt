-- Counts of good tableaux T by the partition start + content(T). A tableau is good for start if start plus the content of its last k columns is a
-- partition for each k.
use Rattle.std.specs.Prelude.{◌≡◌, ℕ, ◌^◌, ◌≤◌, nat_eq, ℤ, pos, List, []}
use Rattle.std.specs.Cmp.Lexicographic.{pointwise}
use Rattle.sym_model.specs.Sum.{Among}
use Rattle.sym_model.specs.LabelLimits.{is_label}
use Rattle.sym_model.specs.Partition.{IsPartition, rows}
use Rattle.sym_model.specs.Polynomial.{coefficient, resize}
use Rattle.sym_model.specs.WholeTerms.{WholeTerms}
use Rattle.fraction_laws.specs.Fractions.{whole}
use Rattle.linear_combinations.specs.Entries.{IsCombination}
use Rattle.tableau_laws.specs.ColumnFold.{column_lines}
use Rattle.lr_product.specs.WeighedSum.{over_states, comes_to}

-- the number of good tableaux T of outer/inner for start, with entries from 1 to n, such that start + content(T) = parts; defined column by column
abbrev pub good_count : ℕ → List ℕ → List ℕ → List ℕ → List ℕ → ℕ
good_count n start outer inner parts =
    over_states n (column_lines outer inner) (comes_to parts) (resize n start) []

-- there is a partition with at most n rows whose count is 2^127 or more
pub record IsPastSomewhere (n : ℕ) (count : List ℕ → ℕ) : Type 0 where
  pub parts : List ℕ
  pub partition : IsPartition parts
  pub within : rows parts ≤ n
  pub past : 2 ^ 127 ≤ count parts

-- The label of each term is a partition with at most k rows, no label occurs twice, and no coefficient is 0. The coefficient of each partition with
-- at most k rows (0 if it is not a label) is given by `count`.
pub record HasCounts (k : ℕ) (count : List ℕ → ℕ) (terms : WholeTerms) : Type 0 where
  pub table : IsCombination (pointwise nat_eq) is_label whole terms
  pub labels : (t : List ℕ × ℤ) → Among t terms → IsPartition t.0 × (rows t.0 ≤ k)
  pub counts : (parts : List ℕ) → IsPartition parts → rows parts ≤ k
      → coefficient terms parts ≡ pos (count parts)
