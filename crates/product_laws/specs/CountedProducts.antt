-- Lower bounds for coefficients of products of Schur polynomials, and the number of variables in which a product is computed.
use Rattle.std.specs.Prelude.{◌≡◌, ℕ, ◌≤◌, pos, ◌≤ℤ◌, List, Option, Some, None}
use Rattle.sym_model.specs.Polynomial.{coefficient}
use Rattle.sym_model.specs.Partition.{IsPartition, rows}
use Rattle.sym_model.specs.WholeTerms.{WholeTerms}

-- the list has a coefficient of at least c, at some partition with at most k rows
pub record Reaches (k c : ℕ) (terms : WholeTerms) : Type 0 where
  pub parts : List ℕ
  pub partition : IsPartition parts
  pub within : rows parts ≤ k
  pub reaches : pos c ≤ℤ coefficient terms parts

-- k is the number of variables of a product: the given number or, if no number is given, some number that is at least `row_count`, a bound for the
-- rows of the labels of the product
abbrev pub IsShownIn : Option ℕ → ℕ → ℕ → Type 0
IsShownIn None row_count k = row_count ≤ k
IsShownIn (Some given) row_count k = given ≡ k
