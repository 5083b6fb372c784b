-- The terms of a product that are listed one at a time.
use Rattle.std.specs.Prelude.{◌≡◌, ℕ, ◌^◌, ◌<◌, ◌≤◌, true, false, List}
use Rattle.sym_model.specs.Canonical.{is_printable}
use Rattle.sym_model.specs.GoodTableau.{product_count}
use Rattle.sym_model.specs.LabelLimits.{is_label}
use Rattle.sym_model.specs.Partition.{IsPartition, rows}
use Rattle.sym_model.specs.PrintedOrder.{printed_order}
use Rattle.sym_model.specs.WholeTerms.{WholeTerms, as_fractions}
use Rattle.fraction_laws.specs.Fractions.{whole}
use Rattle.linear_combinations.specs.Entries.{IsCanonicalList}
use Rattle.lr_product.specs.Counts.{HasCounts, IsPastSomewhere}

-- The list is canonical. If all its coefficients are less than 2^127 (`is_printable`), it has the coefficients of the product of the Schur polynomials
-- of `left` and `right` in n variables, which are then all less than 2^127; otherwise one of them is 2^127 or more.
pub record ListsProduct (n : ℕ) (left right : List ℕ) (terms : WholeTerms) : Type 0 where
  pub canonical : IsCanonicalList printed_order is_label whole terms
  pub counts : is_printable (as_fractions terms) ≡ true → HasCounts n (product_count n left right) terms
  pub fits : is_printable (as_fractions terms) ≡ true → (parts : List ℕ) → IsPartition parts → rows parts ≤ n
      → product_count n left right parts < 2 ^ 127
  pub past : is_printable (as_fractions terms) ≡ false → IsPastSomewhere n (product_count n left right)
