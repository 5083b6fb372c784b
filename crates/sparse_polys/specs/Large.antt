-- Lists of terms with a coefficient that has an absolute value of 2^127 or more.
use Rattle.std.specs.Prelude.{◌^◌, ◌≤◌, ◌⊎◌, ℕ, nat_abs, ℤ, pos, ◌≤ℤ◌, List}
use Rattle.sym_model.specs.Partition.{IsPartition}
use Rattle.sym_model.specs.Polynomial.{coefficient, plus, scale}
use Rattle.sym_model.specs.WholeTerms.{WholeTerms}
use Rattle.monomial_laws.specs.MonomialProduct.{product_coefficient}
use Rattle.monomial_laws.specs.ExpressionTerms.{absolute}

-- some coefficient of a partition has an absolute value of 2^127 or more
pub record HasLarge (terms : WholeTerms) : Type 0 where
  pub label : List ℕ
  pub partition : IsPartition label
  pub large : 2 ^ 127 ≤ nat_abs (coefficient terms label)

-- at some partition, p times the first list, q times the second, or the sum of these two multiples has a coefficient with an absolute value of 2^127
-- or more
abbrev pub SumIsLarge : WholeTerms → WholeTerms → ℤ → ℤ → Type 0
SumIsLarge first second p q =
    HasLarge (scale p first) ⊎ HasLarge (scale q second)
    ⊎ HasLarge (plus (scale p first) (scale q second))

-- replace the coefficients of two expansions in m by their absolute values: the product of the resulting expansions has at some partition a
-- coefficient of 2^127 or more
abbrev pub ProductIsLarge : WholeTerms → WholeTerms → Type 0
ProductIsLarge first second =
    (ν : List ℕ) × IsPartition ν × (pos (2 ^ 127)
    ≤ℤ product_coefficient (absolute first) (absolute second) ν)
