-- The terms of a product that are listed one at a time.
use Rattle.std.specs.Prelude.{◌≡◌, ℕ, true, false, List, None}
use Rattle.sym_model.specs.Canonical.{is_printable}
use Rattle.sym_model.specs.LabelLimits.{is_label}
use Rattle.sym_model.specs.PastLimit.{HasPast, IsCoefficientOfProduct}
use Rattle.sym_model.specs.PrintedOrder.{printed_order}
use Rattle.sym_model.specs.Products.{ExpandsInSchurs, schur_product}
use Rattle.sym_model.specs.WholeTerms.{WholeTerms, as_fractions}
use Rattle.fraction_laws.specs.Fractions.{whole}
use Rattle.linear_combinations.specs.Entries.{IsCanonicalList}

-- The list is canonical. If all its coefficients are less than 2^127 (`is_printable`), it expands the product of the Schur polynomials of the factors,
-- of which then no coefficient exceeds 2^127 - 1; otherwise some coefficient of the product does.
pub record ListsProductOf (factors : List (List ℕ)) (terms : WholeTerms) : Type 0 where
  pub canonical : IsCanonicalList printed_order is_label whole terms
  pub meets : is_printable (as_fractions terms) ≡ true
      → ExpandsInSchurs None (schur_product factors) (as_fractions terms)
  pub fits : is_printable (as_fractions terms) ≡ true → HasPast (IsCoefficientOfProduct None factors) → ⊥
  pub past : is_printable (as_fractions terms) ≡ false → HasPast (IsCoefficientOfProduct None factors)
