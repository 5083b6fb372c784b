-- Lists of terms with partitions as labels and fractions as coefficients.
use Rattle.std.specs.Prelude.{ℕ, nat_eq, Bool, List}
use Rattle.std.specs.Cmp.Lexicographic.{pointwise}
use Rattle.sym_model.specs.Expansion.{Fraction, Terms}
use Rattle.sym_model.specs.LabelLimits.{is_label}
pub use Rattle.linear_combinations.specs.Entries.{IsWholeTable}
use Rattle.sparse_polys.specs.Combination.{coefficient, IsCombination}

-- whether two labels are the same
abbrev pub equal : List ℕ → List ℕ → Bool
equal = pointwise nat_eq

-- the coefficient of a label in a list of terms; 0 if the label does not occur
abbrev pub found : Terms (List ℕ) → List ℕ → Fraction
found terms label = coefficient equal terms label

-- the list of terms is a table: each label is a partition within the limits and occurs only once, and each coefficient is in lowest terms and not 0
abbrev pub IsFractionTable : Terms (List ℕ) → Type 0
IsFractionTable terms = IsCombination equal is_label terms
