-- The skew Schur polynomials of shape/inner, for the partitions `inner` inside a shape, as lists of terms.
use Rattle.std.specs.Prelude.{ℕ, List, None}
use Rattle.sym_model.specs.WholeTerms.{WholeTerms, as_fractions}
use Rattle.sym_model.specs.Products.{ExpandsInSchurs}
use Rattle.sym_model.specs.PastLimit.{HasPast, IsCoefficientOfSkew}
use Rattle.sym_model.specs.Schur.{skew_schur}
use Rattle.lr_coproduct.specs.InnerShapeList.{IsAt}

-- the list expands the skew Schur polynomial of shape/inner in Schur polynomials, and no coefficient of this polynomial exceeds 2^127 - 1
pub record IsSkewList (shape inner : List ℕ) (list : WholeTerms) : Type 0 where
  pub meets : ExpandsInSchurs None (skew_schur shape inner) (as_fractions list)
  pub fits : HasPast (IsCoefficientOfSkew None shape inner) → ⊥

-- for each index i of both `inners` and `lists`: if `inner` is the partition of `inners` at i, the list of `lists` at i expands the skew Schur
-- polynomial of shape/inner (`IsSkewList`)
pub record HaveSkewLists (shape : List ℕ) (inners : List (List ℕ))
    (lists : List (WholeTerms)) : Type 0 where
  pub at_index : (i : ℕ) (inner : List ℕ) (list : WholeTerms) → IsAt inners i inner
      → IsAt lists i list → IsSkewList shape inner list
