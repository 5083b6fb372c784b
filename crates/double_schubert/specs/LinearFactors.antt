-- Products of factors x_r - y_c, given by the pairs of r and c.
use Rattle.std.specs.Prelude.{◌≡◌, ℕ, ◌+◌, ◌≤◌, List, [], ◌∷◌}
use Rattle.sym_model.specs.DoubleSchubert.{difference_in}
use Rattle.sym_model.specs.Permutation.{times_swap, covers_down}
use Rattle.sym_model.specs.Polynomial.{Poly, one, times}
use Rattle.sym_model.specs.Sum.{Among}

-- the polynomial p times the factors x_r - y_c for the pairs (r, c) of the list, in n variables x and n variables y
abbrev pub product_with : ℕ → List (ℕ × ℕ) → Poly → Poly
product_with n [] p = p
product_with n (f ∷ factors) p = times (difference_in f.0 f.1 n) (product_with n factors p)

-- the product of the factors x_r - y_c for the pairs (r, c) of the list, in n variables x and n variables y
abbrev pub product_in : ℕ → List (ℕ × ℕ) → Poly
product_in n factors = product_with n factors (one (n + n))

-- each of the indices r and c of x_r - y_c is from 1 to `most`
pub record IsFactorWithin (most : ℕ) (f : ℕ × ℕ) : Type 0 where
  pub first : 1 ≤ f.0
  pub last : f.0 ≤ most
  pub column : 1 ≤ f.1
  pub last_column : f.1 ≤ most

abbrev pub AreWithin : ℕ → List (ℕ × ℕ) → Type 0
AreWithin most factors = (f : ℕ × ℕ) → Among f factors → IsFactorWithin most f

-- v is w·t_rs and has no cover v·t_ir with i < r; so the transition rule for S_w at r and s has only one term, S_v times a linear factor
pub record IsOnlyLower (w : List ℕ) (r s : ℕ) (v : List ℕ) : Type 0 where
  pub lower : v ≡ times_swap r s w
  pub none : covers_down r (times_swap r s w) ≡ []
