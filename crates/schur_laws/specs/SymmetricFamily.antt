-- Families of symmetric polynomials, one for each number of variables (Macdonald, I.2: the symmetric functions).
use Rattle.std.specs.Prelude.{◌≡◌, ℕ, ◌<◌, ◌≤◌, pos, List}
use Rattle.sym_model.specs.Polynomial.{Poly, Same, In, coefficient, restrict}
use Rattle.sym_model.specs.Partition.{size}
use Rattle.sym_model.specs.Symmetric.{Symmetric}

-- f is a family of symmetric polynomials: for every n, f n is a symmetric polynomial in n variables; and for k ≤ n, f n with all variables after the
-- k-th set to 0 is f k
pub record IsSymmetricFamily (f : ℕ → Poly) : Type 0 where
  pub variables : (n : ℕ) → In n (f n)
  pub symmetric : (n : ℕ) → Symmetric (f n)
  pub compatible : (k n : ℕ) → k ≤ n → Same (restrict k (f n)) (f k)

-- f has degree at most d: the coefficient of every monomial of degree greater than d is 0
abbrev pub HasDegreeAtMost : ℕ → Poly → Type 0
HasDegreeAtMost d f = (α : List ℕ) → d < size α → coefficient f α ≡ pos 0
