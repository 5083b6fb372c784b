-- The commands that a user can give, each with its data as lists and numbers.
use Rattle.std.specs.Prelude.{ℕ, Bool, List, Option}
use Rattle.sym_model.specs.Expansion.{Basis}
use Rattle.sym_model.specs.Expression.{Tree}

-- a command with its data: partitions, permutations, words and column readings are lists of numbers, the factors of a
-- product are a list of partitions, and a tableau is the list of its rows
pub data Command : Type 0 where
  -- mult rows one_line factors: the product of the s_λ over the factors λ, expanded in Schur functions, or in the
  -- Schur polynomials in K variables if rows is Some K; printed on one line if one_line is true
  mult : Option ℕ → Bool → List (List ℕ) → Command
  -- skew rows one_line outer inner: s_(outer/inner) expanded in Schur functions, or in the Schur polynomials in K
  -- variables if rows is Some K; printed on one line if one_line is true
  skew : Option ℕ → Bool → List ℕ → List ℕ → Command
  -- coef outer left right: the coefficient of s_outer in the product of s_left and s_right
  coef : List ℕ → List ℕ → List ℕ → Command
  coprod : List ℕ → Command
  -- tab outer inner after: the lattice tableaux of outer/inner; if `after` is Some column reading, only those listed
  -- after the tableau with this reading
  tab : List ℕ → List ℕ → Option (List ℕ) → Command
  -- quantum rows columns factors: the product of the partitions `factors` in `rows` variables, reduced by rim hooks of
  -- rows + columns cells
  quantum : ℕ → ℕ → List (List ℕ) → Command
  -- fusion rows level factors: the fusion product of the partitions `factors` for this number of rows at this level
  fusion : ℕ → ℕ → List (List ℕ) → Command
  schubert : List ℕ → Command
  schubmult : List ℕ → List ℕ → Command
  -- expand target one_line expression: the expression expanded in the basis `target`; printed on one line if one_line
  -- is true
  expand : Basis → Bool → Tree → Command
  rsk : List ℕ → Command
  -- unrsk insertion_tableau recording_tableau: the word that the RSK correspondence maps to this pair of tableaux
  unrsk : List (List ℕ) → List (List ℕ) → Command
  -- rect outer inner rows: the rectification of the tableau of the shape outer/inner with these rows
  rect : List ℕ → List ℕ → List (List ℕ) → Command
  -- growth permutation: the growth grid of the permutation, the grid of partitions that Fomin's local rules give
  growth : List ℕ → Command
  -- plethysm target outer inner: outer[inner] expanded in the basis `target`, that is, the polynomial of `outer` with
  -- the monomials of `inner` in place of its variables
  plethysm : Basis → Tree → Tree → Command
  -- dschubmult left right: the product of the double Schubert polynomials of two permutations
  dschubmult : List ℕ → List ℕ → Command
  -- stanley variables permutation: the Stanley polynomial of the permutation in this number of variables, expanded in
  -- Schur polynomials
  stanley : ℕ → List ℕ → Command
  batch : Command
  -- work lines seed: `lines` command lines are generated from the seed and run; the answer gives the number of these
  -- lines, and the numbers of terms and of bytes in their answers
  work : ℕ → ℕ → Command
