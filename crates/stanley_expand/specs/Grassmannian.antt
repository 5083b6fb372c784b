-- Grassmannian permutations and their partitions (Macdonald, Notes on Schubert polynomials,
-- I and IV).
use Rattle.std.specs.Prelude.{ℕ, zero, suc, ◌+◌, ◌-◌, ◌<◌, ◌≤◌, List, [], ◌∷◌}
use Rattle.sym_model.specs.BetaList.{from_beta}
use Rattle.sym_model.specs.Permutation.{IsOneLine, letter, last_descent_place}
use Rattle.schubert_laws.specs.TransitionOrder.{IsShort}

-- the letters at the places 1 to m are increasing
abbrev pub RisesTo : ℕ → List ℕ → Type 0
RisesTo m u = (i : ℕ) → 1 ≤ i → i < m → letter u i < letter u (i + 1)

-- a permutation with no descent except possibly at place m
pub record IsGrassmannian (m : ℕ) (u : List ℕ) : Type 0 where
  pub one_line : IsOneLine u
  pub rises : RisesTo m u
  pub last : last_descent_place u ≤ m

-- a permutation of at most n letters that is increasing at the places 1 to m
pub record IsRising (m n : ℕ) (u : List ℕ) : Type 0 where
  pub short : IsShort n u
  pub rises : RisesTo m u

-- the letters of a permutation at the places m, .., 1, each minus 1
abbrev pub front_beta : ℕ → List ℕ → List ℕ
front_beta zero u = []
front_beta (suc i) u = (letter u (suc i) - 1) ∷ front_beta i u

-- the partition of the parts u(i) - i for i from m down to 1
abbrev pub front_shape : ℕ → List ℕ → List ℕ
front_shape m u = from_beta (front_beta m u)
