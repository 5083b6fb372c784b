-- Stanley polynomials: the symmetric functions of Stanley in m variables, defined as restrictions of Schubert
-- polynomials, after Lascoux and Schützenberger (Macdonald, Notes on Schubert polynomials, VII).
use Rattle.std.specs.Prelude.{ℕ, ◌+◌, List, ◌++◌, map}
use Rattle.sym_model.specs.Polynomial.{Poly}
use Rattle.sym_model.specs.Partition.{after}
use Rattle.sym_model.specs.Schubert.{schubert_in}

-- the permutation 1^m × w: the letters 1, .., m, and then the letters of w, each increased by m
abbrev pub behind : ℕ → List ℕ → List ℕ
behind m w = after 0 m ++ map (λ a. a + m) w

-- the Stanley polynomial of w in m variables: the Schubert polynomial of 1^m × w with all variables after x_m set to
-- 0
abbrev pub stanley_in : List ℕ → ℕ → Poly
stanley_in w m = schubert_in (behind m w) m
