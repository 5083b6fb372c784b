-- Sums of alternants and of Schur polynomials over the good tableaux of outer/inner with entries from 1 to n (Stembridge, A concise proof of the
-- Littlewood–Richardson rule). A tableau is good for a partition `start` if start plus the content of its last k columns is a partition for each k.
-- ω(T) is the content of T.
use Rattle.std.specs.Prelude.{◌≡◌, ℕ, ◌≤◌, pos, List, flat_map}
use Rattle.sym_model.specs.Sum.{Among}
use Rattle.sym_model.specs.Polynomial.{Poly, coefficient, join}
use Rattle.sym_model.specs.Partition.{IsPartition, rows, without_last_zeros}
use Rattle.sym_model.specs.Schur.{content, letters_of, schur}
use Rattle.sym_model.specs.Alternant.{alternant, staircase}
use Rattle.sym_model.specs.Expansion.{Fraction, Terms}
use Rattle.sym_model.specs.WholeTerms.{AreWhole, numerators}
use Rattle.sym_model.specs.GoodTableau.{good_tableaux}

-- the sum of a_(start + ω(T) + ρ) over the tableaux T of outer/inner with entries from 1 to n that are good for start (`good_tableaux`); ω(T) is the
-- content of T
abbrev pub good_alternants : ℕ → List ℕ → List ℕ → List ℕ → Poly
good_alternants n start outer inner =
    flat_map (λ filling. alternant
    (join (join start (content n (letters_of filling))) (staircase n)))
    (good_tableaux n start outer inner)

-- start + (m_1, .., m_n), without the zeros at its end; m_i is the number of entries i in the filling
abbrev pub start_plus_content : ℕ → List ℕ → List (List ℕ) → List ℕ
start_plus_content n start filling =
    without_last_zeros (join start (content n (letters_of filling)))

-- the sum of s_(start + ω(T)), in n variables, over the tableaux T of outer/inner with entries from 1 to n that are good for start (`good_tableaux`);
-- ω(T) is the content of T
abbrev pub good_schurs : ℕ → List ℕ → List ℕ → List ℕ → Poly
good_schurs n start outer inner =
    flat_map (λ filling. schur (start_plus_content n start filling) n)
    (good_tableaux n start outer inner)

-- all coefficients of the terms are integers, all labels are partitions with at most k rows, and for each partition λ with at most k rows the
-- coefficients of the terms with the label λ add up to `count` λ
pub record ListsCounts (k : ℕ) (count : List ℕ → ℕ) (terms : Terms (List ℕ)) : Type 0 where
  pub whole : AreWhole terms
  pub labels : (t : List ℕ × Fraction) → Among t terms → IsPartition t.0 × (rows t.0 ≤ k)
  pub counts : (parts : List ℕ) → IsPartition parts → rows parts ≤ k
      → coefficient (numerators terms) parts ≡ pos (count parts)
