-- Lists in which the entry at the index k is p_k, k!·e_k or k!·h_k as a list of terms in a target basis e, h or p.
use Rattle.std.specs.Prelude.{ℕ, zero, suc, ◌-◌, ◌*◌, ◌^◌, ◌<◌, List, [], ◌∷◌}
use Rattle.sym_model.specs.Polynomial.{Poly}
use Rattle.sym_model.specs.Weight.{factorial}
use Rattle.sym_model.specs.WholeTerms.{WholeTerms}
use Rattle.basis_change_laws.specs.JoinedLists.{Stands}
use Rattle.sparse_polys.specs.declared.family.Family.{Family}
use Rattle.sparse_polys.specs.declared.family.Family.TheVariants.{Elementary, Complete, PowerSum}
use Rattle.sparse_polys.specs.Families.{polynomial_of}

-- the list at the index i of a list of lists; empty if i is after the last index
abbrev pub list_at : List WholeTerms → ℕ → WholeTerms
list_at [] i = []
list_at (m ∷ lists) zero = m
list_at (m ∷ lists) (suc i) = list_at lists i

-- the factor that clears the fractions if e_k, h_k or p_k is expanded in e, h or p: k! for e_k and h_k, 1 for p_k
abbrev pub over_number : Family → ℕ → ℕ
over_number Elementary k = factorial k
over_number Complete k = factorial k
over_number PowerSum k = 1

-- a bound for the sum of the absolute values of the coefficients in an expansion of k!·e_k, k!·h_k or p_k, according to the family e, h or p
abbrev pub most_in : Family → ℕ → ℕ
most_in Elementary k = factorial k * 2 ^ k
most_in Complete k = factorial k * 2 ^ k
most_in PowerSum k = 2 ^ k - 1

-- the list is an expansion of k!·e_k, k!·h_k or p_k, according to the family e, h or p; a label of the list denotes the product of the polynomials P
-- over its parts. The absolute values of the coefficients add up to at most `most_in family k`, and the labels are partitions of at most k cells.
abbrev pub IsFactor : (ℕ → ℕ → Poly) → Family → ℕ → WholeTerms → Type 0
IsFactor P family k list =
    Stands P (over_number family k) (most_in family k) k (λ n. polynomial_of family k n) list

-- for each k from 1 to d - 1, the list at the index k is an expansion of k!·e_k, k!·h_k or p_k, according to the family e, h or p, with the bounds of
-- `IsFactor`: the absolute values of its coefficients add up to at most 2^k - 1 for p_k, and to at most k!·2^k for k!·e_k and k!·h_k
abbrev pub AreFactors : (ℕ → ℕ → Poly) → Family → ℕ → List WholeTerms → Type 0
AreFactors P family d lists =
    (k : ℕ) → 0 < k → k < d → IsFactor P family k (list_at lists k)

-- for k from 1 to d - 1, the list at index k is p_k, and the absolute values of its coefficients add up to at most 2^k - 1
abbrev pub ArePowers : (ℕ → ℕ → Poly) → ℕ → List WholeTerms → Type 0
ArePowers P d lists = AreFactors P PowerSum d lists
