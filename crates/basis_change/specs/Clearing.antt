-- Lists of terms in the monomial basis m with integer coefficients: a bound for the coefficients, the relation that a list in another basis is q
-- times such a list, and a multiple of the list in augmented monomials (m_λ times the factorials of the multiplicities of its parts).
use Rattle.std.specs.Prelude.{ℕ, ◌/◌, ◌*◌, ◌≤◌, ℤ, pos, nat_abs, ◌*ℤ◌, List, [], map}
use Rattle.sym_model.specs.Sum.{Among}
use Rattle.sym_model.specs.Partition.{size}
use Rattle.sym_model.specs.Polynomial.{Same, scale}
use Rattle.sym_model.specs.Expansion.{Basis, monomials, elementaries, completes, power_sums, schurs}
use Rattle.sym_model.specs.Expansion.{basis_polynomial}
use Rattle.sym_model.specs.ListWeight.{factorials}
use Rattle.sym_model.specs.Weight.{factorial}
use Rattle.sym_model.specs.WholeTerms.{WholeTerms, combined}
use Rattle.monomial_laws.specs.ExpressionTerms.{in_monomials}
use Rattle.basis_change_laws.specs.AugmentedMonomial.{multiplicity_factorials}
use Rattle.basis_change.specs.AugmentedProducts.{Mixed}

-- |c|·Π λ_i! ≤ N·|λ|! for each term of the list with the label λ and the coefficient c
abbrev pub IsBoundedBy : ℕ → WholeTerms → Type 0
IsBoundedBy N terms =
    (t : List ℕ × ℤ) → Among t terms → nat_abs t.1 * factorials t.0 ≤ N * factorial (size t.0)

-- the polynomial of the second list, whose labels are read in the given basis, is q times that of the first list, which is in m, in every number of
-- variables
abbrev pub IsMultipleIn : Basis → ℕ → WholeTerms → WholeTerms → Type 0
IsMultipleIn basis q terms answer =
    (n : ℕ) → Same (combined (λ label. basis_polynomial basis label n) answer)
    (scale (pos q) (in_monomials terms n))

-- the number that clears the fractions if a list in m with integer coefficients and labels of at most d cells is changed into the basis: d! for e, h
-- and p, and 1 for m and s
abbrev pub clearing_factor : Basis → ℕ → ℕ
clearing_factor monomials d = 1
clearing_factor elementaries d = factorial d
clearing_factor completes d = factorial d
clearing_factor power_sums d = factorial d
clearing_factor schurs d = 1

-- c times the quotient, rounded down, of `factor` by the product of the factorials of the multiplicities of the parts of the label
abbrev pub augmented_number : ℕ → List ℕ → ℤ → ℤ
augmented_number factor label c = c *ℤ pos (factor / multiplicity_factorials label)

-- `factor` times a list in m, written in augmented monomials, if `factor` is a multiple of the product of the factorials of the multiplicities of the
-- parts, for each label
abbrev pub augmented_terms : ℕ → WholeTerms → Mixed
augmented_terms factor terms =
    map (λ (t : List ℕ × ℤ). (([], t.0), augmented_number factor t.0 t.1)) terms

-- for each label, the product of the factorials of the multiplicities of its parts is at most `factor`
abbrev pub HasFactors : ℕ → WholeTerms → Type 0
HasFactors factor terms =
    (t : List ℕ × ℤ) → Among t terms → multiplicity_factorials t.0 ≤ factor
