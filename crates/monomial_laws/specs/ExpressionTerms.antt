-- Expressions as lists of terms in the monomial basis m with integer coefficients.
--
-- Let D be the common denominator of an expression E, and V its cleared value, which is D·E, a polynomial
-- with integer coefficients. A conversion into m computes D and a list of terms in m with the value V:
--   a number, a fraction     the one term of the empty label
--   a basis element          the lists of e_k, h_k or p_k, multiplied over the parts k of the label
--   a negation               each coefficient negated
--   a sum, a difference      both lists multiplied so that the denominator is the least common multiple, then added or subtracted
--   a product                `product_coefficient` of the two lists
-- At the end each coefficient is divided by D, and the fraction reduced to lowest terms. So every number that is computed is a
-- coefficient of the cleared value of a subexpression, and the weight of E (specs/Weight) is a bound for it.
use Rattle.std.specs.Prelude.{ℕ, ◌*◌, ◌/◌, ◌<◌, ℤ, pos, nat_abs, ◌*ℤ◌, List, [], ◌∷◌, map}
use Rattle.std.specs.Prelude.{replicate}
use Rattle.sym_model.specs.Polynomial.{Poly, Same}
use Rattle.sym_model.specs.Bases.{monomial}
use Rattle.sym_model.specs.PartitionList.{partitions_of}
use Rattle.sym_model.specs.Expansion.{Terms, Fraction}
use Rattle.sym_model.specs.Expression.{Tree, number, fraction, atom, negation, sum, difference}
use Rattle.sym_model.specs.Expression.{product, cleared_value}
use Rattle.sym_model.specs.WholeTerms.{WholeTerms, combined}

-- the polynomial in n variables that a list of terms in the monomial basis m denotes: the sum of c·m_λ over its terms (λ, c)
abbrev pub in_monomials : WholeTerms → ℕ → Poly
in_monomials terms n = combined (λ label. monomial label n) terms

-- for every n, the polynomial in n variables of this list of terms c·m_λ is f n
abbrev pub IsList : WholeTerms → (ℕ → Poly) → Type 0
IsList terms f = (n : ℕ) → Same (in_monomials terms n) (f n)

-- in every number of variables, the polynomial of this list of terms in m is the cleared value of the expression e
abbrev pub IsCleared : WholeTerms → Tree → Type 0
IsCleared terms e = IsList terms (cleared_value e)

-- e_k as a list of terms in m: the partition of k ones, with the coefficient 1
abbrev pub elementary_terms : ℕ → WholeTerms
elementary_terms k = (replicate k 1, pos 1) ∷ []

-- h_k as a list of terms in m: all partitions of k, with the coefficient 1
abbrev pub complete_terms : ℕ → WholeTerms
complete_terms k = map (λ (parts : List ℕ). (parts, pos 1)) (partitions_of k)

-- p_k as a list of terms in m, for k ≥ 1: the partition (k), with the coefficient 1
abbrev pub power_sum_terms_of : ℕ → WholeTerms
power_sum_terms_of k = ((k ∷ []), pos 1) ∷ []

-- the list of terms with each coefficient replaced by its absolute value
abbrev pub absolute : WholeTerms → WholeTerms
absolute terms = map (λ (t : List ℕ × ℤ). (t.0, pos (nat_abs t.1))) terms

-- `over q terms`: the list of terms with each coefficient num/den replaced by the integer num·(q/den), for a common denominator q
abbrev pub over : ℕ → Terms (List ℕ) → WholeTerms
over q terms = map (λ (t : List ℕ × Fraction). (t.0, t.1.0 *ℤ pos (q / t.1.1))) terms

-- each fraction of the expression has a positive denominator
abbrev pub HasDenominators : Tree → Type 0
HasDenominators (number a) = Unit {0}
HasDenominators (fraction a b) = 0 < b
HasDenominators (atom basis parts) = Unit {0}
HasDenominators (negation e) = HasDenominators e
HasDenominators (sum e f) = HasDenominators e × HasDenominators f
HasDenominators (difference e f) = HasDenominators e × HasDenominators f
HasDenominators (product e f) = HasDenominators e × HasDenominators f
