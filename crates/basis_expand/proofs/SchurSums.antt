-- Schur polynomials as lists of terms c·m_κ, whose coefficients are Kostka numbers K(λ,κ).
--     coefficient-schur_sorted   the coefficient of a Schur polynomial at exponents in any order
--     list-schurs                a list in m whose coefficients are sums of c·K(λ,κ) is the sum of the c·s_λ
use Rattle.std.proofs.Common.{◌≡◌, ℕ, List, map, length, sym, ◌∙◌, ap, ◌*ℤ◌, rules}
use Rattle.std.proofs.lemmas.Bool.{cases_eq}
use Rattle.sym_model.specs.Sum.{Among}
use Rattle.sym_model.specs.Partition.{IsPartition, size, sorted_parts}
use Rattle.sym_model.specs.PartitionList.{partitions_of}
use Rattle.sym_model.specs.Polynomial.{Term, coefficient, pair, scale, In}
use Rattle.sym_model.specs.Schur.{schur}
use Rattle.sym_model.specs.WholeTerms.{WholeTerms, combined}
use Rattle.sym_model.proofs.Exponents.{same_from, same_apart}
use Rattle.sym_model.proofs.PartitionLists.{partitions_of-tells, Among-partitions_of, FallsLexicographically-partitions_within, Once-FallsLexicographically}
use Rattle.sym_model.proofs.Polynomials.{same_in, In_each, In_scale}
use Rattle.sym_model.proofs.SortedParts.{IsPartition-sorted_parts}
use Rattle.sym_model.proofs.Sums.{total_among, total_map, total_none, total_only}
use Rattle.sym_model.proofs.WholeTerms.{coefficient-combined}
use Rattle.monomial_laws.specs.ExpressionTerms.{in_monomials, IsList}
use Rattle.monomial_laws.proofs.PowerSumCoefficients.{coefficient-monomial_terms}
use Rattle.monomial_laws.proofs.SchurMajorants.{In-schur}
use Rattle.monomial_laws.proofs.Splits.{In-monomial_terms}
use Rattle.schur_laws.specs.Kostka.{kostka}
use Rattle.schur_laws.proofs.SchurLists.{list-schur, kostka-other_size}

-- the list of the terms K(shape,κ)·κ, for the partitions κ of the size of the shape, with K the Kostka number
abbrev kostka_terms : List ℕ → WholeTerms
kostka_terms shape = map (λ (κ : List ℕ). (κ, kostka shape κ)) (partitions_of (size shape))

coefficient-kostka_terms : (shape κ : List ℕ) → IsPartition shape → IsPartition κ → coefficient (kostka_terms shape) κ ≡ kostka shape κ
coefficient-kostka_terms shape κ p is =
    search (rules, total_map, cases_eq, total_only, Once-FallsLexicographically, FallsLexicographically-partitions_within, Among-partitions_of, same_apart, same_from, total_none, partitions_of-tells, kostka-other_size)

pub coefficient-schur_sorted : (shape α : List ℕ) (n : ℕ) → IsPartition shape → length α ≡ n → coefficient (schur shape n) α ≡ kostka shape (sorted_parts α)
coefficient-schur_sorted shape α n p long =
    sym (list-schur shape (kostka_terms shape) p (λ κ is. coefficient-kostka_terms shape κ p is) n α)
    ∙ coefficient-monomial_terms (kostka_terms shape) n α long
    ∙ coefficient-kostka_terms shape (sorted_parts α) p (IsPartition-sorted_parts α)

In-schurs : (terms : WholeTerms) (n : ℕ) → In n (combined (λ label. schur label n) terms)
In-schurs terms n = In_each n (λ (t : Term). scale t.1 (schur t.0 n)) terms (λ t m. In_scale n t.1 (schur t.0 n) (In-schur t.0 n))

pub list-schurs : (terms list : WholeTerms) → ((t : Term) → Among t terms → IsPartition t.0)
    → ((κ : List ℕ) → IsPartition κ → coefficient list κ ≡ pair terms (λ shape. kostka shape κ)) → IsList list (λ n. combined (λ label. schur label n) terms)
list-schurs terms list p h n =
    same_in n (in_monomials list n) (combined (λ label. schur label n) terms) (In-monomial_terms list n) (In-schurs terms n)
    (λ α long.
    coefficient-monomial_terms list n α long
    ∙ h (sorted_parts α) (IsPartition-sorted_parts α)
    ∙ total_among (λ (t : Term). t.1 *ℤ kostka t.0 (sorted_parts α)) (λ (t : Term). t.1 *ℤ coefficient (schur t.0 n) α) terms
    (λ t m. ap (λ z. t.1 *ℤ z) (sym (coefficient-schur_sorted t.0 α n (p t m) long)))
    ∙ sym (coefficient-combined (λ label. schur label n) terms α))
