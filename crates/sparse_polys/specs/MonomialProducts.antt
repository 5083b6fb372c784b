-- Products of expansions in m, given as lists of terms.
use Rattle.std.specs.Prelude.{◌≡◌, ◌⊎◌, ℕ, ◌+◌, ◌*◌, ◌^◌, ◌<◌, ◌≤◌, max, ◌≤ℤ◌, pos, List, [], ◌∷◌}
use Rattle.std.specs.Prelude.{map, All}
use Rattle.sym_model.specs.Sum.{Among}
use Rattle.sym_model.specs.Partition.{IsPartition, size}
use Rattle.sym_model.specs.PartitionList.{partitions_of}
use Rattle.sym_model.specs.ListWeight.{common_denominator}
use Rattle.sym_model.specs.Expansion.{Terms, IsExpansionOf, denominators, monomials, value}
use Rattle.sym_model.specs.Polynomial.{times}
use Rattle.sym_model.specs.WholeTerms.{WholeTerms}
use Rattle.linear_combinations.specs.Gains.{replaced}
use Rattle.monomial_laws.specs.MonomialProduct.{arrangements, product_coefficient}
use Rattle.monomial_laws.specs.ExpressionTerms.{over, absolute}
use Rattle.sparse_polys.specs.declared.search.Counted.{Counted}

-- the greatest size of a label of the list; 0 for the empty list
abbrev pub greatest_size : {R : Type 0} → List (List ℕ × R) → ℕ
greatest_size [] = 0
greatest_size (t ∷ terms) = max (size t.0) (greatest_size terms)

-- the count of each entry is below 2^127
abbrev pub AreSmall : List Counted → Type 0
AreSmall terms = All (λ (t : Counted). t.count < 2 ^ 127) terms

-- the count of some entry is 2^127 or more
abbrev pub HasLarge : List Counted → Type 0
HasLarge terms = (t : Counted) × Among t terms × (2 ^ 127 ≤ t.count)

-- m_λ·m_μ as a list of terms: all partitions of |λ| + |μ|, each with its coefficient in the product
abbrev pub product_terms : List ℕ → List ℕ → WholeTerms
product_terms left right =
    map (λ (ν : List ℕ). (ν, pos (arrangements left right ν)))
    (partitions_of (size left + size right))

-- the product of two expansions in m, as a list of terms
abbrev pub products : WholeTerms → WholeTerms → WholeTerms
products left right = replaced (λ l. replaced (product_terms l) right) left

-- the last list is the product of the first two, as expansions in m, in every number of variables
abbrev pub IsProductInMonomials : Terms (List ℕ) → Terms (List ℕ) → Terms (List ℕ) → Type 0
IsProductInMonomials left right product =
    (n : ℕ) → IsExpansionOf monomials product n
    (times (value monomials left n) (value monomials right n))
    (denominators left * denominators right)

-- the size of each label of the third list is the sum of the size of some label of the first list and the size of some label of the second
abbrev pub AreSums : {R : Type 0} → List (List ℕ × R) → List (List ℕ × R) → List (List ℕ × R)
    → Type 0
AreSums {R} left right product =
    (t : List ℕ × R) → Among t product
    → (l r : List ℕ × R) × Among l left × Among r right × (size l.0 + size r.0 ≡ size t.0)

-- Let q be the product of the least common denominators of two expansions in m, and replace all their coefficients by their absolute values. Then q
-- is 2^127 or more, or the product of the resulting expansions has a coefficient that is 2^127 or more if multiplied by q.
abbrev pub IsTooLarge : Terms (List ℕ) → Terms (List ℕ) → Type 0
IsTooLarge left right =
    let d = common_denominator left in
    let e = common_denominator right in
    (2 ^ 127 ≤ d * e)
    ⊎ ((ν : List ℕ) × IsPartition ν
    × (pos (2 ^ 127) ≤ℤ product_coefficient (absolute (over d left))
    (absolute (over e right)) ν))
