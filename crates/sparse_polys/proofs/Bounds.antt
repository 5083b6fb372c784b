-- Bounds for a list of terms in m that expands polynomials f(n), if each f(n) has a majorant that is a sum of at most N powers of x_1 + .. + x_n
-- with exponents up to d (`IsBounded`). The *weight* of an expression for the basis m bounds every number in its conversion into this basis.
--     coefficient-within         |c| ≤ N·`growth` for each coefficient c; for the basis m, `growth` is d^d, or 1 if d = 0
--     coefficient-higher_label   each label of a size above d has the coefficient 0
--     greatest-within            if each label has at most `limit` cells, the greatest size of a label is at most `limit`
--     past-weight                if the list of an expression has a coefficient c with |c| ≥ 2^127, the weight of the expression is 2^127 or more
use Rattle.std.proofs.Common.{◌≡◌, ◌⊎◌, inl, inr, ℕ, ◌*◌, ◌^◌, ◌<◌, ◌≤◌, List, [], ◌∷◌, length, sym, ◌∙◌, subst, refl, arith, pos, rules}
use Rattle.std.proofs.lemmas.Bool.{cases_lt}
use Rattle.linear_combinations.proofs.Found.{coefficient_of_term}
use Rattle.sparse_polys.specs.Tables.{IsWholeTable}
use Rattle.sparse_polys.specs.LabelSizes.{AreWithin}
use Rattle.sparse_polys.proofs.WholeLists.{label-partition, not_zero}
use Rattle.std.specs.Prelude.{nat_abs}
use Rattle.sym_model.specs.Polynomial.{Poly, coefficient}
use Rattle.sym_model.specs.Partition.{IsPartition, size}
use Rattle.sym_model.specs.Expansion.{Basis}
use Rattle.sym_model.specs.Expression.{Tree, degree, cleared_value}
use Rattle.sym_model.specs.Weight.{growth, numerator, weight}
use Rattle.sym_model.specs.WholeTerms.{WholeTerms}
use Rattle.sym_model.proofs.SortedParts.{sorted_parts-partition}
use Rattle.monomial_laws.specs.ExpressionTerms.{IsList, IsCleared, HasDenominators}
use Rattle.sparse_polys.specs.MonomialProducts.{greatest_size}
use Rattle.monomial_laws.specs.Majorant.{IsBounded}
use Rattle.monomial_laws.proofs.PowerSumCoefficients.{coefficient-monomial_terms}
use Rattle.monomial_laws.proofs.Majorants.{bounded_value, coefficient-higher}
use Rattle.monomial_laws.proofs.WeightBounds.{coefficient_within_growth, growth-within_weight}

-- if the list W in m expands the polynomials f(n) (`IsList`), the coefficient in W of a partition λ of n rows is that of x^λ in f(n)
pub coefficient-list : (W : WholeTerms) (f : ℕ → Poly) → IsList W f → (label : List ℕ) → IsPartition label → coefficient W label ≡ coefficient (f (length label)) label
coefficient-list W f h label p = search (rules, sorted_parts-partition, coefficient-monomial_terms)

pub coefficient-within : (N d : ℕ) (W : WholeTerms) (f : ℕ → Poly) → IsList W f → ((n : ℕ) → IsBounded N d n (f n)) → (label : List ℕ) → IsPartition label
    → nat_abs (coefficient W label) ≤ N * growth Basis.monomials d
coefficient-within N d W f h b label p =
    subst (λ z. nat_abs z ≤ N * growth Basis.monomials d) (sym (coefficient-list W f h label p))
    (coefficient_within_growth N d (length label) (f (length label)) (b (length label)) label refl)

pub coefficient-higher_label : (N d : ℕ) (W : WholeTerms) (f : ℕ → Poly) → IsList W f → ((n : ℕ) → IsBounded N d n (f n)) → (label : List ℕ) → IsPartition label → d < size label → coefficient W label ≡ pos 0
coefficient-higher_label N d W f h b label p high =
    coefficient-list W f h label p
    ∙ coefficient-higher N d (length label) (f (length label)) (b (length label)) label refl high

-- if the list `terms` expands the polynomials f, and `IsBounded N d n` holds of f(n) for each n, no label of the list has a size above d
pub AreWithin-list : (N d : ℕ) (terms : WholeTerms) (f : ℕ → Poly) → IsWholeTable terms → IsList terms f → ((n : ℕ) → IsBounded N d n (f n)) → AreWithin d terms
AreWithin-list N d terms f is h b t m = by (cases_lt d (size t.0))
  where
    by : (d < size t.0) ⊎ (size t.0 ≤ d) → size t.0 ≤ d
    by (inl high) =
        absurd
        (not_zero terms is t m
        (sym (coefficient_of_term terms is.distinct t m) ∙ coefficient-higher_label N d terms f h b t.0 (label-partition terms is t m) high))
    by (inr low) = low

pub AreWithin-cleared : (e : Tree) (terms : WholeTerms) → IsWholeTable terms → IsCleared terms e → AreWithin (degree e) terms
AreWithin-cleared e terms is h = AreWithin-list (numerator e) (degree e) terms (cleared_value e) is h (bounded_value e)

pub past-weight : (e : Tree) (W : WholeTerms) → HasDenominators e → IsCleared W e → (label : List ℕ) → IsPartition label → 2 ^ 127 ≤ nat_abs (coefficient W label)
    → 2 ^ 127 ≤ weight Basis.monomials e
past-weight e W d h label p large =
    let a = coefficient-within (numerator e) (degree e) W (cleared_value e) h (bounded_value e) label p in
    let b = growth-within_weight e d in
    three (2 ^ 127) (nat_abs (coefficient W label)) (numerator e * growth Basis.monomials (degree e)) (weight Basis.monomials e) large a b
  where
    three : (a b c d : ℕ) → a ≤ b → b ≤ c → c ≤ d → a ≤ d
    three a b c d h k l = omega arith

pub greatest-within : {R : Type 0} (limit : ℕ) (terms : List (List ℕ × R)) → AreWithin limit terms → greatest_size terms ≤ limit
greatest-within limit [] h = omega arith
greatest-within limit (t ∷ terms) h = let a = h t (inl refl) in let b = greatest-within limit terms (λ u m. h u (inr m)) in omega arith
