-- Several factors multiplied one after another, and the product reduced after each factor. The *classical product* of some partitions in k variables
-- is the list of terms that expands the product of their Schur polynomials.
use Rattle.std.specs.Prelude.{ℕ, List, [], ◌∷◌, ℤ, flat_map, ◌<◌}
use Rattle.sym_model.specs.Sum.{Among}
use Rattle.sym_model.specs.Polynomial.{scale}
use Rattle.sym_model.specs.Partition.{rows}
use Rattle.sym_model.specs.Expansion.{Terms}
use Rattle.sym_model.specs.WholeTerms.{WholeTerms, WholeTermsOf, numerators}
use Rattle.sym_model.specs.Products.{classical_product}
use Rattle.sym_model.specs.Reductions.{reduced_terms, reflected_terms}
use Rattle.beta_list_laws.specs.ReductionLists.{reductions_of}
use Rattle.sym_model.specs.ReductionSteps.{with_power}

-- the product of `terms` and s_next in k variables: for each term c·s_λ of `terms`, c times the classical product of λ and `next`
abbrev pub multiplied : ℕ → List ℕ → WholeTerms → WholeTerms
multiplied k next terms =
    flat_map (λ (t : List ℕ × ℤ). scale t.1 (classical_product k (t.0 ∷ next ∷ []))) terms

-- the product of `terms` and s_next in k variables, reflected into the alcove of level n - k: for each term c·s_λ of `terms`, c times the classical
-- product of λ and `next`, reflected into this alcove
abbrev pub fused : ℕ → ℕ → List ℕ → WholeTerms → WholeTerms
fused k n next terms =
    flat_map (λ (t : List ℕ × ℤ). scale t.1
    (reflected_terms k n (classical_product k (t.0 ∷ next ∷ [])))) terms

-- the list that joins, for each term c·s_λ of `terms`, the terms of `products λ` with their coefficients multiplied by c
abbrev pub products_of : (List ℕ → Terms (List ℕ)) → WholeTerms → WholeTerms
products_of products terms =
    flat_map (λ (t : List ℕ × ℤ). scale t.1 (numerators (products t.0))) terms

-- the classical product of the factors in k variables, with each of its labels reduced by rim hooks of n cells
abbrev pub reduced_product : ℕ → ℕ → List (List ℕ) → WholeTermsOf (ℕ × List ℕ)
reduced_product k n factors =
    reduced_terms (classical_product k factors) (reductions_of k n (classical_product k factors))

-- the product of `terms` and s_next in k variables, reduced by rim hooks of n cells: for each term c·q^power·s_λ of `terms`, c·q^power times the
-- reduced classical product of λ and `next`
abbrev pub quantized : ℕ → ℕ → List ℕ → WholeTermsOf (ℕ × List ℕ) → WholeTermsOf (ℕ × List ℕ)
quantized k n next terms =
    flat_map (λ (t : (ℕ × List ℕ) × ℤ). with_power t.0.0 t.1
    (reduced_product k n (t.0.1 ∷ next ∷ []))) terms

-- lists of terms with integer coefficients; a label is a pair of a power of q and a partition
abbrev pub PowerTerms : Type 0
PowerTerms = WholeTermsOf (ℕ × List ℕ)

-- some factor has more than k rows
abbrev pub HasLong : ℕ → List (List ℕ) → Type 0
HasLong k factors = (parts : List ℕ) × Among parts factors × (k < rows parts)
