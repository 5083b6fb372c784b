-- What it means that a list of terms is an expansion: of a product of Schur polynomials, a skew Schur polynomial or a
-- coproduct in Schur polynomials; or of a product of Schubert polynomials in Schubert polynomials. The product of Schur
-- polynomials in k variables is also defined as a list of terms.
use Rattle.std.specs.Prelude.{◌≡◌, ℕ, ◌+◌, ◌≤◌, nat_le, nat_lt, nat_abs, ℤ, List, [], ◌∷◌}
use Rattle.std.specs.Prelude.{map, Option, Some, None, filter}
use Rattle.sym_model.specs.Sum.{Among}
use Rattle.sym_model.specs.Polynomial.{Poly, one, times}
use Rattle.sym_model.specs.Partition.{size, rows}
use Rattle.sym_model.specs.PartitionList.{partitions_of}
use Rattle.sym_model.specs.Schur.{schur}
use Rattle.sym_model.specs.Alternant.{schur_coefficient}
use Rattle.sym_model.specs.DividedDifference.{x_to_in}
use Rattle.sym_model.specs.Schubert.{schubert_in}
use Rattle.sym_model.specs.DoubleSchubert.{double_schubert_in, shifted_in}
use Rattle.sym_model.specs.Expansion.{schurs, Fraction, Terms, Represents, IsExpansionOf}
use Rattle.sym_model.specs.Expansion.{pair_polynomial}
use Rattle.sym_model.specs.WholeTerms.{WholeTerms}

-- ---- products of Schur polynomials

-- the product of the Schur polynomials of the partitions `factors` in n variables; 1 if there is no factor
abbrev pub schur_product : List (List ℕ) → ℕ → Poly
schur_product [] n = one n
schur_product (parts ∷ []) n = schur parts n
schur_product (parts ∷ next ∷ factors) n = times (schur parts n) (schur_product (next ∷ factors) n)

-- the list of terms expands f in Schur polynomials: for every n, f n is the sum of c·s_λ in n variables over the terms
-- (λ, c). If a number k is given, f n must be this sum only for n = k, and each label must have at most k rows.
abbrev pub ExpandsInSchurs : Option ℕ → (ℕ → Poly) → Terms (List ℕ) → Type 0
ExpandsInSchurs None f terms = (n : ℕ) → IsExpansionOf schurs terms n (f n) 1
ExpandsInSchurs (Some k) f terms =
    IsExpansionOf schurs terms k (f k) 1 × ((t : List ℕ × Fraction) → Among t terms → rows t.0 ≤ k)

-- c is the coefficient of s_outer in the product s_left·s_right
abbrev pub IsProductCoefficientOf : List ℕ → List ℕ → List ℕ → ℤ → Type 0
IsProductCoefficientOf outer left right c =
    c ≡ schur_coefficient (rows outer) outer (schur_product (left ∷ right ∷ []) (rows outer))

-- the list of terms, whose labels are pairs (μ, ν) of partitions, is the coproduct of s_shape: for all n and k,
-- s_shape in n + k variables is the sum, over the terms ((μ, ν), c), of c times s_μ in the first n variables times s_ν
-- in the k others
abbrev pub IsCoproductOf : List ℕ → Terms (List ℕ × List ℕ) → Type 0
IsCoproductOf shape terms =
    (n k : ℕ) → Represents (pair_polynomial n k) terms (schur shape (n + k)) 1

-- the terms of the list whose coefficient is not 0
abbrev pub nonzero : WholeTerms → WholeTerms
nonzero terms = filter (λ (t : List ℕ × ℤ). nat_lt 0 (nat_abs t.1)) terms

-- the classical product of the factors in k variables, as a list of terms: the partitions with at most k rows whose
-- size is the sum of the sizes of the factors, each with its coefficient in the product of the s_λ over the factors λ;
-- partitions with the coefficient 0 are left out
abbrev pub classical_product : ℕ → List (List ℕ) → WholeTerms
classical_product k factors =
    nonzero
    (map (λ parts. (parts, schur_coefficient k parts (schur_product factors k)))
    (filter (λ parts. nat_le (rows parts) k) (partitions_of (size (map size factors)))))

-- ---- products of Schubert polynomials

-- the list of terms, whose labels are exponent lists, is the Schubert polynomial of w, in every number of variables
abbrev pub IsSchubertPolynomialOf : List ℕ → Terms (List ℕ) → Type 0
IsSchubertPolynomialOf w terms =
    (n : ℕ) → Represents (λ exponents. x_to_in exponents n) terms (schubert_in w n) 1

-- the list of terms, whose labels are permutations, expands the product of the Schubert polynomials of u and v in
-- Schubert polynomials, in every number n of variables
abbrev pub IsSchubertProductOf : List ℕ → List ℕ → Terms (List ℕ) → Type 0
IsSchubertProductOf u v terms =
    (n : ℕ) → Represents (λ w. schubert_in w n) terms (times (schubert_in u n) (schubert_in v n)) 1

-- the list of terms, whose labels (w, β) denote y^β·S_w(x; y), expands the product of the double Schubert polynomials
-- of u and v, in every number n of variables x and of variables y
abbrev pub IsDoubleProductOf : List ℕ → List ℕ → Terms (List ℕ × List ℕ) → Type 0
IsDoubleProductOf u v terms =
    (n : ℕ) → Represents (λ label. shifted_in label n) terms
    (times (double_schubert_in u n) (double_schubert_in v n)) 1
