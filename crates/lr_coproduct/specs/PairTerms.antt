-- Terms labelled by pairs of partitions, for Schur polynomials in two sets of variables.
use Rattle.std.specs.Prelude.{◌≡◌, ℕ, ℤ, pos, List, map}
use Rattle.std.specs.declared.cmp.Ordering.TheVariants.{Less}
use Rattle.sym_model.specs.Polynomial.{Poly}
use Rattle.sym_model.specs.Partition.{IsPartition, Holds}
use Rattle.sym_model.specs.GoodTableau.{skew_count}
use Rattle.sym_model.specs.Sum.{Among}
use Rattle.sym_model.specs.PrintedOrder.{printed_order}
use Rattle.sym_model.specs.Expansion.{pair_polynomial}
use Rattle.sym_model.specs.WholeTerms.{WholeTermsOf, WholeTerms, combined, coefficient_by}
use Rattle.sym_model.specs.WholeTerms.{same_pair}

-- the polynomial in n + k variables that is the sum of the terms: a pair (μ, ν) denotes s_μ in the first n variables times s_ν in the last k
abbrev pub pair_sum : ℕ → ℕ → WholeTermsOf (List ℕ × List ℕ) → Poly
pair_sum n k terms = combined (pair_polynomial n k) terms

-- the polynomial in n + k variables that is the sum of the terms, each label ν read as the pair (first, ν)
abbrev pub second_sum : ℕ → ℕ → List ℕ → WholeTerms → Poly
second_sum n k first terms =
    combined (λ (second : List ℕ). pair_polynomial n k (first, second)) terms

-- the coefficient of the pair (first, second): the sum of the coefficients of the terms with this label
abbrev pub pair_coefficient : WholeTermsOf (List ℕ × List ℕ) → List ℕ → List ℕ → ℤ
pair_coefficient terms first second = coefficient_by same_pair terms (first, second)

-- for each partition `first` inside `shape` and each partition `second`, the coefficient of the pair (first, second) is the number of lattice
-- tableaux of shape/first with the content `second`
abbrev pub HavePairCounts : List ℕ → WholeTermsOf (List ℕ × List ℕ) → Type 0
HavePairCounts shape terms =
    (first second : List ℕ) → IsPartition first → Holds shape first → IsPartition second
    → pair_coefficient terms first second ≡ pos (skew_count shape first second)

-- the terms of the list, with the pair (first, ν) in place of each label ν
abbrev pub with_first : List ℕ → WholeTerms → WholeTermsOf (List ℕ × List ℕ)
with_first first terms = map (λ (t : List ℕ × ℤ). ((first, t.0), t.1)) terms

-- the first partition of each label comes strictly before `first` in the printed order
abbrev pub AreBefore : WholeTermsOf (List ℕ × List ℕ) → List ℕ → Type 0
AreBefore terms first =
    (t : (List ℕ × List ℕ) × ℤ) → Among t terms → printed_order t.0.0 first ≡ Less
