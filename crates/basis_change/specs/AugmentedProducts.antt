-- Sums in a change from m to e, h or p: each term is the product of a basis polynomial of the target basis and an augmented monomial, which is m_λ
-- times the factorials of the multiplicities of the parts of λ.
use Rattle.std.specs.Prelude.{ℕ, ◌+◌, ◌-◌, ◌^◌, ◌<◌, ◌≤◌, nat_eq, Bool, ◌&&◌, cond}
use Rattle.std.specs.Prelude.{pos, negsuc, ℤ, List, [], ◌∷◌, ◌++◌, map, length, take}
use Rattle.std.specs.Cmp.Lexicographic.{pointwise}
use Rattle.fraction_laws.specs.Fractions.{whole}
use Rattle.sym_model.specs.LabelLimits.{is_pair_label}
use Rattle.sym_model.specs.Partition.{IsPartition, size, rows, part}
use Rattle.sym_model.specs.RaisedPart.{raise}
use Rattle.sym_model.specs.WholeTerms.{WholeTerms}
use Rattle.basis_change_laws.specs.JoinedLists.{merged, row, IsLow}
use Rattle.linear_combinations.specs.Entries.{IsCombination}
use Rattle.linear_combinations.specs.Gains.{WholeTermsOf, HaveLabels, each_with, mass}
use Rattle.family_lists.specs.FactorLists.{list_at}

-- the label of a term that is the product of a basis polynomial of the target basis and an augmented monomial: the partition of the former and the
-- partition of the latter
abbrev pub MixedLabel : Type 0
MixedLabel = List ℕ × List ℕ

-- a list of terms with integer coefficients, each the product of a basis polynomial of the target basis and an augmented monomial (`MixedLabel`)
abbrev pub Mixed : Type 0
Mixed = WholeTermsOf MixedLabel

-- whether two labels, each of two partitions, are equal
abbrev pub equal : MixedLabel → MixedLabel → Bool
equal a b = pointwise nat_eq a.0 b.0 && pointwise nat_eq a.1 b.1

-- the list is a table: no label occurs twice, and no coefficient is 0
abbrev pub IsMixedTable : Mixed → Type 0
IsMixedTable terms = IsCombination equal is_pair_label whole terms

-- the two lists of a label are partitions whose sizes add up to at most d, and the partition of the augmented monomial has at most `most` parts
pub record IsReady (d most : ℕ) (label : MixedLabel) : Type 0 where
  pub converted : IsPartition label.0
  pub augmented : IsPartition label.1
  pub low : size label.0 + size label.1 ≤ d
  pub few : length label.1 ≤ most

-- the absolute values of the coefficients add up to at most 2^k - 1, and the labels are partitions of at most k cells
pub record IsSmall (k : ℕ) (terms : WholeTerms) : Type 0 where
  pub few : mass terms + 1 ≤ 2 ^ k
  pub low : HaveLabels (IsLow k) terms

-- for each k from 1 to the number of lists, the list at the index k - 1, which is to be p_k in the target basis, satisfies `IsSmall` k
abbrev pub AreSmall : List WholeTerms → Type 0
AreSmall lists = (i : ℕ) → i < length lists → IsSmall (i + 1) (list_at lists i)

-- `factor`, a list in the target basis, times the polynomial of `converted` in that basis, times the augmented monomial of `augmented`, as a list of
-- terms
abbrev pub products : WholeTerms → List ℕ → List ℕ → Mixed
products factor converted augmented =
    map (λ (t : List ℕ × ℤ). ((merged converted t.0, augmented), t.1)) factor

-- for each b of the list `numbers`, the label of two partitions: `converted`, and `augmented` with one part b replaced by a + b
abbrev pub raised : List ℕ → ℕ → List ℕ → List ℕ → List MixedLabel
raised converted a augmented numbers = map (λ (b : ℕ). (converted, raise a b augmented)) numbers

-- The conversion of the augmented monomial of a partition at its last and smallest part a, with `rest` for the other parts: p_a times the augmented
-- monomial of `rest`, minus the augmented monomials of the partitions that are obtained if one part of `rest` is increased by a. Every term is
-- multiplied by the target basis's polynomial of `converted`, and the list of `factors` at the index a - 1 is p_a in the target basis. An augmented
-- monomial without parts is not changed.
abbrev pub conversion_of : List WholeTerms → List ℕ → List ℕ → Mixed
conversion_of factors converted [] = ((converted, []), pos 1) ∷ []
conversion_of factors converted (b ∷ others) =
    let parts = b ∷ others in
    let a = part parts (rows parts) in
    let rest = take (rows parts - 1) parts in
    products (list_at factors (a - 1)) converted rest
    ++ each_with (negsuc 0) (raised converted a rest rest)

-- the terms that replace a label: those of `conversion_of` if its augmented monomial has `count` parts; otherwise the label itself
abbrev pub conversion : List WholeTerms → ℕ → MixedLabel → Mixed
conversion factors count label =
    cond (nat_eq (length label.1) count) (conversion_of factors label.0 label.1)
    ((label, pos 1) ∷ [])

-- the conditions for converting a label: at most 15 lists `factors`, which are small (`AreSmall`); the sizes of the two partitions of the label add
-- up to at most the number of these lists; and its augmented monomial has at most `most` parts
pub record IsConvertible (factors : List WholeTerms) (most : ℕ) (label : MixedLabel) : Type 0 where
  pub small : AreSmall factors
  pub lists : length factors ≤ 15
  pub ready : IsReady (length factors) most label

-- a label whose augmented monomial has at most one part, as a list of terms in the target basis
abbrev pub in_target : List WholeTerms → MixedLabel → WholeTerms
in_target factors (converted, []) = (converted, pos 1) ∷ []
in_target factors (converted, (a ∷ rest)) = row converted (pos 1) (list_at factors (a - 1))
