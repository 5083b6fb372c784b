-- Finite linear combinations of labels with fractions as coefficients, given as lists of terms. The definitions are those of `specs/Entries` of the
-- crate linear_combinations, for scalars that are fractions.
use Rattle.std.specs.Prelude.{ℕ, nat_eq, pos, Bool, List, map}
use Rattle.std.specs.Cmp.Lexicographic.{pointwise}
use Rattle.std.specs.declared.cmp.Ordering.{Ordering}
use Rattle.fraction_laws.specs.Fractions.{fraction_sum, fraction_product}
use Rattle.sym_model.specs.Expansion.{Fraction, Terms}
use Rattle.sym_model.specs.Canonical.{is_label}
use Rattle.sym_model.specs.LabelLimits.{is_monomial_label}
use Rattle.linear_combinations.specs.Entries

-- for a list of pairs of a label and a scalar: the list of terms with the same labels, each with the value of its scalar as the coefficient
abbrev pub terms_of : {L R : Type 0} → (R → Fraction) → List (L × R) → Terms L
terms_of {L} {R} value pairs = map (λ (p : L × R). (p.0, value p.1)) pairs

-- the coefficient of a label in a list of terms; 0 if the label does not occur
abbrev pub coefficient : {L : Type 0} → (L → L → Bool) → Terms L → L → Fraction
coefficient eq terms label = Entries.coefficient eq (pos 0, 1) terms label

-- whether each coefficient is in lowest terms and not 0, and each label passes the given test
abbrev pub are_terms : {L : Type 0} → (L → Bool) → Terms L → Bool
are_terms is_label terms = Entries.are_terms (λ (c : Fraction). c) is_label terms

-- a finite linear combination: each label passes the given test and occurs once, up to the given equality, with a coefficient that is not 0 and in
-- lowest terms
abbrev pub IsCombination : {L : Type 0} → (L → L → Bool) → (L → Bool) → Terms L → Type 0
IsCombination eq is_label terms = Entries.IsCombination eq is_label (λ (c : Fraction). c) terms

-- a finite linear combination of partitions within the limits: each occurs once, with a coefficient that is not 0
-- and in lowest terms
abbrev pub IsPartitionTable : Terms (List ℕ) → Type 0
IsPartitionTable terms = IsCombination (pointwise nat_eq) is_label terms

-- a finite linear combination of monomials within the limits: each occurs once, with a coefficient that is not 0 and
-- in lowest terms
abbrev pub IsPolynomialTable : Terms (List ℕ) → Type 0
IsPolynomialTable terms = IsCombination (pointwise nat_eq) is_monomial_label terms

-- whether a list of terms is canonical: the labels are in the given order, occur once and pass the given test, and each coefficient is not 0 and in
-- lowest terms
abbrev pub is_canonical_list : {L : Type 0} → (L → L → Ordering) → (L → Bool) → Terms L → Bool
is_canonical_list order is_label terms =
    Entries.is_canonical_list order is_label (λ (c : Fraction). c) terms

-- in the list `new`, the coefficient of `label` is greater by the fraction c than in the list `old`; every other label has the same coefficient in
-- both lists
abbrev pub HasMoreAt : {L : Type 0} → (L → L → Bool) → Terms L → L → Fraction → Terms L → Type 0
HasMoreAt eq old label c new = Entries.HasMoreAt eq (pos 0, 1) fraction_sum old label c new

-- the coefficient of each label in the list `sum` is the sum of its coefficients in the lists `first` and `second`
abbrev pub IsSumOf : {L : Type 0} → (L → L → Bool) → Terms L → Terms L → Terms L → Type 0
IsSumOf eq first second sum = Entries.IsSumOf eq (pos 0, 1) fraction_sum first second sum

-- the coefficient of each label in the list `multiple` is c times its coefficient in the list `terms`
abbrev pub IsMultipleOf : {L : Type 0} → (L → L → Bool) → Terms L → Fraction → Terms L → Type 0
IsMultipleOf eq terms c multiple =
    Entries.IsMultipleOf eq (pos 0, 1) fraction_product terms c multiple

-- the two lists have the same coefficient at every label
abbrev pub HasSameCoefficients : {L : Type 0} → (L → L → Bool) → Terms L → Terms L → Type 0
HasSameCoefficients eq first second = Entries.HasSameCoefficients eq (pos 0, 1) first second
