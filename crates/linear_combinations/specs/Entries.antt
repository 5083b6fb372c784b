-- Finite linear combinations of labels, as lists of labels with their coefficients.
use Rattle.std.specs.Prelude.{◌≡◌, ℕ, ℤ, nat_eq, Bool, true, ◌&&◌, Option, Some, None, List, []}
use Rattle.std.specs.Prelude.{◌∷◌, if◌then◌else◌, IsTrue}
use Rattle.std.specs.Cmp.Lexicographic.{pointwise}
use Rattle.std.specs.List.{IsDistinct}
use Rattle.std.specs.Map.{lookup, keys_of}
use Rattle.std.specs.Option.{unwrap_or}
use Rattle.std.specs.Ordering.{is_lt}
use Rattle.std.specs.declared.cmp.Ordering.{Ordering}
use Rattle.sym_model.specs.Expansion.{Fraction}
use Rattle.fraction_laws.specs.Fractions.{whole}
use Rattle.sym_model.specs.Canonical.{is_label, is_reduced}
use Rattle.sym_model.specs.Sum.{Among}

-- the coefficient of a label in a list; 0 if the label does not occur
abbrev pub coefficient : {L R : Type 0} → (L → L → Bool) → R → List (L × R) → L → R
coefficient eq zero entries label = unwrap_or (lookup (eq label) entries) zero

-- whether the coefficient is a fraction in lowest terms that is not 0, and the label is within the limits of its type
abbrev pub is_term : {L R : Type 0} → (R → Fraction) → (L → Bool) → L × R → Bool
is_term value is_label t = is_reduced (value t.1) && is_label t.0

abbrev pub are_terms : {L R : Type 0} → (R → Fraction) → (L → Bool) → List (L × R) → Bool
are_terms value is_label [] = true
are_terms value is_label (t ∷ entries) =
    is_term value is_label t && are_terms value is_label entries

-- a finite linear combination: each label occurs once and is within the limits of its type, and its coefficient is in lowest terms and not 0
pub record IsCombination {L R : Type 0} (eq : L → L → Bool) (is_label : L → Bool)
    (value : R → Fraction) (entries : List (L × R)) : Type 0 where
  pub distinct : IsDistinct eq (keys_of entries)
  pub proper : IsTrue (are_terms value is_label entries)

-- a finite linear combination of partitions with integer coefficients
abbrev pub IsWholeTable : List (List ℕ × ℤ) → Type 0
IsWholeTable entries = IsCombination (pointwise nat_eq) is_label whole entries

-- the scalar type of the ring can represent the coefficient of each label
pub record AreHeld {L R : Type 0} (eq : L → L → Bool) (zero : R) (is_held : R → Type 0)
    (entries : List (L × R)) : Type 0 where
  pub at_label : (label : L) → is_held (coefficient eq zero entries label)

-- a table: a finite linear combination whose coefficients the scalar type of the ring can represent
pub record IsTable {L R : Type 0} (eq : L → L → Bool) (is_label : L → Bool) (zero : R)
    (value : R → Fraction) (is_held : R → Type 0) (entries : List (L × R)) : Type 0 where
  pub combination : IsCombination eq is_label value entries
  pub held : AreHeld eq zero is_held entries

-- the list before a change (`old`) and the list after it (`new`) are both tables, that is, satisfy `IsTable`
pub record AreTables {L R : Type 0} (eq : L → L → Bool) (is_label : L → Bool) (zero : R)
    (value : R → Fraction) (is_held : R → Type 0) (old new : List (L × R)) : Type 0 where
  pub before : IsTable eq is_label zero value is_held old
  pub after : IsTable eq is_label zero value is_held new

-- whether each label comes strictly before the next one in the given order
abbrev pub is_ordered : {L R : Type 0} → (L → L → Ordering) → List (L × R) → Bool
is_ordered order [] = true
is_ordered order (t ∷ []) = true
is_ordered order (t ∷ u ∷ entries) = is_lt (order t.0 u.0) && is_ordered order (u ∷ entries)

-- whether a list is canonical: the labels are in strictly increasing order, and each term satisfies `is_term` (its label is within the limits, and
-- its coefficient is in lowest terms and not 0)
abbrev pub is_canonical_list : {L R : Type 0} → (L → L → Ordering) → (L → Bool) → (R → Fraction)
    → List (L × R) → Bool
is_canonical_list order is_label value entries =
    is_ordered order entries && are_terms value is_label entries

abbrev pub IsCanonicalList : {L R : Type 0} → (L → L → Ordering) → (L → Bool) → (R → Fraction)
    → List (L × R) → Type 0
IsCanonicalList order is_label value entries =
    IsTrue (is_canonical_list order is_label value entries)

-- the coefficient of the label in the new list is its coefficient in the old list plus c; every other coefficient is unchanged
abbrev pub HasMoreAt : {L R : Type 0} → (L → L → Bool) → R → (R → R → R) → List (L × R) → L → R
    → List (L × R) → Type 0
HasMoreAt {L} eq zero sum old label c new = (other : L) → coefficient eq zero new other
    ≡ (if eq label other then sum
    (coefficient eq zero old label) c else coefficient eq zero old other)

-- the coefficient of each label in `both` is the sum of those in the lists `first` and `second`
abbrev pub IsSumOf : {L R : Type 0} → (L → L → Bool) → R → (R → R → R) → List (L × R) → List (L × R)
    → List (L × R) → Type 0
IsSumOf {L} eq zero sum first second both =
    (label : L) → coefficient eq zero both label
    ≡ sum (coefficient eq zero first label) (coefficient eq zero second label)

-- the coefficient of each label in `multiple` is that in the list `entries` times c
abbrev pub IsMultipleOf : {L R : Type 0} → (L → L → Bool) → R → (R → R → R) → List (L × R) → R
    → List (L × R) → Type 0
IsMultipleOf {L} eq zero product entries c multiple =
    (label : L) → coefficient eq zero multiple label ≡ product (coefficient eq zero entries label) c

-- the two lists have the same coefficient at every label
abbrev pub HasSameCoefficients : {L R : Type 0} → (L → L → Bool) → R → List (L × R) → List (L × R)
    → Type 0
HasSameCoefficients {L} eq zero first second =
    (label : L) → coefficient eq zero second label ≡ coefficient eq zero first label

-- the scalar type of the ring can represent the scalars a and b, but the checked operation has no result for them
pub record IsRefused {R : Type 0} (is_held : R → Type 0) (checked : R → R → Option R)
    (a b : R) : Type 0 where
  pub left_held : is_held a
  pub right_held : is_held b
  pub refused : checked a b ≡ None

-- at some label the checked addition of the ring has no result for the coefficients in the two lists (`IsRefused`)
abbrev pub RefusesSomeSum : {L R : Type 0} → (L → L → Bool) → R → (R → Type 0) → (R → R → Option R)
    → List (L × R) → List (L × R) → Type 0
RefusesSomeSum {L} eq zero is_held checked first second =
    (label : L) × IsRefused is_held checked (coefficient eq zero first label)
    (coefficient eq zero second label)

-- the checked multiplication of the ring has no result for some coefficient of the list and c (`IsRefused`)
abbrev pub RefusesSomeProduct : {L R : Type 0} → (R → Type 0) → (R → R → Option R) → List (L × R)
    → R → Type 0
RefusesSomeProduct {L} {R} is_held checked entries c =
    (t : L × R) × Among t entries × IsRefused is_held checked t.1 c

-- whether a label comes strictly after the previous label, or there is no previous label
abbrev pub is_later : {L : Type 0} → (L → L → Ordering) → Option L → L → Bool
is_later order None label = true
is_later order (Some previous) label = is_lt (order previous label)

-- whether a term may follow the previous label in a list that is in order (`is_canonical_list`): it satisfies `is_term`, and its label comes strictly
-- after the previous one, if there is one
abbrev pub is_next : {L R : Type 0} → (L → L → Ordering) → (L → Bool) → (R → Fraction) → Option L
    → L × R → Bool
is_next order is_label value previous t = is_later order previous t.0 && is_term value is_label t

-- whether the first of these terms may follow the previous label, and each later term the label of the term before it
abbrev pub each_follows : {L R : Type 0} → (L → L → Ordering) → (L → Bool) → (R → Fraction)
    → Option L → List (L × R) → Bool
each_follows order is_label value previous [] = true
each_follows order is_label value previous (t ∷ entries) =
    is_next order is_label value previous t && each_follows order is_label value (Some t.0) entries
