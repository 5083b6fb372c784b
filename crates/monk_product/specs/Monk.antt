-- Lists of permutations with integer coefficients. A letter of a permutation is *fixed* if it is equal to its place.
use Rattle.std.specs.Prelude.{ℕ, ◌+◌, ◌≤◌, ℤ, nat_eq, cond, max, List, [], ◌∷◌, length}
use Rattle.std.specs.Cmp.Lexicographic.{pointwise}
use Rattle.fraction_laws.specs.Fractions.{whole}
use Rattle.sym_model.specs.Sum.{Among}
use Rattle.sym_model.specs.LabelLimits.{is_permutation_label}
use Rattle.sym_model.specs.Polynomial.{same}
use Rattle.linear_combinations.specs.Entries.{IsCombination}
pub use Rattle.linear_combinations.specs.Gains.{over, mass, each_with}
pub use Rattle.transition_laws.specs.MonkTerms.{monk_terms, over_covers}
use Rattle.sym_model.specs.WholeTerms.{WholeTerms}

-- each permutation of the list of terms occurs once, and it has at most 255 letters and no fixed letter at the end
-- (`is_permutation_label`); no coefficient is 0
abbrev pub IsPermutationTable : WholeTerms → Type 0
IsPermutationTable terms = IsCombination (pointwise nat_eq) is_permutation_label whole terms

-- each permutation of the list of terms has at most `most` letters
abbrev pub AreShort : ℕ → WholeTerms → Type 0
AreShort most terms = (t : List ℕ × ℤ) → Among t terms → length t.0 ≤ most

-- the greatest number of letters of a permutation in the list of terms, 0 for the empty list
abbrev pub greatest_length : WholeTerms → ℕ
greatest_length [] = 0
greatest_length (t ∷ terms) = max (length t.0) (greatest_length terms)

-- the number of times that a permutation occurs in a list
abbrev pub count_of : List ℕ → List (List ℕ) → ℕ
count_of x [] = 0
count_of x (v ∷ vs) = cond (same v x) 1 0 + count_of x vs
