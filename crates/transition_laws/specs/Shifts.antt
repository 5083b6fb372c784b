-- Sums of terms y^e·S_w, as lists of labels (w, e) with integer coefficients, and their products with x_r - y_c.
use Rattle.std.specs.Prelude.{ℕ, ◌≤◌, max, nat_eq, Bool, ◌&&◌, ℤ, pos, negsuc, List, [], ◌∷◌, ◌++◌}
use Rattle.std.specs.Prelude.{length}
use Rattle.std.specs.Cmp.Lexicographic.{pointwise}
use Rattle.fraction_laws.specs.Fractions.{whole}
use Rattle.sym_model.specs.DividedDifference.{raised}
use Rattle.sym_model.specs.LabelLimits.{is_shifted_label}
use Rattle.sym_model.specs.Partition.{size}
use Rattle.sym_model.specs.Permutation.{letter, covers_up, covers_down}
use Rattle.linear_combinations.specs.Entries.{IsCombination}
use Rattle.linear_combinations.specs.Gains.{WholeTermsOf}

-- a sum of terms y^e·S_w: a list of labels (w, e) with integer coefficients
abbrev pub ShiftedSum : Type 0
ShiftedSum = WholeTermsOf (List ℕ × List ℕ)

-- a permutation of at most `letters` letters and a monomial of a degree of at most `degree`
pub record IsWithin (letters degree : ℕ) (label : List ℕ × List ℕ) : Type 0 where
  pub short : length label.0 ≤ letters
  pub small : size label.1 ≤ degree

-- each of the indices r and c of x_r - y_c is from 1 to 254
pub record IsFactor (r c : ℕ) : Type 0 where
  pub first : 1 ≤ r
  pub last : r ≤ 254
  pub column : 1 ≤ c
  pub last_column : c ≤ 254

-- the greatest number of letters of a permutation w, over the labels (w, e) of the list; 0 for the empty list
abbrev pub greatest_length : ShiftedSum → ℕ
greatest_length [] = 0
greatest_length (t ∷ terms) = max (length t.0.0) (greatest_length terms)

-- whether two labels are the same
abbrev pub equal : List ℕ × List ℕ → List ℕ × List ℕ → Bool
equal a b = pointwise nat_eq a.0 b.0 && pointwise nat_eq a.1 b.1

-- the list is a table: no label occurs twice, each is within the limits of a label (`is_shifted_label`), and no
-- coefficient is 0
abbrev pub IsShiftedTable : ShiftedSum → Type 0
IsShiftedTable terms = IsCombination equal is_shifted_label whole terms

-- `each_beside k e vs`: the labels (v, e) for the permutations v of the list vs, each with the coefficient k
abbrev pub each_beside : ℤ → List ℕ → List (List ℕ) → ShiftedSum
each_beside k e [] = []
each_beside k e (v ∷ vs) = ((v, e), k) ∷ each_beside k e vs

-- the product of x_r - y_c and the term y^e·S_w with the label (w, e), by Monk's rule
abbrev pub factor_terms : ℕ → ℕ → List ℕ × List ℕ → ShiftedSum
factor_terms r c label =
    each_beside (pos 1) label.1 (covers_up r label.0)
    ++ (each_beside (negsuc 0) label.1 (covers_down r label.0)
    ++ (((label.0, raised (letter label.0 r) label.1), pos 1)
    ∷ ((label.0, raised c label.1), negsuc 0) ∷ []))
