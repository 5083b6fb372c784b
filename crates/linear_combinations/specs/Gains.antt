-- Terms added to a table, a list of different labels with integers as coefficients. The added terms are a list of labels with integers, in which a
-- label may occur several times.
use Rattle.std.specs.Prelude.{◌≡◌, ℕ, ◌+◌, ◌^◌, ◌≤◌, ℤ, pos, ◌+ℤ◌, nat_abs, Bool, cond, List}
use Rattle.std.specs.Prelude.{[], ◌∷◌, ◌++◌, map, FitsSigned}
use Rattle.std.specs.Int.{w128}
use Rattle.fraction_laws.specs.Checked.{checked_i128}
use Rattle.sym_model.specs.Polynomial.{pair}
use Rattle.linear_combinations.specs.Entries.{coefficient, IsRefused}
-- `scaled c terms`: the list `terms` with each coefficient multiplied by c
pub use Rattle.sym_model.specs.Polynomial.{scale as scaled}
-- `mass`: the sum of the absolute values of all coefficients
pub use Rattle.sym_model.specs.WholeTerms.{WholeTermsOf, HaveLabels, weighed, absolute_total as mass}

-- the sum of c·φ(label) over the terms, for a function φ of labels
abbrev pub over : {L : Type 0} → (L → ℤ) → WholeTermsOf L → ℤ
over φ terms = pair terms φ

-- the function of labels that is 1 at a given label and 0 at all others
abbrev pub only : {L : Type 0} → (L → L → Bool) → L → L → ℤ
only eq x label = cond (eq x label) (pos 1) (pos 0)

-- the sum of the absolute values of the coefficients at a label
abbrev pub mass_at : {L : Type 0} → (L → L → Bool) → L → WholeTermsOf L → ℕ
mass_at eq x [] = 0
mass_at eq x (t ∷ terms) = cond (eq x t.0) (nat_abs t.1) 0 + mass_at eq x terms

-- the labels of a list, each with the coefficient c
abbrev pub each_with : {L : Type 0} → ℤ → List L → WholeTermsOf L
each_with c [] = []
each_with c (label ∷ labels) = (label, c) ∷ each_with c labels

-- the labels of a list, each with the coefficient that a function gives it
abbrev pub each_by : {L : Type 0} → (L → ℤ) → List L → WholeTermsOf L
each_by {L} coefficient labels = map (λ (x : L). (x, coefficient x)) labels

-- the labels of a list, each with the coefficient that a function with natural numbers as values gives it
abbrev pub counted : {L : Type 0} → (L → ℕ) → List L → WholeTermsOf L
counted count labels = each_by (λ x. pos (count x)) labels

-- the image of a list under a linear map that is given on labels: for each term (k, c), c times the image of k
abbrev pub replaced : {K L : Type 0} → (K → WholeTermsOf L) → WholeTermsOf K → WholeTermsOf L
replaced image [] = []
replaced image (t ∷ terms) = scaled t.1 (image t.0) ++ replaced image terms

-- the table `new` is the table `old` plus the terms `gained`, as formal sums
pub record Gains {L : Type 0} (old gained new : WholeTermsOf L) : Type 0 where
  pub sums : (φ : L → ℤ) → over φ new ≡ over φ old +ℤ over φ gained

-- adding the terms `gained` to the table `old` overflows: at some label, |old coefficient| + Σ|gained coefficients| ≥ 2^127
abbrev pub Overflows : {L : Type 0} → (L → L → Bool) → WholeTermsOf L → WholeTermsOf L → Type 0
Overflows {L} eq old gained =
    (x : L) × (2 ^ 127 ≤ nat_abs (over (only eq x) old) + mass_at eq x gained)

-- REFUSAL: the list `terms` that is to be added to `old` has a first term (label, c); c and the coefficient of `old` at this label fit i128, but
-- their sum does not
abbrev pub RefusesFirst : {L : Type 0} → (L → L → Bool) → WholeTermsOf L → WholeTermsOf L → Type 0
RefusesFirst eq old [] = ⊥
RefusesFirst eq old (t ∷ terms) =
    IsRefused (FitsSigned w128) (λ a b. checked_i128 (a +ℤ b)) (coefficient eq (pos 0) old t.0) t.1
