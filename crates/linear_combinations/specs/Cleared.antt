-- The addition of terms to a table, a list of labels with fractions as coefficients, stated with integers: q is a common denominator of the table,
-- and terms with integer coefficients are added to q times the table. Also the condition that this addition overflows.
use Rattle.std.specs.Prelude.{ℕ, ◌^◌, ◌<◌, pos, Bool, map}
use Rattle.std.specs.Int.{◌∣◌}
use Rattle.sym_model.specs.Expansion.{Fraction, Terms}
use Rattle.sym_model.specs.Sum.{Among}
use Rattle.fraction_laws.specs.Fractions.{scaled as numerator_over}
use Rattle.linear_combinations.specs.Entries.{coefficient, IsCombination}
use Rattle.linear_combinations.specs.Gains.{WholeTermsOf, scaled, Gains, Overflows}

-- q > 0 is a multiple of the denominator of the fraction c
pub record IsDenominator (q : ℕ) (c : Fraction) : Type 0 where
  pub positive : 0 < q
  pub multiple : c.1 ∣ q

-- q > 0 is a multiple of the denominators of all coefficients of the list
pub record IsCommonDenominator {L : Type 0} (q : ℕ) (terms : Terms L) : Type 0 where
  pub positive : 0 < q
  pub multiple : (t : L × Fraction) → Among t terms → t.1.1 ∣ q

-- the list with each coefficient replaced by its numerator over the common denominator q
abbrev pub numerators_over : {L : Type 0} → ℕ → Terms L → WholeTermsOf L
numerators_over {L} q terms = map (λ (t : L × Fraction). (t.0, numerator_over q t.1)) terms

-- for every label, the denominator of its coefficient in the table divides q
abbrev pub AreCleared : {L : Type 0} → (L → L → Bool) → ℕ → Terms L → Type 0
AreCleared {L} eq q terms = (label : L) → (coefficient eq (pos 0, 1) terms label).1 ∣ q

-- for tables of fractions: q·new = q·old + gained as formal sums, and q is a multiple of the denominators of the coefficients of new; new is a
-- combination (`IsCombination`) if old is one
pub record GainsCleared {L : Type 0} (eq : L → L → Bool) (is_label : L → Bool) (q : ℕ)
    (old : Terms L) (gained : WholeTermsOf L) (new : Terms L) : Type 0 where
  pub table : IsCombination eq is_label (λ (c : Fraction). c) old
      → IsCombination eq is_label (λ (c : Fraction). c) new
  pub cleared : AreCleared eq q new
  pub gains : Gains (numerators_over q old) gained (numerators_over q new)

-- adding `gained` to q·old overflows: at some label, |q·(old coefficient)| + Σ|gained coefficients| ≥ 2^127
abbrev pub OverflowsCleared : {L : Type 0} → (L → L → Bool) → ℕ → Terms L → WholeTermsOf L → Type 0
OverflowsCleared eq q old gained = Overflows eq (numerators_over q old) gained

-- new = old + c·terms: for each common denominator q of c and of the coefficients of old, q·new = q·old + q·c·terms (`GainsCleared`)
abbrev pub GainsMultiple : {L : Type 0} → (L → L → Bool) → (L → Bool) → Fraction → WholeTermsOf L
    → Terms L → Terms L → Type 0
GainsMultiple eq is_label c terms old new =
    (q : ℕ) → IsDenominator q c → AreCleared eq q old
    → GainsCleared eq is_label q old (scaled (numerator_over q c) terms) new

-- the statement that adding c·terms to old overflows: for each common denominator q < 2^127 of c and of the coefficients of old, adding q·c·terms to
-- q·old overflows
abbrev pub OverflowsMultiple : {L : Type 0} → (L → L → Bool) → Fraction → WholeTermsOf L → Terms L
    → Type 0
OverflowsMultiple eq c terms old =
    (q : ℕ) → IsDenominator q c → q < 2 ^ 127 → AreCleared eq q old
    → OverflowsCleared eq q old (scaled (numerator_over q c) terms)
