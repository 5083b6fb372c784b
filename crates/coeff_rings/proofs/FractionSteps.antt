-- `Frac` is the type of the fractions whose numerators and denominators fit in 128 bits. Here the results of its functions
-- are derived from the results of the functions that they call.
use Rattle.std.proofs.Common.{◌≡◌, ℕ, ◌*◌, ◌/◌, ◌<◌, ◌^◌, sym, refl, ap, ◌∙◌, subst, ℤ, pos, ◌+ℤ◌, ◌-ℤ◌, ◌*ℤ◌, unsigned_abs, Bool, true, false, FitsSigned, Option, Some, None}
use Rattle.std.specs.Int.{w128, IsGcd}
use native.Mathlib.Nat.{dvd_refl, div_self, mul-one}
use Rattle.sym_model.proofs.Ring.{product-one}
use Rattle.sym_model.specs.Expansion.{Fraction}
use Rattle.fraction_laws.specs.Fractions.{greatest_common_divisor, lowest_terms, fraction_sum, fraction_difference}
use Rattle.fraction_laws.specs.Checked.{where_fits, IsFraction, CommonFits, fits_fraction, checked_fraction, numerator_over_common, common_denominator, four_numbers_fit, checked_fraction_sum, checked_fraction_difference}
use Rattle.fraction_laws.specs.Answers.{AnswersSum, AnswersDifference}
use Rattle.fraction_laws.proofs.Divisors.{greatest_common_divisor-is}
use Rattle.fraction_laws.proofs.Fractions.{Stands-same, Stands-itself, Stands-lowest_terms}
use Rattle.fraction_laws.proofs.Whole.{where_fits-true}
use Rattle.fraction_laws.proofs.FractionAnswers.{IsFraction-lowest_terms, held-fits_fraction, common_positive, sum_over_common, difference_over_common, FourNumbersFit, four_numbers_fit-true, FourNumbersFit-from, greatest_common_divisor_comm, sum_answers_fraction, difference_answers_fraction}

pub sum_answers_fraction-from : (a b : Fraction) (answer : Option Fraction) → IsFraction a → IsFraction b → answer ≡ checked_fraction_sum a b → AnswersSum (λ r. r) a b answer
sum_answers_fraction-from a b answer h k e = subst (AnswersSum (λ r. r) a b) (sym e) (sum_answers_fraction a b h k)

pub difference_answers_fraction-from : (a b : Fraction) (answer : Option Fraction) → IsFraction a → IsFraction b → answer ≡ checked_fraction_difference a b → AnswersDifference (λ r. r) a b answer
difference_answers_fraction-from a b answer h k e = subst (AnswersDifference (λ r. r) a b) (sym e) (difference_answers_fraction a b h k)

-- let the least common denominator D of a and b, the numerators of a and b over D, and the number `total` fit in 128 bits
-- with a sign. If r is total/D in lowest terms, then `checked_fraction r` is `Some r`, which is the result that
-- `where_fits (four_numbers_fit a b total) r` gives.
pub total-reached : (a b r : Fraction) (total : ℤ) → IsFraction a → IsFraction b → CommonFits a b → FitsSigned w128 total
    → lowest_terms total (common_denominator a b) ≡ r → checked_fraction (lowest_terms total (common_denominator a b)) ≡ where_fits (four_numbers_fit a b total) r
total-reached a b r total h k c f e =
    let l = lowest_terms total (common_denominator a b) in
    let held : IsFraction l = IsFraction-lowest_terms total (common_denominator a b) (common_positive a b h.lowest.positive k.lowest.positive) f c.den in
    let four : FourNumbersFit a b total = record { left = c.left; right = c.right; total_fits = f; den = c.den } in
    where_fits-true (fits_fraction l) l (held-fits_fraction l held) ∙ ap Some e ∙ sym (where_fits-true (four_numbers_fit a b total) r (four_numbers_fit-true a b total four))

over_steps : (total t : ℤ) (den d : ℕ) (answer : Option Fraction) → total ≡ t → den ≡ d → answer ≡ checked_fraction (lowest_terms total den) → answer ≡ checked_fraction (lowest_terms t d)
over_steps total t den d answer e f a =
    a ∙ ap (λ (z : ℤ). checked_fraction (lowest_terms z den)) e ∙ ap (λ (n : ℕ). checked_fraction (lowest_terms t n)) f

pub sum-reached : (a b : Fraction) (left right total : ℤ) (den : ℕ) (answer : Option Fraction) → IsFraction a → IsFraction b → CommonFits a b
    → left ≡ numerator_over_common a b → right ≡ numerator_over_common b a → den ≡ common_denominator a b
    → FitsSigned w128 (left +ℤ right) → total ≡ left +ℤ right → answer ≡ checked_fraction (lowest_terms total den) → answer ≡ checked_fraction_sum a b
sum-reached a b left right total den answer h k c el er ed f t s =
    let sum : left +ℤ right ≡ numerator_over_common a b +ℤ numerator_over_common b a = ap (λ z. z +ℤ right) el ∙ ap (λ z. numerator_over_common a b +ℤ z) er in
    over_steps total (numerator_over_common a b +ℤ numerator_over_common b a) den (common_denominator a b) answer (t ∙ sum) ed s
    ∙ total-reached a b (fraction_sum a b) _ h k c (subst (FitsSigned w128) sum f) (sum_over_common a b h.lowest k.lowest)

pub difference-reached : (a b : Fraction) (left right total : ℤ) (den : ℕ) (answer : Option Fraction) → IsFraction a → IsFraction b → CommonFits a b
    → left ≡ numerator_over_common a b → right ≡ numerator_over_common b a → den ≡ common_denominator a b
    → FitsSigned w128 (left -ℤ right) → total ≡ left -ℤ right → answer ≡ checked_fraction (lowest_terms total den) → answer ≡ checked_fraction_difference a b
difference-reached a b left right total den answer h k c el er ed f t s =
    let rest : left -ℤ right ≡ numerator_over_common a b -ℤ numerator_over_common b a = ap (λ z. z -ℤ right) el ∙ ap (λ z. numerator_over_common a b -ℤ z) er in
    over_steps total (numerator_over_common a b -ℤ numerator_over_common b a) den (common_denominator a b) answer (t ∙ rest) ed s
    ∙ total-reached a b (fraction_difference a b) _ h k c (subst (FitsSigned w128) rest f) (difference_over_common a b h.lowest k.lowest)

refused : (t : Bool) (r : Fraction) → (t ≡ true → ⊥) → None ≡ where_fits t r
refused true r h = absurd (h refl)
refused false r h = refl

pub sum-refused : (a b : Fraction) → (FourNumbersFit a b (numerator_over_common a b +ℤ numerator_over_common b a) → ⊥) → None ≡ checked_fraction_sum a b
sum-refused a b h = refused _ (fraction_sum a b) (λ t. h (FourNumbersFit-from a b _ t))

pub difference-refused : (a b : Fraction) → (FourNumbersFit a b (numerator_over_common a b -ℤ numerator_over_common b a) → ⊥) → None ≡ checked_fraction_difference a b
difference-refused a b h = refused _ (fraction_difference a b) (λ t. h (FourNumbersFit-from a b _ t))

pub CommonFits-from : (a b : Fraction) (total : ℤ) → FourNumbersFit a b total → CommonFits a b
CommonFits-from a b total h = record { left = h.left; right = h.right; den = h.den }

-- if g is the greatest common divisor of the denominators of a and b, then the numerator of a over the least common
-- denominator of a and b is the numerator of a times (the denominator of b)/g
pub numerator-left : (a b : Fraction) (g : ℕ) → g ≡ greatest_common_divisor a.1 b.1 → a.0 *ℤ pos (b.1 / g) ≡ numerator_over_common a b
numerator-left a b g e = ap (λ (n : ℕ). a.0 *ℤ pos (b.1 / n)) e

pub numerator-right : (a b : Fraction) (g : ℕ) → 0 < a.1 → 0 < b.1 → g ≡ greatest_common_divisor a.1 b.1 → b.0 *ℤ pos (a.1 / g) ≡ numerator_over_common b a
numerator-right a b g sa sb e = ap (λ (n : ℕ). b.0 *ℤ pos (a.1 / n)) (e ∙ greatest_common_divisor_comm a.1 b.1)

pub denominator-common : (a b : Fraction) (g : ℕ) → g ≡ greatest_common_divisor a.1 b.1 → a.1 * (b.1 / g) ≡ common_denominator a b
denominator-common a b g e = ap (λ (n : ℕ). a.1 * (b.1 / n)) e

-- if z fits in 128 bits with a sign, 0 < d < 2^127, and z and d are coprime, then z/d is a fraction that `Frac` can
-- hold
pub IsFraction-coprime : (z : ℤ) (d : ℕ) → FitsSigned w128 z → 0 < d → d < 2 ^ 127 → IsGcd (unsigned_abs z) d 1 → IsFraction (z, d)
IsFraction-coprime z d f some small h = record { fits = f; small = small; lowest = record { positive = some; coprime = h } }

pub checked_fraction-coprime : (z : ℤ) (d : ℕ) → FitsSigned w128 z → 0 < d → d < 2 ^ 127 → IsGcd (unsigned_abs z) d 1 → Some (z, d) ≡ checked_fraction (lowest_terms z d)
checked_fraction-coprime z d f some small h =
    let held = IsFraction-coprime z d f some small h in
    let same : lowest_terms z d ≡ (z, d) = Stands-same _ _ _ _ _ _ (Stands-lowest_terms z d some) (Stands-itself (z, d) held.lowest) refl in
    sym (where_fits-true (fits_fraction (z, d)) (z, d) (held-fits_fraction (z, d) held)) ∙ sym (ap checked_fraction same)

-- ---- two fractions with equal denominators, over their least common denominator

IsGcd-itself : (n : ℕ) → IsGcd n n n
IsGcd-itself n = (dvd_refl n, dvd_refl n, λ d p q. p)

pub divisor-same : (a b : Fraction) → 0 < a.1 → a.1 ≡ b.1 → greatest_common_divisor a.1 b.1 ≡ a.1
divisor-same a b some e =
    ap (λ (n : ℕ). greatest_common_divisor a.1 n) (sym e) ∙ greatest_common_divisor-is a.1 a.1 a.1 (IsGcd-itself a.1)

pub numerator-same : (a b : Fraction) → 0 < a.1 → a.1 ≡ b.1 → numerator_over_common a b ≡ a.0
numerator-same a b some e =
    ap (λ (n : ℕ). a.0 *ℤ pos (b.1 / n)) (divisor-same a b some e) ∙ ap (λ (n : ℕ). a.0 *ℤ pos (n / a.1)) (sym e)
    ∙ ap (λ (n : ℕ). a.0 *ℤ pos n) (div_self some) ∙ product-one a.0

pub denominator-same : (a b : Fraction) → 0 < a.1 → a.1 ≡ b.1 → common_denominator a b ≡ a.1
denominator-same a b some e =
    ap (λ (n : ℕ). a.1 * (b.1 / n)) (divisor-same a b some e) ∙ ap (λ (n : ℕ). a.1 * (n / a.1)) (sym e)
    ∙ ap (λ (n : ℕ). a.1 * n) (div_self some) ∙ mul-one a.1
