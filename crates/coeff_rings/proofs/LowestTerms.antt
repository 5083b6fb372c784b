-- An integer of 128 bits divided by a positive number below 2^127, in lowest terms, is a fraction that `Frac` can
-- hold.
use Rattle.std.proofs.Common.{◌≡◌, ℕ, ◌*◌, ◌<◌, ◌^◌, Bool, true, false, cond, ◌∙◌, ap₂, refl, arith, ℤ, pos, ◌*ℤ◌}
use Rattle.std.specs.Prelude.{FitsSigned, Some, None}
use Rattle.std.specs.Int.{w128}
use Rattle.std.specs.Ordering.{int_eq}
use Rattle.std.proofs.lemmas.Int.{ints}
use Rattle.std.proofs.lemmas.Bool.{false_from_ne_true}
use Rattle.std.proofs.lemmas.Bool.Decides.{Decides-int_eq}
use Rattle.fraction_laws.specs.Fractions.{whole, lowest_terms}
use Rattle.fraction_laws.specs.Checked.{fits_fraction, checked_fraction, checked_fraction_quotient, checked_fraction_of}
use Rattle.fraction_laws.proofs.FractionAnswers.{IsFraction-lowest_terms, held-fits_fraction}
use Rattle.fraction_laws.proofs.Whole.{where_fits-true}

pub checked-quotient : (n : ℤ) (d : ℕ) → FitsSigned w128 n → 0 < d → d < 2 ^ 127 → checked_fraction_of n (pos d) ≡ Some (lowest_terms n d)
checked-quotient n d f h l =
    tested (int_eq (pos d) (pos 0)) (false_from_ne_true (int_eq (pos d) (pos 0)) (λ t. let e = (Decides-int_eq (pos d) (pos 0)).0 t in omega (arith, ints)))
    ∙ ap₂ (λ m e. checked_fraction (lowest_terms m e)) (let one : n *ℤ pos 1 ≡ n = omega (arith, ints) in one) (let one : 1 * d ≡ d = omega arith in one)
    ∙ where_fits-true (fits_fraction (lowest_terms n d)) (lowest_terms n d) (held-fits_fraction (lowest_terms n d) (IsFraction-lowest_terms n d h f l))
  where
    tested : (b : Bool) → b ≡ false → cond b None (checked_fraction_quotient (whole n) (whole (pos d))) ≡ checked_fraction (lowest_terms (n *ℤ pos 1) (1 * d))
    tested true e = cc
    tested false e = refl
